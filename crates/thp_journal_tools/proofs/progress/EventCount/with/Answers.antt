use Rattle.std.proofs.Common.{◌∙◌, ◌+◌, length}
use Rattle.thp_journal_tools.specs.Counting.{events_from}
use Rattle.thp_journal_tools.proofs.CountLaws.{begins_on, counts_on, room_on}
use Rattle.thp_journal_tools.proofs.progress.EventCount.with.Goals as goal

pub loop-rest-preserved : goal.loop-rest-preserved
loop-rest-preserved c =
    let front = c.split_at.result.0.now in
    let back = c.split_at.result.1.now in
    let was = c.loop-rest.counted in
    let now = c.with_few-counted.result in
    record {
      events = counts_on was.begins c.min.result c.loop-rest.rest.now front back c.split_at.ensures.front c.split_at.ensures.back (c.args.self.events + events_from c.args.self.begins c.args.bytes.now) was.events now.events now.begins
          c.with_few-counted.ensures.events c.with_few-counted.ensures.begins c.loop-rest.invariant.events;
      room = room_on was.begins c.min.result c.loop-rest.rest.now front back c.split_at.ensures.front c.split_at.ensures.back (c.args.self.events + length c.args.bytes.now) was.events now.events
          c.with_few-counted.ensures.events c.loop-rest.invariant.room;
      begins = begins_on was.begins c.min.result c.loop-rest.rest.now front back c.split_at.ensures.front c.split_at.ensures.back now.begins c.with_few-counted.ensures.begins ∙ c.loop-rest.invariant.begins;
    }
