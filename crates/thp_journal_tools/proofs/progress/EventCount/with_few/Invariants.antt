use Rattle.std.proofs.Common.{◌≡◌, ◌≤◌, ◌+◌, drop}
use Rattle.thp_journal_tools.specs.Counting.{begins_after, events_from}
use Rattle.thp_journal_tools.proofs.progress.EventCount.with_few.Given as goal

-- what the rest of the bytes adds to the count so far is what they all add
abbrev pub invariant-loop-byte : goal.invariant-loop-byte
invariant-loop-byte l =
    let rest = drop l.byte-index l.bytes in
    record {
      events : l.events + events_from l.begins rest ≡ events_from l.fn.self.begins l.bytes;
      room : l.events ≤ l.byte-index;
      begins : begins_after l.begins rest ≡ begins_after l.fn.self.begins l.bytes;
    }
