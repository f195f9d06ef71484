use Rattle.std.proofs.Common.{◌≡◌, ◌≤◌, ◌+◌, length}
use Rattle.thp_journal_tools.specs.Counting.{begins_after, events_from}
use Rattle.thp_journal_tools.proofs.progress.EventCount.with.Given as goal

abbrev pub decreases-loop-rest : goal.decreases-loop-rest
decreases-loop-rest l = length l.rest

-- what the rest of the bytes adds to the count so far is what they all add
abbrev pub invariant-loop-rest : goal.invariant-loop-rest
invariant-loop-rest l = record {
  events : l.counted.events + events_from l.counted.begins l.rest ≡ l.fn.self.events + events_from l.fn.self.begins l.bytes;
  room : l.counted.events + length l.rest ≤ l.fn.self.events + length l.bytes;
  begins : begins_after l.counted.begins l.rest ≡ begins_after l.fn.self.begins l.bytes;
}
