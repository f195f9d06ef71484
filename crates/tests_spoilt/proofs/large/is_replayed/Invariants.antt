-- Each page so far is an event of the replay.
use Rattle.std.proofs.Common.{◌≡◌, length}
use Rattle.tests_spoilt.proofs.large.is_replayed.Given as goal

abbrev pub invariant-loop-number : goal.invariant-loop-number
invariant-loop-number l = length l.replay.history ≡ l.number
