-- The replay has met the events so far.
use Rattle.std.proofs.Common.{◌≡◌, length}
use Rattle.tests_nodes.proofs.checks.reading.replay_of.Given as goal

abbrev pub invariant-loop-place : goal.invariant-loop-place
invariant-loop-place g l = length l.replay.history ≡ l._place
