use Rattle.std.proofs.Common.{◌≡◌, drop, false, length, replicate}
use Rattle.thp_run.specs.Listed.{left_open}
use Rattle.thp_run.proofs.listed.left_open.Given as goal

abbrev pub invariant-loop-place : goal.invariant-loop-place
invariant-loop-place l = record {
  opened : left_open l.opened.items (drop l.place l.commands) (drop l.place l.answers) ≡ left_open (replicate l.nodes false) l.commands l.answers;
  count : length l.opened.items ≡ l.nodes;
}
