use Rattle.std.proofs.Common.{◌≡◌, ◌++◌, drop}
use Rattle.thp_run.specs.Listed.{without_first}
use Rattle.thp_run.proofs.listed.without_first.Given as goal

abbrev pub invariant-loop-open_here : goal.invariant-loop-open_here
invariant-loop-open_here l = l.still_open.items ++ without_first l.left (drop l.open_here-index l.opened) ≡ without_first l.back l.opened
