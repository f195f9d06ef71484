use Rattle.std.proofs.Common.{◌≡◌, ◌++◌, drop}
use Rattle.thp_worker.specs.Prelude.{stored}
use Rattle.thp_run.proofs.listed.list_answers.Given as goal

abbrev pub invariant-loop-place : goal.invariant-loop-place
invariant-loop-place l = l.list.items ++ drop l.place (stored l.worked.answers) ≡ stored l.worked.answers
