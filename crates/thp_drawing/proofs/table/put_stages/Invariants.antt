use Rattle.std.proofs.Common.{◌≡◌, ◌++◌, drop}
use Rattle.thp_drawing.specs.Tables.{stage_letters}
use Rattle.thp_drawing.proofs.table.put_stages.Given as goal

abbrev pub invariant-loop-stage : goal.invariant-loop-stage
invariant-loop-stage l = l.text.items ++ stage_letters (drop l.stage-index l.stages) ≡ l.fn.text.items ++ stage_letters l.stages
