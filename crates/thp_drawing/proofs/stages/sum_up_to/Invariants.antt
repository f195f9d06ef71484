use Rattle.std.proofs.Common.{◌≡◌, ◌<◌, ◌^◌, drop}
use Rattle.thp_drawing.specs.Scales.{plus, plus_all}
use Rattle.thp_drawing.proofs.stages.sum_up_to.Given as goal

abbrev pub invariant-loop-count : goal.invariant-loop-count
invariant-loop-count l = (plus l.sum (plus_all (drop l.count-index l.count-items)) ≡ plus_all l.count-items) × (l.sum < 2 ^ 128)
