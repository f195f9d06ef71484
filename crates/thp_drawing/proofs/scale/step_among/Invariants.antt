use Rattle.std.proofs.Common.{◌≡◌, ◌-◌}
use Rattle.thp_drawing.specs.Scales.{step_among}
use Rattle.thp_drawing.proofs.scale.step_among.Given as goal

abbrev pub invariant-loop-place : goal.invariant-loop-place
invariant-loop-place l = step_among l.more (l.units - l._place) l.unit l.number ≡ step_among l.more l.units 1 l.number
