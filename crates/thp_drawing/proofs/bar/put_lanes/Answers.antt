use Rattle.std.proofs.Common.{◌≡◌, ◌∙◌, arith}
use Rattle.thp_drawing.proofs.Counted.{lanes_at}
use Rattle.thp_drawing.proofs.bar.put_lanes.Goals as goal

pub returns : goal.returns
returns c =
    let last : c.loop-caller.caller ≡ 64 = omega (arith, c.loop-caller-test.false, c.loop-caller.auto.caller-end) in
    c.loop-caller.invariant.drawn ∙ lanes_at _ _ _ last
