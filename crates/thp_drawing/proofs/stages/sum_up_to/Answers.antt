use Rattle.std.proofs.Common.{◌≡◌, ap, arith, drop}
use Rattle.std.proofs.lemmas.List.{drop_all}
use Rattle.thp_drawing.specs.Scales.{plus, plus_all}
use Rattle.thp_drawing.proofs.stages.sum_up_to.Goals as goal

pub returns : goal.returns
unfolding plus
returns c =
    let items = c.split_at.result.0.now in
    let ends : plus_all (drop c.loop-count.count-index items) ≡ 0 = ap plus_all (drop_all c.loop-count.count-index items c.loop-count-test.false) in
    let sum : c.loop-count.sum ≡ plus_all items = omega (arith, ends, c.loop-count.invariant.0, c.loop-count.invariant.1) in
    grind (arith, sum, c.split_at.ensures.front)
