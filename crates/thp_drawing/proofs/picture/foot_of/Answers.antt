use Rattle.std.proofs.Common.{◌∙◌, ◌+◌, ℕ, ap, drop, sym}
use Rattle.thp_drawing.specs.Pictures.{foot_of}
use Rattle.thp_drawing.specs.Scales.{plus}
use Rattle.thp_drawing.proofs.Walks.{at_place}
use Rattle.thp_drawing.proofs.picture.foot_of.Goals as goal

pub loop-node-preserved : goal.loop-node-preserved
loop-node-preserved c =
    let n = c.loop-node.node-index in
    let more = drop (n + 1) c.args.nodes.now in
    let cut = at_place c.args.nodes.now n c.node-item.result c.loop-node-test.true c.node-item.is in
    let foot = c.plus-y.ensures ∙ ap (plus c.loop-node.y) c.node_height.ensures in
    ap (λ (z : ℕ). foot_of z more) foot ∙ sym (ap (foot_of c.loop-node.y) cut) ∙ c.loop-node.invariant
