use Rattle.std.proofs.Common.{◌≡◌, ◌∙◌, ◌+◌, ◌++◌, ℕ, List, OnOk, ap, codes, drop, refl, subst, sym}
use Rattle.thp_drawing.specs.Overviews.{overview}
use Rattle.thp_drawing.specs.Pictures.{foot_of, head, node_drawn, nodes_drawn, full_picture}
use Rattle.thp_drawing.specs.Scales.{plus}
use Rattle.thp_drawing.proofs.Pieces.{four}
use Rattle.thp_drawing.proofs.Walks.{all_walked, at_place, piece_put}
use Rattle.thp_drawing.proofs.picture.put_full_picture.Goals as goal

pub loop-number-preserved : goal.loop-number-preserved
loop-number-preserved c =
    let n = c.loop-number.number in
    let y = c.loop-number.y in
    let d = c.index-nodes-number.result in
    let more = drop (n + 1) c.args.nodes.now in
    let cut = at_place c.args.nodes.now n d c.loop-number-test.true c.index-nodes-number.is in
    let foot = c.plus-y.ensures ∙ ap (plus y) c.node_height.ensures in
    piece_put _ _ _ c.in_ok-put_node.ensures
    (ap (nodes_drawn y n) cut ∙ ap (λ (z : ℕ). node_drawn y n d ++ nodes_drawn z (n + 1) more) (sym foot))
    c.loop-number.invariant

pub loop-number-init : goal.loop-number-init
loop-number-init c =
    let nodes = c.args.nodes.now in
    let begun = c.in_ok-put_head.ensures ∙ ap (λ (z : ℕ). c.args.text.now.items ++ head z) c.foot_of.ensures in
    ap (λ (x : List ℕ). x ++ nodes_drawn c.overview_foot-top.result 0 nodes) (c.in_ok-put_overview.ensures ∙ ap (λ (x : List ℕ). x ++ overview nodes) begun)

pub returns : goal.returns
unfolding full_picture
returns c =
    let nodes = c.args.nodes.now in
    let n = c.loop-number.number in
    let end = codes "</svg>\n" in
    let P : List ℕ → Type 0 = λ t. OnOk c.put.result (c.put.new.text.items ≡ t) in
    let all = all_walked (nodes_drawn c.loop-number.y n) nodes n _ c.loop-number-test.false refl c.loop-number.invariant in
    subst P
    (ap (λ (x : List ℕ). x ++ end) all ∙ four c.args.text.now.items _ _ _ end
    ∙ ap (λ (top : ℕ). c.args.text.now.items ++ (head (foot_of top nodes) ++ overview nodes ++ nodes_drawn top 0 nodes ++ end)) c.overview_foot-top.ensures)
    c.put.ensures.text
