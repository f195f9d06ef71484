use Rattle.std.proofs.Common.{◌≡◌, ◌∙◌, ◌+◌, ◌++◌, ℕ, List, ap, append_assoc, drop, false, length, nat_le, refl, sym}
use Rattle.std.proofs.lemmas.Bool.{lt-leb}
use Rattle.thp_drawing.specs.Overviews.{overview, overview_heads, overview_line, overview_lines}
use Rattle.thp_drawing.specs.Scales.{plus}
use Rattle.thp_drawing.proofs.Walks.{all_walked, at_place, piece_put}
use Rattle.thp_drawing.proofs.overview.put_overview.Goals as goal

pub loop-number-preserved : goal.loop-number-preserved
loop-number-preserved c =
    let n = c.loop-number.number in
    let d = c.index-nodes-number.result in
    let more = drop (n + 1) c.args.nodes.now in
    let cut = at_place c.args.nodes.now n d c.loop-number-test.true c.index-nodes-number.is in
    let top = c.plus-y.ensures ∙ ap (plus 1060) c.times.ensures in
    piece_put _ _ _ c.in_ok-put_overview_line.ensures
    (ap (overview_lines 1060 n) cut ∙ ap (λ (z : ℕ). overview_line z n d ++ overview_lines 1060 (n + 1) more) (sym top))
    c.loop-number.invariant

pub loop-number-init : goal.loop-number-init
loop-number-init c = ap (λ (x : List ℕ). x ++ overview_lines 1060 0 c.args.nodes.now) c.in_ok-put_overview_heads.ensures

pub returns : goal.returns
unfolding overview
returns c =
    let n = c.loop-number.number in
    let several : nat_le (length c.args.nodes.now) 1 ≡ false = lt-leb _ _ c.if-nodes-le1.false in
    rw several
    (all_walked (overview_lines 1060 n) c.args.nodes.now n _ c.loop-number-test.false refl c.loop-number.invariant
    ∙ append_assoc c.args.text.now.items overview_heads (overview_lines 1060 0 c.args.nodes.now))
