use Rattle.std.proofs.Common.{◌≡◌, ◌∙◌, ◌+◌, ◌++◌, ℕ, List, OnOk, ap, codes, drop, length, refl, subst, sym}
use Rattle.std.proofs.lemmas.List.{drop_more}
use Rattle.thp_drawing.specs.Areas.{area, column_width, outline, step_to}
use Rattle.thp_drawing.proofs.Pieces.{three}
use Rattle.thp_drawing.proofs.Walks.{all_walked, piece_put}
use Rattle.thp_drawing.proofs.area.put_area.Goals as goal

pub loop-place-init : goal.loop-place-init
loop-place-init c =
    let columns = c.args.columns.now in
    ap (λ (x : List ℕ). x ++ outline c.args.sign.now c.args.height (length columns) 0 columns) c.in_ok-put_pieces.ensures

pub loop-place-preserved : goal.loop-place-preserved
loop-place-preserved c =
    let columns = c.args.columns.now in
    let sign = c.args.sign.now in
    let n = length columns in
    let j = c.loop-place.place in
    let more = outline sign c.args.height n (j + 1) (drop (j + 1) columns) in
    let cut = drop_more columns j _ c.loop-place-test.true in
    piece_put _ _ _ c.in_ok-put_pieces-2.ensures
    (ap (outline sign c.args.height n j) cut
    ∙ ap (λ (z : ℕ). step_to sign z (column_width n j) ++ more) (sym c.height_at-high.ensures)
    ∙ ap (λ (z : ℕ). step_to sign c.height_at-high.result z ++ more) (sym c.column_width-wide.ensures))
    c.loop-place.invariant

pub returns : goal.returns
unfolding area
returns c =
    let columns = c.args.columns.now in
    let n = length columns in
    let j = c.loop-place.place in
    let end = codes "V0z\"/>\n" in
    let P : List ℕ → Type 0 = λ t. OnOk c.put.result (c.put.new.text.items ≡ t) in
    let all = all_walked (outline c.args.sign.now c.args.height n j) columns j _ c.loop-place-test.false refl c.loop-place.invariant in
    subst P (ap (λ (x : List ℕ). x ++ end) all ∙ three c.args.text.now.items _ _ end) c.put.ensures.text
