use Rattle.std.proofs.Common.{◌∙◌, ◌++◌, ℕ, List, [], add-one, ap, append_assoc, sym}
use Rattle.thp_drawing.specs.Axes.{tick}
use Rattle.thp_drawing.specs.Rows.{row_middle, row_numbers}
use Rattle.thp_drawing.specs.Scales.{times}
use Rattle.thp_drawing.proofs.bar.put_rows.Goals as goal

pub loop-before-preserved : goal.loop-before-preserved
loop-before-preserved c =
    let k = c.loop-before.before in
    let high = c.row_height-high.result in
    let step = c.if-count-le-FEW_ROWS.step in
    let first = c.args.text.now.items in
    let now = c.loop-before.text.items in
    let row = tick [] (times step k) (row_middle high (times step k)) in
    c.in_ok-put_tick.ensures
    ∙ ap (λ (m : ℕ). now ++ tick [] c.times-page.result m) c.row_middle.ensures
    ∙ ap (λ (p : ℕ). now ++ tick [] p (row_middle high p)) c.times-page.ensures
    ∙ ap (λ (t : List ℕ). t ++ row) c.loop-before.invariant
    ∙ append_assoc first (row_numbers high step k) row
    ∙ ap (λ (m : ℕ). first ++ row_numbers high step m) (sym (add-one k))
