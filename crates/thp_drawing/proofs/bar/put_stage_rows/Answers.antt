use Rattle.std.proofs.Common.{◌∙◌, ◌++◌, ℕ, List, add-one, ap, append_assoc, sym}
use Rattle.thp_drawing.specs.Bars.{bar_at}
use Rattle.thp_drawing.specs.Rows.{row_middle, stage_rows}
use Rattle.thp_drawing.specs.declared.bar.Bar.TheVariants.{PageIn}
use Rattle.thp_drawing.proofs.bar.put_stage_rows.Goals as goal

pub loop-page-preserved : goal.loop-page-preserved
loop-page-preserved c =
    let k = c.loop-page.page in
    let stage = c.args.stage in
    let high = c.args.high in
    let columns = c.args.columns.now in
    let first = c.args.text.now.items in
    let bar = bar_at (PageIn stage k) (row_middle high k) columns in
    c.in_ok-put_bar.ensures
    ∙ ap (λ (y : ℕ). c.loop-page.text.items ++ bar_at (PageIn stage k) y columns) c.row_middle-y.ensures
    ∙ ap (λ (t : List ℕ). t ++ bar) c.loop-page.invariant
    ∙ append_assoc first (stage_rows stage high columns k) bar
    ∙ ap (λ (m : ℕ). first ++ stage_rows stage high columns m) (sym (add-one k))
