use Rattle.std.proofs.Common.{◌≡◌, ◌∙◌, ◌+◌, ◌++◌, ◌∷◌, ℕ, Bool, List, ap, drop, length, refl, sym}
use Rattle.thp_metrics.specs.declared.column.Column.{Column}
use Rattle.thp_drawing.specs.Bars.{bar_covers, bar_lines, line_turn}
use Rattle.thp_drawing.specs.Scales.{scaled}
use Rattle.thp_drawing.specs.declared.bar.Bar.{Bar}
use Rattle.thp_drawing.proofs.Walks.{piece_put, same_place}
use Rattle.thp_drawing.proofs.bar.put_bar.Goals as goal

-- the lines of a bar from column j on
lines_at : (bar : Bar) (y n j : ℕ) (before now : Bool) (cs : List Column) (x : Column) {edge : ℕ} →
    now ≡ bar_covers bar x → edge ≡ scaled 6000 j n → drop j cs ≡ x ∷ drop (j + 1) cs →
    bar_lines bar y n j before (drop j cs) ≡ line_turn y edge before now ++ bar_lines bar y n (j + 1) now (drop (j + 1) cs)
lines_at bar y n j before now cs x is place cut =
    let more = drop (j + 1) cs in
    ap (bar_lines bar y n j before) cut
    ∙ ap (λ (b : Bool). line_turn y (scaled 6000 j n) before b ++ bar_lines bar y n (j + 1) b more) (sym is)
    ∙ ap (λ (z : ℕ). line_turn y z before now ++ bar_lines bar y n (j + 1) now more) (sym place)

pub loop-place-preserved : goal.loop-place-preserved
loop-place-preserved c =
    let columns = c.args.columns.now in
    let cut = same_place columns columns c.loop-place.place _ refl c.loop-place-test.true in
    piece_put _ _ _ c.in_ok-put_turn.ensures (lines_at c.args.bar c.args.y (length columns) c.loop-place.place c.loop-place.before c.covers-now.result columns _ c.covers-now.ensures c.scaled.ensures cut) c.loop-place.invariant
