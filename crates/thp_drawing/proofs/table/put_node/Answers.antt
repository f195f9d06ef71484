use Rattle.std.proofs.Common.{◌≡◌, ◌∙◌, ◌+◌, ◌-◌, ◌*◌, ◌++◌, ◌∷◌, ◌≤◌, ℕ, List, ap, arith, drop, length, min, refl, sym}
use Rattle.thp_metrics.specs.declared.column.Column.{Column}
use Rattle.thp_drawing.specs.Tables.{column_line, column_lines, node_lines, node_table_line, stuck_table_lines}
use Rattle.thp_drawing.proofs.Pieces.{three}
use Rattle.thp_drawing.proofs.Walks.{all_walked, piece_put, same_place}
use Rattle.thp_drawing.proofs.table.put_node.Goals as goal

-- the lines of columns from column j on
lines_at : (n v w prefixes j : ℕ) (cs : List Column) (x : Column) {last : ℕ} → v ≡ w →
    last ≡ min (v * j + v) prefixes - 1 → drop j cs ≡ x ∷ drop (j + 1) cs →
    column_lines n w prefixes j (drop j cs) ≡ column_line n (v * j) last x ++ column_lines n w prefixes (j + 1) (drop (j + 1) cs)
lines_at n v w prefixes j cs x same ends cut =
    let more = column_lines n w prefixes (j + 1) (drop (j + 1) cs) in
    ap (column_lines n w prefixes j) cut
    ∙ ap (λ (z : ℕ). column_line n (z * j) (min (z * j + z) prefixes - 1) x ++ more) (sym same)
    ∙ ap (λ (z : ℕ). column_line n (v * j) z x ++ more) (sym ends)

pub loop-place-preserved : goal.loop-place-preserved
loop-place-preserved c =
    let last = c.saturating_sub-last.ensures ∙ ap (λ (m : ℕ). m - 1) c.min.ensures in
    let cut = same_place _ _ c.loop-place.place _ c.deref-column-items.ensures.value c.loop-place-test.true in
    piece_put _ _ _ c.in_ok-put_column.ensures (lines_at _ _ _ _ _ _ _ c.from-width.ensures last cut) c.loop-place.invariant

pub loop-place-init : goal.loop-place-init
loop-place-init c =
    let d = c.args.node.now in
    ap (λ (x : List ℕ). x ++ column_lines c.args.number d.width d.prefixes 0 d.columns.items) c.in_ok-put_node_line.ensures

pub loop-page-init : goal.loop-page-init
loop-page-init c =
    let d = c.args.node.now in
    let j = c.loop-place.place in
    let end : length d.columns.items ≤ j = omega (arith, c.loop-place-test.false, ap length c.deref-column-items.ensures.value) in
    ap (λ (x : List ℕ). x ++ stuck_table_lines c.args.number d.stuck.items)
    (all_walked (column_lines c.args.number d.width d.prefixes j) d.columns.items j _ end refl c.loop-place.invariant)

pub returns : goal.returns
unfolding node_lines
returns c =
    let d = c.args.node.now in
    let i = c.loop-page.page-index in
    let end : length d.stuck.items ≤ i = omega (arith, c.loop-page-test.false, ap length c.deref-page-items.ensures.value) in
    all_walked (stuck_table_lines c.args.number) d.stuck.items i _ end refl c.loop-page.invariant
    ∙ three c.args.text.now.items (node_table_line c.args.number d) (column_lines c.args.number d.width d.prefixes 0 d.columns.items) (stuck_table_lines c.args.number d.stuck.items)
