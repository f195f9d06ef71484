use Rattle.std.proofs.Common.{◌≡◌, ◌∙◌, ◌+◌, ◌++◌, [], length-append, ◌∷◌, ap, map, sym, arith}
use Rattle.std.proofs.lemmas.List.{map-append}
use Rattle.std.proofs.lemmas.List.Elements.{All-push}
use Rattle.thp_cell.specs.Prelude.{PassState}
use Rattle.thp_run.specs.NewNodes.{new_shape}
use Rattle.thp_run.specs.Sharing.{cell_of, IsFreshPass}
use Rattle.thp_run.proofs.NodeLaws.{each_more}
use Rattle.thp_run.proofs.script_run.new_cells.Goals as goal

pub loop-index-preserved : goal.loop-index-preserved
loop-index-preserved g c =
    let inv = c.loop-index.invariant in
    let cells = c.loop-index.cells.items in
    let passes = c.loop-index.passes.items in
    let pass = c.in_ok-cell.pass in
    let s = c.args.settings.now in
    let longer = length-append passes (pass ∷ []) in
    let more = ap (map cell_of) c.in_ok-push-2.ensures.items ∙ map-append cell_of passes (pass ∷ []) ∙ ap (λ l. l ++ cell_of pass ∷ []) inv.cells ∙ ap (λ x. cells ++ x ∷ []) c.in_ok-cell.ensures.cell ∙ sym c.in_ok-push.ensures.items in
    rw c.in_ok-push-2.ensures.items
    (record {
      count = omega (arith, longer, inv.count);
      shapes = each_more (λ n (p : PassState). p.shape ≡ new_shape s n) passes pass inv.shapes (c.in_ok-cell.ensures.shape ∙ ap (new_shape s) (sym inv.count));
      fresh = All-push (IsFreshPass (s.workers + 1)) passes pass inv.fresh c.in_ok-cell.ensures.fresh;
      cells = rw c.in_ok-push-2.ensures.items at more;
    })
