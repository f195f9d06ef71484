use Rattle.std.proofs.Common.{◌∙◌, ap, length, map, subst, sym, arith, All}
use Rattle.std.proofs.lemmas.List.{length-map}
use Rattle.std.proofs.lemmas.List.Elements.{All-head, All-tail}
use Rattle.std.specs.Vec.Iter.{into_iter_items}
use Rattle.thp_cell.specs.Prelude.{HasAll}
use Rattle.thp_run.specs.Sharing.{cell_of, IsNodeOf}
use Rattle.thp_run.proofs.NodeLaws.{cons_tail, filled_end, filled_first, filled_more}
use Rattle.thp_run.proofs.SharingLaws.{is_run, nodes_asked}
use Rattle.thp_history.proofs.Options.{not_there}
use Rattle.thp_run.proofs.script_run.take_apart.Goals as goal

pub loop-cell-init : goal.loop-cell-init
loop-cell-init g c =
    let cells = c.into_iter-cell-iterator.ensures.into_iter_gives in
    let passes = c.into_iter-passes.ensures in
    let left = ap length cells.0 in
    let right = ap length passes.rest in
    let whole : All HasAll c.args.passes.items = λ i d lt. let one = c.requires.ran.3.whole i d lt in record { from = one.first_is; to = one.end_is ∙ sym one.callers_are } in
    record {
      cells = ap (map cell_of) passes.rest ∙ c.requires.ran.3.cells ∙ c.requires.ran.2.in_cells ∙ sym cells.0;
      all = subst (All HasAll) (sym passes.rest) whole;
      filled = filled_first IsNodeOf c.args.passes.items (into_iter_items c.into_iter-passes.result) c.new-nodes.result.items c.new-nodes.ensures.items passes.rest;
      left = omega (arith, left, cells.1, c.args.cells.ok.0);
      right = omega (arith, right, passes.len, c.args.passes.ok.0);
    }

pub finish-requires-clause-all : goal.finish-requires-clause-all
finish-requires-clause-all g c = All-head HasAll c.in-Some-next.pass (into_iter_items c.next-in-loop-cell.new.self) (subst (All HasAll) c.in-Some-next.ensures.cases.0 c.loop-cell.invariant.all)

pub loop-cell-preserved-in-Continue-1 : goal.loop-cell-preserved-in-Continue-1
loop-cell-preserved-in-Continue-1 g c =
    let inv = c.loop-cell.invariant in
    let low = c.in-Some.ensures.steps in
    let high = c.in-Some-next.ensures.cases in
    let pass = c.in-Some-next.pass in
    let items = into_iter_items c.loop-cell.passes in
    let rest = into_iter_items c.next-in-loop-cell.new.self in
    let shorter = ap length low.0 in
    let shorter-too = ap length high.0 in
    let e = c.finish.ensures in
    record {
      cells = cons_tail (cell_of pass) c.in-Some.cell (map cell_of rest) (into_iter_items c.next.new.self) (sym (ap (map cell_of) high.0) ∙ inv.cells ∙ low.0);
      all = All-tail HasAll pass rest (subst (All HasAll) high.0 inv.all);
      filled = filled_more IsNodeOf c.args.passes.items items rest c.loop-cell.nodes.items c.push.new.self.items pass c.finish.result high.0 c.in_ok-push.ensures.items (record { shape = e.shape; journal = e.journal; callers = e.callers }) inv.filled;
      left = omega (arith, shorter, low.1, inv.left);
      right = omega (arith, shorter-too, high.1, inv.right);
    }

pub returns-clause-nodes : goal.returns-clause-nodes
returns-clause-nodes g c =
    let inv = c.loop-cell.invariant in
    let items = into_iter_items c.loop-cell.passes in
    let same = ap length inv.cells in
    let mapped = length-map items cell_of in
    let pairs = filled_end IsNodeOf c.args.passes.items items c.loop-cell.nodes.items (omega (arith, same, mapped, inv.left, c.in-None.ensures.steps.0)) inv.filled in
    nodes_asked c.args.settings.now c.requires.ran.1 c.args.cells.items c.requires.ran.0 c.args.passes.items c.loop-cell.nodes.items c.args.sections.items c.requires.ran.2 c.requires.ran.3 pairs

pub returns-clause-run : goal.returns-clause-run
returns-clause-run g c = λ old script new ran.
    let inv = c.loop-cell.invariant in
    let items = into_iter_items c.loop-cell.passes in
    let same = ap length inv.cells in
    let mapped = length-map items cell_of in
    let pairs = filled_end IsNodeOf c.args.passes.items items c.loop-cell.nodes.items (omega (arith, same, mapped, inv.left, c.in-None.ensures.steps.0)) inv.filled in
    is_run c.args.settings.now script c.args.cells.items old c.args.passes.items c.loop-cell.nodes.items c.args.sections.items new ran pairs

pub loop-cell-preserved : goal.loop-cell-preserved
loop-cell-preserved g c =
    let inv = c.loop-cell.invariant in
    let none = (rw (not_there _ c.in_default.not-Some) at c.next-in-loop-cell.ensures.cases).0 in
    let same = ap length inv.cells in
    let mapped = length-map (into_iter_items c.loop-cell.passes) cell_of in
    let some = ap length c.in-Some.ensures.steps.0 in
    absurd (omega (arith, same, mapped, some, none, inv.right))
