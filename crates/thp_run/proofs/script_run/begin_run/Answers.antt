use Rattle.std.proofs.Common.{◌≡◌, ◌∙◌, ◌∷◌, ◌+◌, ◌≤◌, [], ap, arith, length, length-append, map, subst, sym, None, ℕ, All}
use Rattle.std.proofs.lemmas.List.Elements.{All-tail, All-head}
use Rattle.std.specs.Vec.Iter.{into_iter_items}
use Rattle.thp_cell.specs.Prelude.{PassState}
use Rattle.thp_worker.specs.Prelude.{Fronts}
use Rattle.thp_run.specs.Passes.{fronts_in}
use Rattle.thp_run.proofs.EachLaws.{each_keeps}
use Rattle.thp_worker.proofs.StepLaws.{goes_refl}
use Rattle.thp_run.specs.Sharing.{cell_of, IsUnused}
use Rattle.thp_run.proofs.BegunRunLaws.{new_few}
use Rattle.thp_run.proofs.NodeLaws.{at_drop, filled_end, filled_first, filled_more}
use Rattle.thp_run.proofs.SharingLaws.{agree_new, fresh_some, is_new}
use Rattle.thp_run.proofs.script_run.begin_run.Goals as goal

pub loop-pass-init : goal.loop-pass-init
loop-pass-init g c =
    let gives = c.into_iter-pass-iterator.ensures.into_iter_gives in
    let left = ap length gives.0 in
    record {
      cells = rw c.new-nodes.ensures.items (sym (ap (map cell_of) gives.0 ∙ c.requires.in_cells));
      some = subst (All (λ (p : PassState). p.first ≤ p.end)) (sym gives.0) (fresh_some (c.args.settings.now.workers + 1) c.args.passes.items c.requires.fresh);
      filled = filled_first IsUnused c.args.passes.items (into_iter_items c.into_iter-pass-iterator.result) c.new-nodes.result.items c.new-nodes.ensures.items gives.0;
      left = omega (arith, left, gives.1, c.args.passes.ok.0);
    }

pub loop-pass-preserved : goal.loop-pass-preserved
loop-pass-preserved g c =
    let inv = c.loop-pass.invariant in
    let steps = c.in-Some.ensures.steps in
    let items = into_iter_items c.loop-pass.pass-iterator in
    let rest = into_iter_items c.next.new.self in
    let nodes = c.loop-pass.nodes.items in
    let pass = c.in-Some.pass in
    let node = c.in_ok-new.field-0 in
    let shorter = ap length steps.0 in
    let longer : length c.push.new.self.items ≡ length nodes + 1 = ap length c.in_ok-push.ensures.items ∙ length-append nodes (node ∷ []) in
    let at = at_drop c.args.cells.now (map cell_of rest) (length nodes) (cell_of pass) (cell_of pass) (inv.cells ∙ ap (map cell_of) steps.0) in
    record {
      cells = rw longer at.2;
      some = All-tail (λ (p : PassState). p.first ≤ p.end) pass rest (subst (All (λ (p : PassState). p.first ≤ p.end)) steps.0 inv.some);
      filled = filled_more IsUnused c.args.passes.items items rest nodes c.push.new.self.items pass node steps.0 c.in_ok-push.ensures.items (record { pass = c.in_ok-new.ensures.pass; shut = c.in_ok-new.ensures.none }) inv.filled;
      left = omega (arith, shorter, steps.1, inv.left);
    }

pub new-passes-requires : goal.new-passes-requires
new-passes-requires g c =
    let s = c.args.settings.now in
    let inv = c.loop-pass.invariant in
    let unused = filled_end IsUnused c.args.passes.items (into_iter_items c.loop-pass.pass-iterator) c.loop-pass.nodes.items (omega (arith, inv.left, c.in-None.ensures.steps.0)) inv.filled in
    agree_new (s.workers + 1) c.args.passes.items c.loop-pass.nodes.items unused c.requires.fresh (new_few s c.args.cells.now c.args.passes.items c.requires)

pub begin_section-requires : goal.begin_section-requires
begin_section-requires g c =
    let s = c.args.settings.now in
    let ps = c.args.passes.items in
    let inv = c.loop-pass.invariant in
    let held = c.loop-pass.nodes.items in
    let unused = filled_end IsUnused ps (into_iter_items c.loop-pass.pass-iterator) held (omega (arith, inv.left, c.in-None.ensures.steps.0)) inv.filled in
    let is : fronts_in c.keep_nodes.new.self ≡ fronts_in (record { callers = s.workers + 1; first = 0; end = s.workers + 1; held = held }) = c.keep_nodes.ensures.fronts ∙ ap fronts_in c.new-passes.ensures in
    let new = is_new (s.workers + 1) ps held unused c.requires.fresh s.workers (omega arith) in
    subst (λ (f : Fronts). (n : ℕ) → f.batches 0 n ≡ None) (sym is) (λ n. new.batches 0 n)

pub returns-clause-kept : goal.returns-clause-kept
returns-clause-kept g c = rw c.keep_nodes.ensures.kept (each_keeps _)

pub returns-clause-begun : goal.returns-clause-begun
returns-clause-begun g c =
    let s = c.args.settings.now in
    let ps = c.args.passes.items in
    let inv = c.loop-pass.invariant in
    let held = c.loop-pass.nodes.items in
    let unused = filled_end IsUnused ps (into_iter_items c.loop-pass.pass-iterator) held (omega (arith, inv.left, c.in-None.ensures.steps.0)) inv.filled in
    let is : fronts_in c.keep_nodes.new.self ≡ fronts_in (record { callers = s.workers + 1; first = 0; end = s.workers + 1; held = held }) = c.keep_nodes.ensures.fronts ∙ ap fronts_in c.new-passes.ensures in
    record { new = c.requires; starts = record { held = held; unused = unused; are = is }; goes = goes_refl _ _; did = c.in_ok-setup.ensures.did }

pub bounds-cells-len : goal.bounds-cells-len
bounds-cells-len g c =
    let steps = c.in-Some.ensures.steps in
    let nodes = c.loop-pass.nodes in
    let pass = c.in-Some.pass in
    let at = at_drop c.args.cells.now (map cell_of (into_iter_items c.next.new.self)) (length nodes.items) (cell_of pass) (cell_of pass) (c.loop-pass.invariant.cells ∙ ap (map cell_of) steps.0) in
    omega (arith, c.len.ensures, nodes.ok.0, at.0)

pub new-requires-clause-some : goal.new-requires-clause-some
new-requires-clause-some g c =
    All-head (λ (p : PassState). p.first ≤ p.end) c.in-Some.pass _ (subst (All (λ (p : PassState). p.first ≤ p.end)) c.in-Some.ensures.steps.0 c.loop-pass.invariant.some)
