use Rattle.std.proofs.Common.{◌≡◌, ◌∙◌, ap, arith, length, map, subst, sym, All}
use Rattle.std.proofs.lemmas.List.Elements.{All-tail, All-head}
use Rattle.std.specs.Vec.Iter.{into_iter_items}
use Rattle.thp_worker.specs.Prelude.{AreFrontsSplit}
use Rattle.thp_run.specs.Passes.{high_part, low_part, IsCut, Passes, fronts_in, fronts_of}
use Rattle.thp_run.proofs.EachLaws.{all_done, cut_each, agree_low, agree_high, pushed, split_fronts}
use Rattle.thp_run.proofs.node_passes.NodePassesPasses.split.Goals as goal

pub loop-node-init : goal.loop-node-init
loop-node-init g c =
    let gives = c.into_iter-node-iterator.ensures.into_iter_gives in
    let held : c.args.self.held ≡ into_iter_items c.into_iter-node-iterator.result = ap (λ (p : Passes). p.held) (sym c.self.view_is) ∙ sym gives.0 in
    record {
      low = rw c.new-low.ensures.items (ap (map (low_part c.args.at)) held);
      high = rw c.new-high.ensures.items (ap (map (high_part c.args.at)) held);
      cut = subst (All (IsCut c.args.at)) (sym gives.0) (cut_each _ _ _ c.args.at _ c.self.invariant (rw (← c.self.view_is) at c.requires.after) (rw (← c.self.view_is) at c.requires.before));
      left = omega (arith, ap length gives.0, gives.1, c.self.inside.nodes.ok.0);
    }

pub loop-node-preserved : goal.loop-node-preserved
loop-node-preserved g c =
    let inv = c.loop-node.invariant in
    let step = c.in-Some.ensures.steps.0 in
    record {
      low = pushed (low_part c.args.at) _ _ _ c.in-Some.node c.in_ok-left.left _ c.push.new.self.items inv.low step c.in_ok-left.ensures.left c.in_ok-push.ensures.items;
      high = pushed (high_part c.args.at) _ _ _ c.in-Some.node c.in_ok-left.right _ c.push-in-loop-node.new.self.items inv.high step c.in_ok-left.ensures.right c.in_ok-push-2.ensures.items;
      cut = All-tail (IsCut c.args.at) c.in-Some.node _ (subst (All (IsCut c.args.at)) step inv.cut);
      left = omega (arith, ap length step, c.in-Some.ensures.steps.1, inv.left);
    }

pub new-requires : goal.new-requires
new-requires g c =
    let inv = c.loop-node.invariant in
    let low : c.loop-node.low.items ≡ map (low_part c.args.at) c.self.inside.nodes.items = all_done (low_part c.args.at) _ (into_iter_items c.loop-node.node-iterator) _ inv.low (omega (arith, inv.left, c.in-None.ensures.steps.0)) ∙ ap (map (low_part c.args.at)) (sym (ap (λ (p : Passes). p.held) c.self.view_is)) in
    rw low (agree_low _ _ _ c.args.at _ c.self.invariant)

pub new-requires-2 : goal.new-requires-2
new-requires-2 g c =
    let inv = c.loop-node.invariant in
    let high : c.loop-node.high.items ≡ map (high_part c.args.at) c.self.inside.nodes.items = all_done (high_part c.args.at) _ (into_iter_items c.loop-node.node-iterator) _ inv.high (omega (arith, inv.left, c.in-None.ensures.steps.0)) ∙ ap (map (high_part c.args.at)) (sym (ap (λ (p : Passes). p.held) c.self.view_is)) in
    rw high (agree_high _ _ _ c.args.at _ c.self.invariant)

pub returns : goal.returns
returns g c =
    let i = c.self.inside in
    let inv = c.loop-node.invariant in
    let low : c.loop-node.low.items ≡ map (low_part c.args.at) i.nodes.items = all_done (low_part c.args.at) _ (into_iter_items c.loop-node.node-iterator) _ inv.low (omega (arith, inv.left, c.in-None.ensures.steps.0)) ∙ ap (map (low_part c.args.at)) (sym (ap (λ (p : Passes). p.held) c.self.view_is)) in
    let high : c.loop-node.high.items ≡ map (high_part c.args.at) i.nodes.items = all_done (high_part c.args.at) _ (into_iter_items c.loop-node.node-iterator) _ inv.high (omega (arith, inv.left, c.in-None.ensures.steps.0)) ∙ ap (map (high_part c.args.at)) (sym (ap (λ (p : Passes). p.held) c.self.view_is)) in
    rw (c.new.ensures, c.new-2.ensures) (subst (λ (p : Passes). AreFrontsSplit c.args.at (fronts_in p) (fronts_of i.callers i.first c.args.at c.loop-node.low.items) (fronts_of i.callers c.args.at i.end c.loop-node.high.items)) c.self.view_is
    (rw (low, high) (split_fronts _ _ _ c.args.at _ c.self.invariant (rw (← c.self.view_is) at c.requires.after))))

pub split-requires-clause-after : goal.split-requires-clause-after
split-requires-clause-after g c = (All-head (IsCut c.args.at) c.in-Some.node _ (subst (All (IsCut c.args.at)) c.in-Some.ensures.steps.0 c.loop-node.invariant.cut)).after

pub split-requires-clause-before : goal.split-requires-clause-before
split-requires-clause-before g c = (All-head (IsCut c.args.at) c.in-Some.node _ (subst (All (IsCut c.args.at)) c.in-Some.ensures.steps.0 c.loop-node.invariant.cut)).before
