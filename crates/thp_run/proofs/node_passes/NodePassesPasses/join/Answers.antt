use Rattle.std.proofs.Common.{◌≡◌, ◌∙◌, ap, arith, length, subst, sym}
use Rattle.std.specs.Vec.Iter.{into_iter_items}
use Rattle.thp_history.proofs.Options.{not_there}
use Rattle.thp_worker.specs.Prelude.{AreFrontsJoined}
use Rattle.thp_run.specs.Passes.{Passes, fronts_in, fronts_of}
use Rattle.thp_run.proofs.EachLaws.{adjoins_first, adjoins_some, agree_joint, each_adjoins, join_fronts, joint_end, joint_more}
use Rattle.thp_run.proofs.node_passes.NodePassesPasses.join.Goals as goal

pub loop-low-init : goal.loop-low-init
loop-low-init g c =
    let low = c.into_iter-low-iterator.ensures.into_iter_gives in
    let high = c.into_iter-more.ensures in
    let self : c.args.self.held ≡ into_iter_items c.into_iter-low-iterator.result = sym (ap (λ (p : Passes). p.held) c.self.view_is) ∙ sym low.0 in
    let other : c.args.other.held ≡ into_iter_items c.into_iter-more.result = sym (ap (λ (p : Passes). p.held) c.other.view_is) ∙ sym high.rest in
    record {
      adjoin = rw (low.0, high.rest) (each_adjoins _ _ _ _ _ _ _ _ c.self.invariant c.other.invariant (rw (← c.self.view_is, ← c.other.view_is) at c.requires));
      joint = λ hs j. rw (self, other, c.new-nodes.ensures.items) j;
      left = omega (arith, ap length low.0, low.1, c.self.inside.nodes.ok.0);
      right = omega (arith, ap length high.rest, high.len, c.other.inside.nodes.ok.0);
    }

pub join-requires-clause-cell : goal.join-requires-clause-cell
join-requires-clause-cell g c = (adjoins_first _ _ c.in-Some.low c.in-Some-next.high _ _ c.in-Some.ensures.steps.0 c.in-Some-next.ensures.items c.loop-low.invariant.adjoin).0.cell

pub join-requires-clause-adjacent : goal.join-requires-clause-adjacent
join-requires-clause-adjacent g c = (adjoins_first _ _ c.in-Some.low c.in-Some-next.high _ _ c.in-Some.ensures.steps.0 c.in-Some-next.ensures.items c.loop-low.invariant.adjoin).0.adjacent

pub loop-low-preserved-in_ok-push : goal.loop-low-preserved-in_ok-push
loop-low-preserved-in_ok-push g c =
    let inv = c.loop-low.invariant in
    let e = c.in_ok-join.ensures in
    let low = c.in-Some.ensures.steps in
    let high = c.in-Some-next.ensures.cases in
    let shorter = ap length low.0 in
    let shorter-too = ap length high.0 in
    record {
      adjoin = (adjoins_first _ _ c.in-Some.low c.in-Some-next.high _ _ low.0 high.0 inv.adjoin).1;
      joint = λ hs j.
          rw c.in_ok-push.ensures.items
          (joint_more _ _ _ _ _ _ _ c.in-Some.low c.in-Some-next.high c.in_ok-join.field-0 hs low.0 high.0 (record { passes = e.passes; legal = e.legal; left_parts = e.left_parts; right_parts = e.right_parts; left_batches = e.left_batches; right_batches = e.right_batches }) j inv.joint);
      left = omega (arith, shorter, low.1, inv.left);
      right = omega (arith, shorter-too, high.1, inv.right);
    }

pub loop-low-preserved : goal.loop-low-preserved
loop-low-preserved g c = absurd (adjoins_some _ _ c.in-Some.low _ c.in-Some.ensures.steps.0 (omega (arith, c.loop-low.invariant.right, (rw (not_there _ c.in_default.not-Some) at c.next-in-loop-low.ensures.cases).0)) c.loop-low.invariant.adjoin)

pub new-requires : goal.new-requires
new-requires g c =
    let inv = c.loop-low.invariant in
    let joint = joint_end _ _ _ _ _ (omega (arith, inv.left, c.in-None.ensures.steps.0)) inv.adjoin inv.joint in
    agree_joint _ _ _ _ _ _ _ _ c.self.invariant c.other.invariant _ (rw (← c.self.view_is, ← c.other.view_is) at joint)

pub returns : goal.returns
returns g c =
    let i = c.self.inside in
    let inv = c.loop-low.invariant in
    let joint = joint_end _ _ _ _ _ (omega (arith, inv.left, c.in-None.ensures.steps.0)) inv.adjoin inv.joint in
    let now = fronts_of i.callers i.first c.other.inside.end c.loop-low.nodes.items in
    rw c.new.ensures (subst (λ (p : Passes). AreFrontsJoined (fronts_in p) (fronts_in c.args.other) now) c.self.view_is
    (subst (λ (q : Passes). AreFrontsJoined (fronts_of i.callers i.first i.end i.nodes.items) (fronts_in q) now) c.other.view_is (join_fronts _ _ _ _ _ _ _ _ c.self.invariant c.other.invariant _ (rw (← c.self.view_is, ← c.other.view_is) at joint))))
