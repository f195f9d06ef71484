use Rattle.std.proofs.Common.{◌≡◌, ◌++◌, ◌∷◌, [], length, ap, arith, subst, sym}
use Rattle.thp_history.specs.declared.events.Event.{Event}
use Rattle.thp_history.specs.declared.shape.Shape.{Shape}
use Rattle.thp_history.specs.declared.tally.Tally.{Tally}
use Rattle.thp_history.specs.Prelude.{allocations, is_alloc, History, AddsUp, HasRoom}
use Rattle.thp_history.proofs.Totals.{few_events}
use Rattle.thp_check.specs.Prelude.{NodeState, MarksFree, Means, Replayed}
use Rattle.thp_check.proofs.FreeMarks.{freed_inside, marks_push}
use Rattle.thp_history.proofs.Totals.{has_room, adds_push}
use Rattle.thp_check.proofs.replay.Replay.admit.Goals as goal

pub admit-requires-clause-small : goal.admit-requires-clause-small
admit-requires-clause-small c =
    let i = c.self.inside in
    let state : c.deref_mut.result.now.next ≡ i.state.value.next = ap (λ (r : NodeState). r.next) c.deref_mut.ensures.value in
    let next : i.state.value.next ≡ allocations i.past = c.self.invariant.0.kept.next_is in
    let past : length i.past ≡ length c.args.self.history = ap (λ (r : Replayed). length r.history) c.self.view_is in
    omega (arith, state, next, few_events is_alloc i.past, past, c.requires.room)

pub mark-requires-clause-freed : goal.mark-requires-clause-freed
mark-requires-clause-freed c =
    let i = c.self.inside in
    let s : Shape = i.state.value.shape in
    let M : NodeState → Type 0 = λ r. Means s i.past r in
    freed_inside s i.past c.args.event.now.what i.free c.freed_block-freed.result c.self.invariant.0.kept.node.legal c.self.invariant.1 (c.freed_block-freed.ensures s i.past (subst M (sym c.deref.ensures) c.self.invariant.0))

pub invariant_of-self : goal.invariant_of-self
invariant_of-self c =
    let i = c.self.inside in
    let s : Shape = i.state.value.shape in
    let e : Event = c.args.event.now in
    let M : NodeState → Type 0 = λ r. Means s i.past r in
    let freed = c.freed_block-freed.ensures s i.past (subst M (sym c.deref.ensures) c.self.invariant.0) in
    let went = c.in_ok-admit.ensures s i.past (subst M (sym c.deref_mut.ensures.value) c.self.invariant.0) in
    let marks : MarksFree s (i.past ++ e ∷ []) c.mark.new.free =
    marks_push s i.past e c.self.invariant.0.kept.node.legal went.0 i.free c.mark.new.free c.freed_block-freed.result c.self.invariant.1 freed c.mark.ensures.blocks
    c.mark.ensures.marked in
    let context = c.context_of-context.ensures s i.past e.caller (subst M (sym c.deref-2.ensures) c.self.invariant.0) went.0 in
    let adds : AddsUp s (i.past ++ e ∷ []) c.count.new.self =
    let old : Tally → Type 0 = λ t. AddsUp s i.past t in
    adds_push s i.past e c.context_of-context.result c.deref_mut-2.result.now c.count.new.self (subst old (sym c.deref_mut-2.ensures.value) c.self.invariant.2) context c.count.ensures in
    let P : Shape → History → Type 0 = λ z h. Means z h c.admit.new.self × MarksFree z h c.mark.new.free × AddsUp z h c.count.new.self in
    subst (λ z. P z c.push.new.self) (sym went.1.kept.shape_is) (subst (λ h. P s h) (sym c.push.ensures) (went.1, marks, adds))

pub count-requires : goal.count-requires
count-requires c =
    let i = c.self.inside in
    let past : length i.past ≡ length c.args.self.history = ap (λ (r : Replayed). length r.history) c.self.view_is in
    let P : Tally → Type 0 = λ t. HasRoom t in
    subst P (sym c.deref_mut-2.ensures.value) (has_room i.state.value.shape i.past i.tally.value c.self.invariant.0.kept.low c.self.invariant.0.kept.node.legal c.self.invariant.2 (omega (arith, past, c.requires.room)))
