use Rattle.std.proofs.Common.{not, ◌≡◌, Bool, cond, true, ◌∷◌, [], ◌++◌, ap, sym, ◌∙◌, subst, arith}
use Rattle.std.specs.Int.{from_bool}
use Rattle.thp_history.specs.declared.events.Event.{Event}
use Rattle.thp_history.specs.declared.events.What.TheVariants.{Split}
use Rattle.thp_history.specs.Prelude.{is_split_candidate, shrinks_underused, by, try_event}
use Rattle.thp_node.specs.Prelude.{Did, NodeState}
use Rattle.thp_node.proofs.BatchRuns.{flies_inside, unpinned_inside, node_recorded, slot_inside, ready_there, whole_there, partly_there, SplitOff, split_off}
use Rattle.thp_node.proofs.CallLemmas.{did_one, node_of}
use Rattle.thp_node.proofs.node.Node.split_page.Given.{Over}
use Rattle.thp_node.proofs.node.Node.split_page.Goals as goal
use Rattle.thp_node.proofs.node.Node.split_page.Goals.{After-split-released}

-- the page is split off its batch
off : (g : Over) (c : After-split-released g) → SplitOff c.self.inside.journal.shape c.self.inside.journal.events c.args.caller c.args.page c.split-released.result c.self.inside.blocks c.split-released.new.self
off g c =
    let j = c.self.inside.journal in
    let w = flies_inside _ c.args.self.now c.args.caller c.args.page c.args.block c.self.view_is c.requires.flies in
    split_off j.shape j.events c.args.caller c.args.page c.args.block c.self.inside.blocks c.self.invariant w c.split-released.new.self c.split-released.result c.shrinks_underused-give_zero.result
    (c.shrinks_underused-give_zero.ensures ∙ ap shrinks_underused c.shape.ensures.value) c.split-released.ensures
    (slot_inside _ c.args.self.now c.args.block (λ s x. is_split_candidate s.underused x.page ≡ true) c.self.view_is c.requires.worth w.slot w.at) (unpinned_inside _ c.args.self.now c.args.block c.self.view_is c.requires.unpinned w.slot w.at)

pub split-released-requires-clause-allowed : goal.split-released-requires-clause-allowed
split-released-requires-clause-allowed g c =
    let j = c.self.inside.journal in
    let w = flies_inside _ c.args.self.now c.args.caller c.args.page c.args.block c.self.view_is c.requires.flies in
    ready_there j.shape j.events c.args.caller c.args.page c.args.block c.self.inside.blocks c.self.invariant w
    (unpinned_inside _ c.args.self.now c.args.block c.self.view_is c.requires.unpinned w.slot w.at)

pub record-requires-clause-fits : goal.record-requires-clause-fits
record-requires-clause-fits g c = (off g (goal.at.record-requires-clause-fits g c).After-split-released).fits

from_not : (b : Bool) → from_bool (not b) ≡ cond b 0 1
from_not x = grind arith

pub record-requires-clause-split : goal.record-requires-clause-split
record-requires-clause-split g c =
    let j = c.self.inside.journal in
    let w = flies_inside _ c.args.self.now c.args.caller c.args.page c.args.block c.self.view_is c.requires.flies in (
      (rw c.store.ensures at c.whole.ensures) w.slot w.at ∙ sym (whole_there j.shape j.events c.args.caller c.args.page c.args.block c.self.inside.blocks c.self.invariant w),
      ap (λ z. from_bool (not z)) ((rw c.store-2.ensures at c.is_partly.ensures) w.slot w.at ∙ sym (partly_there j.shape j.events c.args.caller c.args.page c.args.block c.self.inside.blocks c.self.invariant w)) ∙ from_not _,
    )

pub invariant_of-self : goal.invariant_of-self
invariant_of-self g c =
    let j = c.self.inside.journal in
    node_recorded c.record.new.self.shape j.shape c.record.new.self.events j.events (by c.args.caller (Split c.args.page c.split-released.result)) c.split-released.new.self
    c.record.ensures.shape c.record.ensures.events (off g (goal.at.invariant_of-self g c).After-split-released).node

pub returns : goal.returns
returns g c =
    let j = c.self.inside.journal in
    let w = off g (goal.at.returns g c).After-split-released in
    let is : by c.args.caller (Split c.args.page c.split-released.result) ≡ try_event c.args.self.now.shape c.args.self.now.journal c.args.caller c.args.page =
    w.is ∙ ap (λ (n : NodeState). try_event n.shape n.journal c.args.caller c.args.page) c.self.view_is in
    let new : NodeState = node_of c.record.new.self c.split-released.new.self in
    let P : Event → Type 0 = λ e. Did c.args.self.now new c.args.caller (e ∷ []) in
    record {
      did =
          subst P is
          (did_one c.args.self.now new c.args.caller (Split c.args.page c.split-released.result) j.room 0
          (c.record.ensures.shape ∙ ap (λ (n : NodeState). n.shape) c.self.view_is)
          (c.record.ensures.events ∙ ap (λ (n : NodeState). n.journal ++ by c.args.caller (Split c.args.page c.split-released.result) ∷ []) c.self.view_is)
          c.record.ensures.legal
          (omega (arith, ap (λ (n : NodeState). n.room) c.self.view_is))
          c.record.ensures.room
          (omega (arith, w.work, ap (λ (n : NodeState). n.table.accesses) c.self.view_is))
          (omega arith));
    }
