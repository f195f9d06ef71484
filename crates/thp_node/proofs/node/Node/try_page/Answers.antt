use Rattle.std.proofs.Common.{◌≡◌, ◌∷◌, [], ◌++◌, ap, sym, ◌∙◌, subst, arith}
use Rattle.thp_history.specs.declared.events.Event.{Event}
use Rattle.thp_history.specs.declared.events.What.TheVariants.{Pinned, Used}
use Rattle.thp_history.specs.Prelude.{by, pins, is_split_candidate, try_event}
use Rattle.thp_node.specs.Prelude.{Did, NodeState}
use Rattle.thp_node.proofs.BatchRuns.{flies_inside, slot_inside, node_recorded, pins_there, tried_split, tried_pinned, tried_used, FoundPinned, found_pinned, found_used}
use Rattle.thp_node.proofs.CallLemmas.{did_one, node_of}
use Rattle.thp_node.proofs.node.Node.try_page.Given.{Over}
use Rattle.thp_node.proofs.node.Node.try_page.Goals as goal
use Rattle.thp_node.proofs.node.Node.try_page.Goals.{Else-pins-eq0}

-- the page is found pinned
pinned : (g : Over) (c : Else-pins-eq0 g) → FoundPinned c.self.inside.journal.shape c.self.inside.journal.events c.args.caller c.args.page c.self.inside.blocks.table c.self.inside.blocks.queue
pinned g c =
    let j = c.self.inside.journal in
    let w = flies_inside _ c.args.self.now c.args.caller c.args.page c.args.block c.self.view_is c.requires.flies in
    found_pinned j.shape j.events c.args.caller c.args.page c.args.block c.self.inside.blocks c.self.invariant w
    (sym (slot_inside _ c.args.self.now c.args.block (λ s x. c.is_split_candidate.result ≡ is_split_candidate s.underused x.page) c.self.view_is c.is_split_candidate.ensures.page w.slot w.at) ∙ c.if-not-is_split_candidate.false)
    (omega (arith, (rw c.store.ensures at c.pins.ensures) w.slot w.at, c.if-pins-eq0.false))

pub record-requires-clause-fits : goal.record-requires-clause-fits
record-requires-clause-fits g c =
    let j = c.self.inside.journal in
    let w = flies_inside _ c.args.self.now c.args.caller c.args.page c.args.block c.self.view_is c.requires.flies in
    let u = found_used j.shape j.events c.args.caller c.args.page c.args.block c.self.inside.blocks c.self.invariant w c.drop_out.new.self c.drop_out.ensures
    (sym (slot_inside _ c.args.self.now c.args.block (λ s x. c.is_split_candidate.result ≡ is_split_candidate s.underused x.page) c.self.view_is c.is_split_candidate.ensures.page w.slot w.at) ∙ c.if-not-is_split_candidate.true) in
    u.fits

pub invariant_of-self : goal.invariant_of-self
invariant_of-self g c =
    let j = c.self.inside.journal in
    let w = flies_inside _ c.args.self.now c.args.caller c.args.page c.args.block c.self.view_is c.requires.flies in
    let u = found_used j.shape j.events c.args.caller c.args.page c.args.block c.self.inside.blocks c.self.invariant w c.drop_out.new.self c.drop_out.ensures
    (sym (slot_inside _ c.args.self.now c.args.block (λ s x. c.is_split_candidate.result ≡ is_split_candidate s.underused x.page) c.self.view_is c.is_split_candidate.ensures.page w.slot w.at) ∙ c.if-not-is_split_candidate.true) in
    node_recorded c.record.new.self.shape j.shape c.record.new.self.events j.events (by c.args.caller (Used c.args.page)) c.drop_out.new.self c.record.ensures.shape c.record.ensures.events u.node

pub record-requires-else-pins-eq0-clause-fits : goal.record-requires-else-pins-eq0-clause-fits
record-requires-else-pins-eq0-clause-fits g c = (pinned g (goal.at.record-requires-else-pins-eq0-clause-fits g c).Else-pins-eq0).fits

pub invariant_of-self-else-pins-eq0 : goal.invariant_of-self-else-pins-eq0
invariant_of-self-else-pins-eq0 g c =
    let j = c.self.inside.journal in
    node_recorded c.record-else-pins-eq0.new.self.shape j.shape c.record-else-pins-eq0.new.self.events j.events (by c.args.caller (Pinned c.args.page)) c.self.inside.blocks
    c.record-else-pins-eq0.ensures.shape c.record-else-pins-eq0.ensures.events (pinned g (goal.at.invariant_of-self-else-pins-eq0 g c).Else-pins-eq0).node

pub returns-then-not-is_split_candidate-clause-tried : goal.returns-then-not-is_split_candidate-clause-tried
returns-then-not-is_split_candidate-clause-tried g c =
    tried_used c.args.self.now.shape c.args.self.now.journal c.args.page (sym (c.is_split_candidate.ensures.worth c.args.caller c.args.page c.requires.flies) ∙ c.if-not-is_split_candidate.true)

pub returns-then-not-is_split_candidate-clause-did : goal.returns-then-not-is_split_candidate-clause-did
returns-then-not-is_split_candidate-clause-did g c =
    let j = c.self.inside.journal in
    let w = flies_inside _ c.args.self.now c.args.caller c.args.page c.args.block c.self.view_is c.requires.flies in
    let u = found_used j.shape j.events c.args.caller c.args.page c.args.block c.self.inside.blocks c.self.invariant w c.drop_out.new.self c.drop_out.ensures
    (sym (slot_inside _ c.args.self.now c.args.block (λ s x. c.is_split_candidate.result ≡ is_split_candidate s.underused x.page) c.self.view_is c.is_split_candidate.ensures.page w.slot w.at) ∙ c.if-not-is_split_candidate.true) in
    let is : by c.args.caller (Used c.args.page) ≡ try_event c.args.self.now.shape c.args.self.now.journal c.args.caller c.args.page =
    u.is ∙ ap (λ (n : NodeState). try_event n.shape n.journal c.args.caller c.args.page) c.self.view_is in
    let new : NodeState = node_of c.record.new.self c.drop_out.new.self in
    let P : Event → Type 0 = λ e. Did c.args.self.now new c.args.caller (e ∷ []) in
    subst P is
    (did_one c.args.self.now new c.args.caller (Used c.args.page) j.room 0
    (c.record.ensures.shape ∙ ap (λ (n : NodeState). n.shape) c.self.view_is)
    (c.record.ensures.events ∙ ap (λ (n : NodeState). n.journal ++ by c.args.caller (Used c.args.page) ∷ []) c.self.view_is)
    c.record.ensures.legal
    (omega (arith, ap (λ (n : NodeState). n.room) c.self.view_is))
    c.record.ensures.room
    (omega (arith, u.work, ap (λ (n : NodeState). n.table.accesses) c.self.view_is))
    (omega arith))

pub returns-then-pins-eq0-clause-tried : goal.returns-then-pins-eq0-clause-tried
returns-then-pins-eq0-clause-tried g c =
    let j = c.self.inside.journal in
    let w = flies_inside _ c.args.self.now c.args.caller c.args.page c.args.block c.self.view_is c.requires.flies in
    let there : pins j.events c.args.page ≡ w.slot.page.pins = pins_there j.shape j.events c.args.caller c.args.page c.args.block c.self.inside.blocks c.self.invariant w in
    tried_split c.args.self.now.shape c.args.self.now.journal c.args.page (sym (c.is_split_candidate.ensures.worth c.args.caller c.args.page c.requires.flies) ∙ c.if-not-is_split_candidate.false)
    (omega (arith, there, (rw c.store.ensures at c.pins.ensures) w.slot w.at, c.if-pins-eq0.true, ap (λ (n : NodeState). pins n.journal c.args.page) c.self.view_is))

pub returns-else-pins-eq0-clause-tried : goal.returns-else-pins-eq0-clause-tried
returns-else-pins-eq0-clause-tried g c =
    let j = c.self.inside.journal in
    let w = flies_inside _ c.args.self.now c.args.caller c.args.page c.args.block c.self.view_is c.requires.flies in
    let there : pins j.events c.args.page ≡ w.slot.page.pins = pins_there j.shape j.events c.args.caller c.args.page c.args.block c.self.inside.blocks c.self.invariant w in
    tried_pinned c.args.self.now.shape c.args.self.now.journal c.args.page (sym (c.is_split_candidate.ensures.worth c.args.caller c.args.page c.requires.flies) ∙ c.if-not-is_split_candidate.false) (omega (arith, there, (rw c.store.ensures at c.pins.ensures) w.slot w.at, c.if-pins-eq0.false, ap (λ (n : NodeState). pins n.journal c.args.page) c.self.view_is))

pub returns-else-pins-eq0-clause-did : goal.returns-else-pins-eq0-clause-did
returns-else-pins-eq0-clause-did g c =
    let j = c.self.inside.journal in
    let w = pinned g (goal.at.returns-else-pins-eq0-clause-did g c).Else-pins-eq0 in
    let is : by c.args.caller (Pinned c.args.page) ≡ try_event c.args.self.now.shape c.args.self.now.journal c.args.caller c.args.page =
    w.is ∙ ap (λ (n : NodeState). try_event n.shape n.journal c.args.caller c.args.page) c.self.view_is in
    let new : NodeState = node_of c.record-else-pins-eq0.new.self c.self.inside.blocks in
    let P : Event → Type 0 = λ e. Did c.args.self.now new c.args.caller (e ∷ []) in
    subst P is
    (did_one c.args.self.now new c.args.caller (Pinned c.args.page) j.room 0
    (c.record-else-pins-eq0.ensures.shape ∙ ap (λ (n : NodeState). n.shape) c.self.view_is)
    (c.record-else-pins-eq0.ensures.events ∙ ap (λ (n : NodeState). n.journal ++ by c.args.caller (Pinned c.args.page) ∷ []) c.self.view_is)
    c.record-else-pins-eq0.ensures.legal
    (omega (arith, ap (λ (n : NodeState). n.room) c.self.view_is))
    c.record-else-pins-eq0.ensures.room
    (omega (arith, ap (λ (n : NodeState). n.table.accesses) c.self.view_is))
    (omega arith))
