use Rattle.std.proofs.Common.{◌≡◌, ℕ, [], ◌∷◌, ◌++◌, None, sym, ◌∙◌, subst, ap, ap₂, arith}
use Rattle.thp_history.specs.declared.shape.Shape.{Shape}
use Rattle.thp_history.specs.Prelude.{History, by, Fits, refusal, gain_call, gain_what}
use Rattle.thp_history.specs.declared.events.What.{What}
use Rattle.thp_history.specs.declared.page_call.PageCall.TheVariants as either
use Rattle.thp_live_pages.specs.Prelude.{IsNode, block_of, PageStoreState}
use Rattle.thp_node.specs.Prelude.{NodeState}
use Rattle.thp_live_pages.proofs.Admitting.{Found, at_home, refused_by_page}
use Rattle.thp_node.proofs.CallLemmas.{did_one, refused_by, node_of, fails_as}
use Rattle.thp_live_pages.proofs.PageEvents.{gained}
use Rattle.thp_node.proofs.Fronts.{fronts_same, fronts_grown, gain_takes_none}
use Rattle.thp_node.proofs.node.Node.gain.Given.{Over}
use Rattle.thp_node.proofs.node.Node.gain.Goals as goal

pub record-requires-clause-fits : goal.record-requires-clause-fits
record-requires-clause-fits g c =
    let j = c.self.inside.journal in
    let b = c.self.inside.blocks in
    let is = c.self.view_is ∙ c.in_ok-block.ensures.same in
    let w : Found j.shape j.events b.table c.args.page c.in_ok-block.block =
    at_home j.shape j.events b.table b.queue c.args.page c.in_ok-block.block c.self.invariant (ap (λ (n : NodeState). block_of n.journal c.args.page) is ∙ c.in_ok-block.ensures.block) in
    let did = c.in_ok-gain.ensures.gained w.slot w.at in
    let allowed : refusal j.shape j.events (gain_call c.args.gain w.slot.id) ≡ None =
    ap (λ p. refusal j.shape j.events (gain_call c.args.gain p)) w.id_is
    ∙ refused_by_page j.shape j.events b.table c.args.page c.in_ok-block.block (either.Gain c.args.gain) w ∙ sym (c.in_ok-gain.ensures.refusal w.slot w.at c.args.page) in
    let P : What → Type 0 = λ v. Fits j.shape j.events (by c.args.caller v) in
    let Q : ℕ → Type 0 = λ p. Fits j.shape j.events (by c.args.caller (gain_what c.args.gain p)) in
    subst P (sym c.what.ensures) (subst Q w.id_is (gained j.shape j.events c.args.caller c.in_ok-block.block w.slot did.0 c.args.gain b c.gain.new.self c.self.invariant w.at allowed did.1 did.2).0)

-- the node that the page's gain leaves, with its event
changed : (g : Over) (c : goal.After-record g) → IsNode c.record.new.self.shape c.record.new.self.events c.gain.new.self.table c.gain.new.self.queue
changed g c =
    let j = c.self.inside.journal in
    let b = c.self.inside.blocks in
    let is = c.self.view_is ∙ c.in_ok-block.ensures.same in
    let w : Found j.shape j.events b.table c.args.page c.in_ok-block.block =
    at_home j.shape j.events b.table b.queue c.args.page c.in_ok-block.block c.self.invariant (ap (λ (n : NodeState). block_of n.journal c.args.page) is ∙ c.in_ok-block.ensures.block) in
    let did = c.in_ok-gain.ensures.gained w.slot w.at in
    let allowed : refusal j.shape j.events (gain_call c.args.gain w.slot.id) ≡ None =
    ap (λ p. refusal j.shape j.events (gain_call c.args.gain p)) w.id_is
    ∙ refused_by_page j.shape j.events b.table c.args.page c.in_ok-block.block (either.Gain c.args.gain) w ∙ sym (c.in_ok-gain.ensures.refusal w.slot w.at c.args.page) in
    let node = (gained j.shape j.events c.args.caller c.in_ok-block.block w.slot did.0 c.args.gain b c.gain.new.self c.self.invariant w.at allowed did.1 did.2).1 in
    let P : Shape → History → Type 0 = λ s h. IsNode s h c.gain.new.self.table c.gain.new.self.queue in
    let events : c.record.new.self.events ≡ j.events ++ by c.args.caller (gain_what c.args.gain w.slot.id) ∷ [] =
    c.record.ensures.events ∙ ap (λ v. j.events ++ by c.args.caller v ∷ []) (c.what.ensures ∙ ap (gain_what c.args.gain) (sym w.id_is)) in
    subst (λ h. P c.record.new.self.shape h) (sym events) (subst (λ s. P s (j.events ++ by c.args.caller (gain_what c.args.gain w.slot.id) ∷ [])) (sym c.record.ensures.shape) node)

pub invariant_of-self-2 : goal.invariant_of-self-2
invariant_of-self-2 g c = changed g c

pub returns-clause-recorded : goal.returns-clause-recorded
returns-clause-recorded g c =
    let j = c.self.inside.journal in
    let b = c.self.inside.blocks in
    let is = c.self.view_is ∙ c.in_ok-block.ensures.same in
    let w : Found j.shape j.events b.table c.args.page c.in_ok-block.block =
    at_home j.shape j.events b.table b.queue c.args.page c.in_ok-block.block c.self.invariant (ap (λ (n : NodeState). block_of n.journal c.args.page) is ∙ c.in_ok-block.ensures.block) in
    did_one c.args.self.now _ c.args.caller (gain_what c.args.gain c.args.page) j.room 0
    (c.record.ensures.shape ∙ ap (λ (n : NodeState). n.shape) is)
    (c.record.ensures.events ∙ ap₂ (λ h v. h ++ by c.args.caller v ∷ []) (ap (λ (n : NodeState). n.journal) is) c.what.ensures)
    c.record.ensures.legal
    (omega (arith, c.in_ok-block.ensures.more, ap (λ (n : NodeState). n.room) c.self.view_is))
    c.record.ensures.room
    (omega (arith, (c.in_ok-gain.ensures.gained w.slot w.at).2.work, ap (λ (n : NodeState). n.table.accesses) is))
    (omega arith)

pub returns-in_err-block-clause-fronts : goal.returns-in_err-block-clause-fronts
returns-in_err-block-clause-fronts g c =
    fronts_same c.args.self.now.journal _ (ap (λ (n : NodeState). n.journal) c.in_err-block.ensures.refused.same)

pub returns-clause-fronts : goal.returns-clause-fronts
returns-clause-fronts g c =
    fronts_grown c.args.self.now.journal _ (by c.args.caller (gain_what c.args.gain c.args.page) ∷ []) (returns-clause-recorded g c).journal
    (λ d. gain_takes_none d c.args.caller c.args.page c.args.gain)

pub returns-in_err-gain-clause-refused : goal.returns-in_err-gain-clause-refused
returns-in_err-gain-clause-refused g c =
    let j = c.self.inside.journal in
    let b = c.self.inside.blocks in
    let is = c.self.view_is ∙ c.in_ok-block.ensures.same in
    let w : Found j.shape j.events b.table c.args.page c.in_ok-block.block =
    at_home j.shape j.events b.table b.queue c.args.page c.in_ok-block.block c.self.invariant (ap (λ (n : NodeState). block_of n.journal c.args.page) is ∙ c.in_ok-block.ensures.block) in
    fails_as c.from_residual-in_err-gain.result c.in_err-gain.field-0.0 _ c.from_residual-in_err-gain.ensures.1
    (refused_by c.args.self.now _ _ _ _ (ap (λ (b : PageStoreState). node_of c.self.inside.journal b) c.in_err-gain.ensures.kept ∙ c.self.view_is)
    (ap (λ (n : NodeState). refusal n.shape n.journal (gain_call c.args.gain c.args.page)) (sym is)
    ∙ refused_by_page j.shape j.events b.table c.args.page c.in_ok-block.block (either.Gain c.args.gain) w ∙ sym (c.in_err-gain.ensures.refusal w.slot w.at c.args.page))
    c.in_ok-block.ensures.kept c.in_ok-block.ensures.allowed)

pub returns-clause-allowed : goal.returns-clause-allowed
returns-clause-allowed g c =
    let j = c.self.inside.journal in
    let b = c.self.inside.blocks in
    let is = c.self.view_is ∙ c.in_ok-block.ensures.same in
    let w : Found j.shape j.events b.table c.args.page c.in_ok-block.block =
    at_home j.shape j.events b.table b.queue c.args.page c.in_ok-block.block c.self.invariant (ap (λ (n : NodeState). block_of n.journal c.args.page) is ∙ c.in_ok-block.ensures.block) in
    ap (λ (n : NodeState). refusal n.shape n.journal (gain_call c.args.gain c.args.page)) (sym is)
    ∙ refused_by_page j.shape j.events b.table c.args.page c.in_ok-block.block (either.Gain c.args.gain) w ∙ sym (c.in_ok-gain.ensures.refusal w.slot w.at c.args.page)
