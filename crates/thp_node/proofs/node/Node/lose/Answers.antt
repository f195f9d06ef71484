use Rattle.std.proofs.Common.{◌≡◌, ℕ, None, Some, [], ◌∷◌, ◌++◌, sym, ◌∙◌, subst, ap, ap₂, arith}
use Rattle.thp_history.specs.declared.shape.Shape.{Shape}
use Rattle.thp_history.specs.declared.events.What.{What}
use Rattle.thp_history.specs.Prelude.{History, by, outcome, released, refusal, page_refusal, loss_call, loss_what}
use Rattle.thp_history.specs.declared.page_call.PageCall.TheVariants as either
use Rattle.thp_live_pages.specs.Prelude.{IsNode, block_of, PageStoreState, AtSlot}
use Rattle.thp_history.specs.declared.page_call.Loss.{Loss}
use Rattle.thp_node.specs.Prelude.{NodeState}
use Rattle.thp_live_pages.proofs.Admitting.{Found, at_home, refused_by_page}
use Rattle.thp_node.proofs.CallLemmas.{did_one, refused_by, node_of, fails_as}
use Rattle.thp_node.proofs.Losing.{Losing, losing}
use Rattle.thp_node.proofs.Fronts.{fronts_same, fronts_grown, loss_takes_none}
use Rattle.thp_node.proofs.node.Node.lose.Given.{Over}
use Rattle.thp_node.proofs.node.Node.lose.Goals as goal

-- what the page doesn't refuse isn't refused
allowed : (s : Shape) (h : History) (n : PageStoreState) (p b : ℕ) (l : Loss) → IsNode s h n.table n.queue → block_of h p ≡ Some b → AtSlot n.table b (λ x. (q : ℕ) → None ≡ page_refusal x.page (loss_call l q)) → refusal s h (loss_call l p) ≡ None
allowed s h n p b l m home reported =
    let w : Found s h n.table p b = at_home s h n.table n.queue p b m home in
    refused_by_page s h n.table p b (either.Loss l) w ∙ sym (reported w.slot w.at p)

-- what the page lost
after : (g : Over) (c : goal.After-record_loss g) → Losing c.self.inside.journal.shape c.self.inside.journal.events c.args.caller c.args.page c.args.loss c.self.inside.blocks c.lose.new.self c.lose.new.done c.in_ok-left.left
after g c =
    let j = c.self.inside.journal in
    let b = c.self.inside.blocks in
    let is = c.self.view_is ∙ c.in_ok-block.ensures.same in
    losing j.shape j.events c.args.caller c.args.page c.in_ok-block.block c.args.loss c.is_closed-closed.result b c.lose.new.self c.lose.new.done c.in_ok-left.left c.self.invariant
    (ap (λ (n : NodeState). block_of n.journal c.args.page) is ∙ c.in_ok-block.ensures.block)
    c.is_closed-closed.ensures
    (allowed j.shape j.events b c.args.page c.in_ok-block.block c.args.loss c.self.invariant (ap (λ (n : NodeState). block_of n.journal c.args.page) is ∙ c.in_ok-block.ensures.block) c.in_ok-left.ensures.refusal)
    c.in_ok-left.ensures.lost

pub record_loss-requires-clause-fits : goal.record_loss-requires-clause-fits
record_loss-requires-clause-fits g c =
    let j = c.self.inside.journal in
    let b = c.self.inside.blocks in
    let is = c.self.view_is ∙ c.in_ok-block.ensures.same in
    (losing j.shape j.events c.args.caller c.args.page c.in_ok-block.block c.args.loss c.is_closed-closed.result b c.lose.new.self c.lose.new.done c.in_ok-left.left c.self.invariant
    (ap (λ (n : NodeState). block_of n.journal c.args.page) is ∙ c.in_ok-block.ensures.block)
    c.is_closed-closed.ensures
    (allowed j.shape j.events b c.args.page c.in_ok-block.block c.args.loss c.self.invariant (ap (λ (n : NodeState). block_of n.journal c.args.page) is ∙ c.in_ok-block.ensures.block) c.in_ok-left.ensures.refusal)
    c.in_ok-left.ensures.lost).fits

pub record_loss-requires-clause-leaves : goal.record_loss-requires-clause-leaves
record_loss-requires-clause-leaves g c =
    let j = c.self.inside.journal in
    let b = c.self.inside.blocks in
    let is = c.self.view_is ∙ c.in_ok-block.ensures.same in
    (losing j.shape j.events c.args.caller c.args.page c.in_ok-block.block c.args.loss c.is_closed-closed.result b c.lose.new.self c.lose.new.done c.in_ok-left.left c.self.invariant
    (ap (λ (n : NodeState). block_of n.journal c.args.page) is ∙ c.in_ok-block.ensures.block)
    c.is_closed-closed.ensures
    (allowed j.shape j.events b c.args.page c.in_ok-block.block c.args.loss c.self.invariant (ap (λ (n : NodeState). block_of n.journal c.args.page) is ∙ c.in_ok-block.ensures.block) c.in_ok-left.ensures.refusal)
    c.in_ok-left.ensures.lost).leaves_is

events : (g : Over) (c : goal.After-record_loss g) → c.record_loss.new.self.events ≡ c.self.inside.journal.events ++ by c.args.caller (loss_what c.args.loss c.args.page c.lose.new.done.outcome c.lose.new.done.released) ∷ []
events g c = c.record_loss.ensures.events

pub invariant_of-self-2 : goal.invariant_of-self-2
invariant_of-self-2 g c =
    let j = c.self.inside.journal in
    let w : What = loss_what c.args.loss c.args.page c.lose.new.done.outcome c.lose.new.done.released in
    let P : Shape → History → Type 0 = λ s h. IsNode s h c.lose.new.self.table c.lose.new.self.queue in
    subst (λ h. P c.record_loss.new.self.shape h) (sym (events g c)) (subst (λ s. P s (j.events ++ by c.args.caller w ∷ [])) (sym c.record_loss.ensures.shape) (after g c).node)

pub returns-clause-recorded : goal.returns-clause-recorded
returns-clause-recorded g c =
    let j = c.self.inside.journal in
    let is = c.self.view_is ∙ c.in_ok-block.ensures.same in
    let w : What = loss_what c.args.loss c.args.page c.lose.new.done.outcome c.lose.new.done.released in
    did_one c.args.self.now _ c.args.caller w j.room 8
    (c.record_loss.ensures.shape ∙ ap (λ (n : NodeState). n.shape) is)
    (events g c ∙ ap (λ h. h ++ by c.args.caller w ∷ []) (ap (λ (n : NodeState). n.journal) is))
    c.record_loss.ensures.legal
    (omega (arith, c.in_ok-block.ensures.more, ap (λ (n : NodeState). n.room) c.self.view_is))
    c.record_loss.ensures.room
    (omega (arith, (after g c).work, ap (λ (n : NodeState). n.table.accesses) is))
    (omega arith)

pub returns-clause-outcome : goal.returns-clause-outcome
returns-clause-outcome g c =
    let is = c.self.view_is ∙ c.in_ok-block.ensures.same in
    (after g c).gives.outcome_is
    ∙ ap₂ (λ (n : NodeState) h. outcome n.shape n.journal h c.args.page) is (sym (events g c))

pub returns-clause-released : goal.returns-clause-released
returns-clause-released g c =
    let is = c.self.view_is ∙ c.in_ok-block.ensures.same in
    (after g c).gives.set_is
    ∙ ap₂ (λ (n : NodeState) h. released n.shape n.journal h c.args.page) is (sym (events g c))

pub returns-in_err-block-clause-fronts : goal.returns-in_err-block-clause-fronts
returns-in_err-block-clause-fronts g c =
    fronts_same c.args.self.now.journal _ (ap (λ (n : NodeState). n.journal) c.in_err-block.ensures.refused.same)

pub returns-clause-fronts : goal.returns-clause-fronts
returns-clause-fronts g c =
    let done = c.lose.new.done in
    fronts_grown c.args.self.now.journal _ (by c.args.caller (loss_what c.args.loss c.args.page done.outcome done.released) ∷ []) (returns-clause-recorded g c).journal
    (λ d. loss_takes_none d c.args.caller c.args.page c.args.loss done.outcome done.released)

pub returns-clause-allowed : goal.returns-clause-allowed
returns-clause-allowed g c =
    let j = c.self.inside.journal in
    let is = c.self.view_is ∙ c.in_ok-block.ensures.same in
    ap (λ (n : NodeState). refusal n.shape n.journal (loss_call c.args.loss c.args.page)) (sym is)
    ∙ allowed j.shape j.events c.self.inside.blocks c.args.page c.in_ok-block.block c.args.loss c.self.invariant (ap (λ (n : NodeState). block_of n.journal c.args.page) is ∙ c.in_ok-block.ensures.block) c.in_ok-left.ensures.refusal

pub returns-in_err-left-clause-refused : goal.returns-in_err-left-clause-refused
returns-in_err-left-clause-refused g c =
    let j = c.self.inside.journal in
    let b = c.self.inside.blocks in
    let is = c.self.view_is ∙ c.in_ok-block.ensures.same in
    let w : Found j.shape j.events b.table c.args.page c.in_ok-block.block =
    at_home j.shape j.events b.table b.queue c.args.page c.in_ok-block.block c.self.invariant (ap (λ (n : NodeState). block_of n.journal c.args.page) is ∙ c.in_ok-block.ensures.block) in
    fails_as c.from_residual-in_err-left.result c.in_err-left.field-0.0 _ c.from_residual-in_err-left.ensures.1
    (refused_by c.args.self.now _ _ _ _ (ap (λ (b : PageStoreState). node_of c.self.inside.journal b) c.in_err-left.ensures.kept ∙ c.self.view_is)
    (ap (λ (n : NodeState). refusal n.shape n.journal (loss_call c.args.loss c.args.page)) (sym is)
    ∙ refused_by_page j.shape j.events b.table c.args.page c.in_ok-block.block (either.Loss c.args.loss) w ∙ sym (c.in_err-left.ensures.refusal w.slot w.at c.args.page))
    c.in_ok-block.ensures.kept c.in_ok-block.ensures.allowed)
