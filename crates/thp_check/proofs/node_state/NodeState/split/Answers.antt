use Rattle.std.proofs.Common.{◌≡◌, Bool, ℕ, Contains, refl, sym, ◌∙◌, subst}
use Rattle.thp_history.specs.Prelude.{PageSplit, shrinks_underused}
use Rattle.thp_history.proofs.WordLemmas.{same_set-Decides}
use Rattle.thp_check.proofs.Deciding.{differs, agrees}
use Rattle.thp_check.specs.Prelude.{blocks_in}
use Rattle.thp_check.proofs.TakeSteps.{split_absent, split_idle, split_pinned, split_goes, split_differs, flies_whole, same_slot, is_there, same_some}
use Rattle.thp_check.proofs.node_state.NodeState.split.Goals as goal

pub returns-in-None : goal.returns-in-None
returns-in-None c = λ s h m. split_absent s h c.args.caller c.args.page c.args.released.now c.args.self.now m c.in-None.ensures.none

pub returns-then-not-is_split_candidate : goal.returns-then-not-is_split_candidate
returns-then-not-is_split_candidate c = λ s h m.
    let at = c.in-Some.ensures.there in
    split_idle s h c.args.caller c.args.page c.in-Some.block c.args.self.now m at c.args.released.now (sym (c.is_split_candidate.ensures at.slot at.at) ∙ c.if-not-is_split_candidate.true)

pub returns-then-pins-ne0 : goal.returns-then-pins-ne0
returns-then-pins-ne0 c = λ s h m.
    let at = c.in-Some.ensures.there in
    split_pinned s h c.args.caller c.args.page c.in-Some.block c.args.self.now m at c.args.released.now (sym (c.is_split_candidate.ensures at.slot at.at) ∙ c.if-not-is_split_candidate.false)
    (λ e. c.if-pins-ne0.true (c.pins.ensures at.slot at.at ∙ e))

pub split-given-requires-clause-allowed : goal.split-given-requires-clause-allowed
split-given-requires-clause-allowed c = λ x e.
    let k = c.requires in
    let at = c.in-Some.ensures.there in (
      flies_whole k.shape k.history c.args.caller c.args.page c.in-Some.block c.args.self.now k.means at x e,
      sym (c.pins.ensures x e) ∙ c.if-pins-ne0.false,
      λ q. let same : x ≡ at.slot = same_slot x at.slot (sym e ∙ at.at) in let stands = at.stands in cc,
    )

pub returns-then-ne : goal.returns-then-ne
returns-then-ne c = λ s h m.
    let at = c.in-Some.ensures.there in
    let did = c.split-given.ensures at.slot at.at in
    let P : Bool → Type 0 = λ z. PageSplit z at.slot.page did.0 in
    let how : P (shrinks_underused c.args.self.now.shape) = subst P c.shrinks_underused.ensures did.1 in
    split_differs s h c.args.caller c.args.page c.in-Some.block c.args.self.now m at c.args.released.now did.0 c.split-given.result how (sym (c.is_split_candidate.ensures at.slot at.at) ∙ c.if-not-is_split_candidate.false)
    (sym (c.pins.ensures at.slot at.at) ∙ c.if-pins-ne0.false) did.2
    (λ e. differs _ (sym c.ne.ensures ∙ c.if-ne.true) ((same_set-Decides c.split-given.result c.args.released.now).1 e))

pub returns : goal.returns
returns c = λ s h m.
    let at = c.in-Some.ensures.there in
    let did = c.split-given.ensures at.slot at.at in
    let P : Bool → Type 0 = λ z. PageSplit z at.slot.page did.0 in
    let how : P (shrinks_underused c.args.self.now.shape) = subst P c.shrinks_underused.ensures did.1 in
    let e : c.split-given.result ≡ c.args.released.now = (same_set-Decides c.split-given.result c.args.released.now).0 (agrees _ (sym c.ne.ensures ∙ c.if-ne.false)) in
    split_goes s h c.args.caller c.args.page c.in-Some.block c.args.self.now m at c.args.released.now _ did.0 how (sym (c.is_split_candidate.ensures at.slot at.at) ∙ c.if-not-is_split_candidate.false) (sym (c.pins.ensures at.slot at.at) ∙ c.if-pins-ne0.false) (sym e ∙ did.2) did.3 c.leave.ensures.left c.leave.ensures.size refl refl refl

pub leave-requires : goal.leave-requires
leave-requires c = λ d e.
    let k = c.requires in
    let P : ℕ → Type 0 = λ n. Contains (blocks_in c.args.self.now.flights n) c.in-Some.block in
    subst P (same_some c.args.caller d e) (is_there k.shape k.history c.args.caller c.args.page c.in-Some.block c.args.self.now k.means c.in-Some.ensures.there)
