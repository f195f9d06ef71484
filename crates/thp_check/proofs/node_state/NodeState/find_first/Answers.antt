use Rattle.std.proofs.Common.{ℕ, Some, None, refl, sym, ◌∙◌, subst}
use Rattle.thp_live_pages.specs.Prelude.{IsFlyingAt}
use Rattle.thp_check.proofs.Deciding.{unequal, equal}
use Rattle.thp_check.proofs.TakeSteps.{first_flies, first_number, none_flies, same_some}
use Rattle.thp_check.proofs.node_state.NodeState.find_first.Goals as goal

pub returns-in-None-clause-other : goal.returns-in-None-clause-other
returns-in-None-clause-other c = (None, refl, λ s h m. none_flies s h c.args.caller c.args.self.now m (sym c.first_of.ensures ∙ c.in-None.is), λ e. absurd (cc))

pub number-first-requires : goal.number-first-requires
number-first-requires c =
    let k = c.requires in
    let w = first_flies k.shape k.history c.args.caller c.in-Some.block c.args.self.now k.means (sym c.first_of.ensures ∙ c.in-Some.is) in
    rw w.2.at refl

pub returns-then-ne-clause-other : goal.returns-then-ne-clause-other
returns-then-ne-clause-other c = (
  Some c.number-first.result,
  refl,
  λ s h m. (first_number s h c.args.caller c.in-Some.block c.number-first.result c.args.self.now m (sym c.first_of.ensures ∙ c.in-Some.is) c.number-first.ensures).0,
  λ e. unequal c.number-first.result c.args.page (sym c.ne.ensures ∙ c.if-ne.true) (same_some c.number-first.result c.args.page e),
)

pub returns-clause-there : goal.returns-clause-there
returns-clause-there c =
    let k = c.requires in
    let P : ℕ → Type 0 = λ q. IsFlyingAt c.args.self.now.places.table c.args.caller q c.in-Some.block in
    subst P (equal c.number-first.result c.args.page (sym c.ne.ensures ∙ c.if-ne.false))
    (first_number k.shape k.history c.args.caller c.in-Some.block c.number-first.result c.args.self.now k.means (sym c.first_of.ensures ∙ c.in-Some.is) c.number-first.ensures).1
