use Rattle.std.proofs.Common.{◌≡◌, ◌<◌, ℕ, Option, Some, None, IsSome, length, refl, sym, ◌∙◌, subst, arith}
use Rattle.thp_page.specs.Prelude.{Slot, slot_at}
use Rattle.thp_live_pages.specs.Prelude.{PageStoreState, HasFree}
use Rattle.thp_node.proofs.ChainLemmas.{chain_some, unused_some, none_free}
use Rattle.thp_node.proofs.blocks.Blocks.has_free.Goals as goal

pub returns-then-self-clause-some : goal.returns-then-self-clause-some
returns-then-self-clause-some c =
    subst (λ (n : PageStoreState). HasFree n.table) c.self.view_is (unused_some c.self.inside.places.table c.self.inside.used c.self.inside.count c.self.inside.free c.self.invariant c.if-self.true)

pub returns-in-Some-clause-some : goal.returns-in-Some-clause-some
returns-in-Some-clause-some c =
    subst (λ (n : PageStoreState). HasFree n.table) c.self.view_is
    (chain_some c.self.inside.places.table c.self.inside.used c.self.inside.count c.self.inside.free c.in-Some.field-0 c.self.invariant (sym c.first.ensures ∙ c.in-Some.is))

some_of : (o : Option Slot) → (o ≡ None → ⊥) → IsSome o
some_of None never = absurd (never refl)
some_of (Some x) never = refl

pub returns-in-None-clause-none : goal.returns-in-None-clause-none
returns-in-None-clause-none c =
    let i = c.self.inside in
    subst (λ (n : PageStoreState). (b : ℕ) → b < length n.table.slots → IsSome (slot_at n.table b)) c.self.view_is
    (λ b inside. some_of (slot_at i.places.table b) (none_free i.places.table i.used i.count i.free c.self.invariant (sym c.first.ensures ∙ c.in-None.is) (omega (arith, c.if-self.false)) b inside))
