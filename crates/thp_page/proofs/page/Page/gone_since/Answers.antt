use Rattle.std.proofs.Common.{◌≡◌, ◌∙◌, ◌&&◌, ◌<◌, ℕ, Bool, List, get_or, nat_eq, nat_lt, not, refl, true, false, ap, arith}
use Rattle.std.proofs.lemmas.Bool.Decides.{nat_tests}
use Rattle.thp_history.specs.Prelude.{get_or-set_of, has, set_of, PageState, own_at, zero_at}
use Rattle.thp_page.specs.Prelude.{state_of}
use Rattle.thp_page.proofs.SubSets.{set_of-ext}
use Rattle.thp_page.proofs.page.Page.gone_since.Goals as goal

none : (n : ℕ) → not (nat_lt 0 n) ≡ nat_eq n 0
none n = grind (arith, nat_tests)

-- nothing maps a subpage any more that isn't in the set of those mapped now
bare : (own : List ℕ) (was now left : List Bool) → now ≡ set_of (λ i. nat_lt 0 (get_or own i 0)) → left ≡ set_of (λ i. has was i && not (has now i)) → (i : ℕ) → i < 512 → has left i ≡ (has was i && nat_eq (get_or own i 0) 0)
bare own was now left is left_is i below =
    ap (λ s. has s i) left_is ∙ get_or-set_of (λ j. has was j && not (has now j)) i below
    ∙ ap (λ b. has was i && not b) (ap (λ s. has s i) is ∙ get_or-set_of (λ j. nat_lt 0 (get_or own j 0)) i below)
    ∙ ap (λ b. has was i && b) (none (get_or own i 0))

then : (a e z f : Bool) → f ≡ true → ((a && e) && not z) ≡ (a && (e && not (f && z)))
then true e z true h = refl
then false e z true h = refl
then a e z false h = absurd (cc)

else : (a e z f : Bool) → f ≡ false → (a && e) ≡ (a && (e && not (f && z)))
else true true z false h = refl
else true false z false h = refl
else false e z false h = refl
else a e z true h = absurd (cc)

pub returns-then-self : goal.returns-then-self
returns-then-self c =
    let s : PageState = state_of c.self.inside in
    c.difference.ensures
    ∙ set_of-ext _ _
    (λ i below.
    ap (λ b. b && not (zero_at s i)) (bare s.own c.args.mapped c.mapped.result c.difference-unmapped.result c.mapped.ensures c.difference-unmapped.ensures i below)
    ∙ then (has c.args.mapped i) (nat_eq (own_at s i) 0) (zero_at s i) s.freed_zero_frames c.if-self.true)
    ∙ ap (λ t. set_of (λ i. has c.args.mapped i && (nat_eq (own_at t i) 0 && not (t.freed_zero_frames && zero_at t i)))) c.self.view_is

pub returns-else-self : goal.returns-else-self
returns-else-self c =
    let s : PageState = state_of c.self.inside in
    c.difference-unmapped.ensures
    ∙ set_of-ext _ _
    (λ i below.
    ap (λ b. has c.args.mapped i && not b) (ap (λ t. has t i) c.mapped.ensures ∙ get_or-set_of (λ j. nat_lt 0 (own_at s j)) i below)
    ∙ ap (λ b. has c.args.mapped i && b) (none (own_at s i))
    ∙ else (has c.args.mapped i) (nat_eq (own_at s i) 0) (zero_at s i) s.freed_zero_frames c.if-self.false)
    ∙ ap (λ t. set_of (λ i. has c.args.mapped i && (nat_eq (own_at t i) 0 && not (t.freed_zero_frames && zero_at t i)))) c.self.view_is
