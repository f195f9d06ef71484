-- What a loss comes to, by the page before and after it.
use Rattle.std.proofs.Common.{◌≡◌, ℕ, ◌<◌, ◌^◌, Bool, true, false, cond, not, ◌&&◌, ◌||◌, refl, ap, sym, ◌∙◌, arith, nat_eq, nat_lt}
use Rattle.std.proofs.lemmas.Bool.Decides.{nat_tests}
use Rattle.thp_history.specs.declared.events.Outcome.{Outcome}
use Rattle.thp_history.specs.Prelude.{is_freed, PageState, size, total_at, zero_at, holds, has_use, page_outcome, page_released, set_of, Loses}
use Rattle.thp_history.proofs.Below.{some_none}
use Rattle.thp_history.proofs.Bools.{by_bool}
use Rattle.thp_history.proofs.WordLemmas.{set_of-ext}
use Rattle.thp_page.specs.declared.page.Change.{Change}
use Rattle.thp_page.specs.Prelude.{IsChange}
use Rattle.thp_live_pages.specs.Prelude.{outcome_by, released_after}
use Rattle.thp_history.specs.declared.page_call.Loss.{Loss}

same_sizes : (a b : PageState) → a.order ≡ b.order → size a ≡ size b
unfolding size
same_sizes a b e = ap (λ n. 2 ^ n) e

below_size : (i n : ℕ) → nat_lt i n ≡ true → i < n
below_size i n e = grind (arith, nat_tests)

-- a loss leaves the order of its page, and whether it is split
pub loss_order : (l : Loss) (old new : PageState) → Loses l old new → old.order ≡ new.order
loss_order x old new w = grind arith

pub loss_split : (l : Loss) (old new : PageState) → Loses l old new → old.split ≡ new.split
loss_split x old new w = grind arith

-- the outcome, by the change
pub outcome_is_by : (l : Loss) (old new : PageState) (change : Change) (closed nowhere : Bool) → Loses l old new → IsChange old new change →
    outcome_by new change closed nowhere ≡ page_outcome old new closed (not nowhere)
outcome_is_by l old new change closed nowhere w c = grind (arith, loss_split, nat_eq)

freed_unused : (old new : PageState) (closed standing : Bool) (o : Outcome) → is_freed o ≡ true → o ≡ page_outcome old new closed standing → has_use new ≡ false
freed_unused old new closed standing o f e = grind (arith, nat_eq)

power_size : (t : PageState) → 2 ^ t.order ≡ size t
unfolding size
power_size t = refl

not_held : (x s u : Bool) → s ≡ true → (x ≡ true → u ≡ false) → (x && (not s || u)) ≡ false
not_held x y u e f = grind arith

partly_kept : (a b f : Bool) → f ≡ true → b ≡ false → (a && not b) ≡ (a && (f || not b))
partly_kept a b f e g = cc

whole_gone : (x y s u f h : Bool) → x ≡ y → s ≡ false → f ≡ true → x ≡ ((y && (not s || u)) && (f || not h))
whole_gone x y z u v h d e g = grind arith

-- the frames given back, by the change
pub released_is_by : (l : Loss) (old new : PageState) (change : Change) (closed standing : Bool) (o : Outcome) → Loses l old new → IsChange old new change →
    o ≡ page_outcome old new closed standing → released_after new change o ≡ page_released old new o
released_is_by l old new change closed standing o w c e =
    by_bool (is_freed o) _
    (λ f. by_bool new.split _
    (λ y. pick (is_freed o && not new.split) (both_no (is_freed o) new.split y) ∙ c.released
    ∙ set_of-ext _ _ (λ i below. partly_kept (holds old i) (holds new i) (is_freed o) f
    (not_held (nat_lt i (size new)) new.split (nat_lt 0 (total_at new i) && not (new.freed_zero_frames && zero_at new i)) y
    (λ z. ap (λ u. u && not (new.freed_zero_frames && zero_at new i)) (some_none (size new) (λ j. nat_lt 0 (total_at new j)) (freed_unused old new closed standing o f e) i (below_size i (size new) z))))))
    (λ y. all (is_freed o && not new.split) (both_yes (is_freed o) new.split f y)
    ∙ set_of-ext _ _ (λ i below. whole_gone (nat_lt i (2 ^ new.order)) (nat_lt i (size old)) old.split (nat_lt 0 (total_at old i) && not (old.freed_zero_frames && zero_at old i)) (is_freed o) (holds new i)
    (ap (nat_lt i) (power_size new ∙ same_sizes new old (sym (loss_order l old new w)))) (loss_split l old new w ∙ y) f)))
    (λ f. pick (is_freed o && not new.split) (ap (λ x. x && not new.split) f) ∙ c.released
    ∙ set_of-ext _ _ (λ i below. ap (λ x. holds old i && (x || not (holds new i))) (sym f))) where
      pick : (b : Bool) → b ≡ false → cond b (set_of (λ i. nat_lt i (2 ^ new.order))) change.released ≡ change.released
      pick b e = ap (λ x. cond x (set_of (λ i. nat_lt i (2 ^ new.order))) change.released) e

      all : (b : Bool) → b ≡ true → cond b (set_of (λ i. nat_lt i (2 ^ new.order))) change.released ≡ set_of (λ i. nat_lt i (2 ^ new.order))
      all b e = ap (λ x. cond x (set_of (λ i. nat_lt i (2 ^ new.order))) change.released) e

      both_no : (a b : Bool) → b ≡ true → (a && not b) ≡ false
      both_no true b e = ap not e
      both_no false b e = refl

      both_yes : (a b : Bool) → a ≡ true → b ≡ false → (a && not b) ≡ true
      both_yes a b e f = cc
