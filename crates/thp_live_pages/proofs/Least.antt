-- The least block that isn't held.
use Rattle.std.proofs.Common.{◌≡◌, ℕ, suc, zero, ◌+◌, ◌<◌, ◌≤◌, Bool, true, false, cond, ◌&&◌, List, length, set, get_or, refl, ap, sym, ◌∙◌, arith, inl, inr, nat_eq, nat_lt, length-set}
use Rattle.std.specs.List.{range_with_len}
use Rattle.std.proofs.lemmas.List.{get_or-set_same, get_or-set_other, get_or_past}
use Rattle.std.proofs.lemmas.Bool.{cases_lt, lt-ltb}
use Rattle.std.proofs.lemmas.Bool.Decides.{eqb_tells}
use Rattle.thp_history.specs.Prelude.{first_that}
use Rattle.thp_history.proofs.Bools.{and_both}
use Rattle.thp_live_pages.specs.Prelude.{least_of, has_block, AreFree, FreeSet}

-- the first number of a range that passes
pub first_found : (test : ℕ → Bool) (a n b : ℕ) → a ≤ b → b < a + n → test b ≡ true → ((k : ℕ) → k < b → test k ≡ false) → first_that test (range_with_len a n) ≡ b
first_found test a zero b l m t f = absurd (omega arith)
first_found test a (suc n) b l m t f =
    elim (eqb_tells a b) [
      | inl y ↦ ap (λ c. cond c a (first_that test (range_with_len (a + 1) n))) (ap test y.1 ∙ t) ∙ y.1
      | inr y ↦
          ap (λ c. cond c a (first_that test (range_with_len (a + 1) n))) (f a (omega (arith, y.1)))
          ∙ first_found test (a + 1) n b (omega (arith, y.1)) (omega arith) t f
    ]

-- none of a range passes
pub first_none : (test : ℕ → Bool) (a n : ℕ) → ((k : ℕ) → k < a + n → test k ≡ false) → first_that test (range_with_len a n) ≡ 0
first_none test a zero f = refl
first_none test a (suc n) f =
    ap (λ c. cond c a (first_that test (range_with_len (a + 1) n))) (f a (omega arith)) ∙ first_none test (a + 1) n (λ k h. f k (omega arith))

-- tests that agree find the same
pub first_alike : (f g : ℕ → Bool) (a n : ℕ) → ((k : ℕ) → f k ≡ g k) → first_that f (range_with_len a n) ≡ first_that g (range_with_len a n)
first_alike f g a zero h = refl
first_alike f g a (suc n) h =
    ap (λ c. cond c a (first_that f (range_with_len (a + 1) n))) (h a) ∙ ap (λ m. cond (g a) a m) (first_alike f g (a + 1) n h)

-- a block of the set is one that is held by none
pub free_block : (counts : List ℕ) (free : FreeSet) (b : ℕ) → AreFree counts free → has_block free b ≡ true → (b < length counts) × (nat_eq (get_or counts b 0) 0 ≡ true)
free_block counts free b a e = grind (arith, nat_lt, nat_eq, get_or, and_both)

-- a block that isn't in it is held
pub held_block : (counts : List ℕ) (free : FreeSet) (b : ℕ) → AreFree counts free → b < length counts → has_block free b ≡ false → nat_eq (get_or counts b 0) 0 ≡ false
held_block counts free b a h e = ap (λ c. c && nat_eq (get_or counts b 0) 0) (sym (lt-ltb b (length counts) h)) ∙ (sym (a.marked b) ∙ e)

-- the least block of the set
pub least_some : (counts : List ℕ) (free : FreeSet) (b : ℕ) → AreFree counts free → has_block free b ≡ true → ((k : ℕ) → k < b → has_block free k ≡ false) → b ≡ least_of counts
unfolding least_of
least_some counts free b a e f =
    let t : (b < length counts) × (nat_eq (get_or counts b 0) 0 ≡ true) = free_block counts free b a e in
    let inside : b < length counts = t.0 in
    sym (first_found (λ k. nat_eq (get_or counts k 0) 0) 0 (length counts) b (omega arith) (omega arith) t.1 (λ k h. held_block counts free k a (omega arith) (f k h)))

-- the empty set
pub least_none : (counts : List ℕ) (free : FreeSet) → AreFree counts free → ((k : ℕ) → has_block free k ≡ false) → 0 ≡ least_of counts
unfolding least_of
least_none counts free a f = sym (first_none (λ k. nat_eq (get_or counts k 0) 0) 0 (length counts) (λ k h. held_block counts free k a (omega arith) (f k)))

-- the numbers with one changed, and the set with the block
pub free_after : (counts : List ℕ) (free others : FreeSet) (b v : ℕ) → AreFree counts free → b < length counts → others.blocks ≡ free.blocks →
    ((k : ℕ) → has_block others k ≡ cond (nat_eq k b) (nat_eq v 0) (has_block free k)) → AreFree (set counts b v) others
free_after counts free others b v a h e f = grind (arith, eqb_tells, nat_eq, lt-ltb, length-set, nat_lt, get_or, get_or-set_same, get_or-set_other)

-- a number that isn't 0 stands in the list
pub counted_inside : (counts : List ℕ) (b : ℕ) → 0 < get_or counts b 0 → b < length counts
counted_inside counts b h = grind (arith, cases_lt, get_or, get_or_past)
