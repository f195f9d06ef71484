-- The zero-filled subpages of a page, as a set.
use Rattle.std.proofs.Common.{◌≡◌, ℕ, ◌+◌, ◌-◌, ◌≤◌, ◌<◌, ◌^◌, Bool, true, false, not, ◌&&◌, ◌||◌, cond, nat_eq, nat_lt, List, refl, ap, ap₂, sym, ◌∙◌, arith}
use Rattle.std.proofs.lemmas.Bool.Decides.{nat_tests}
use Rattle.thp_history.specs.Prelude.{covers, set_of, has, set_size, some_below, count_below, get_or-set_of, PageState, size, own_at, zero_at, holds, zero_set, zero_count, some_in_range, RangeWritten, RangeZeroed}
use Rattle.thp_history.proofs.Below.{some_no, some_none, some_below-ext}
use Rattle.thp_history.proofs.SumsBelow.{set_size-set_of, sum_below-ext, sum_below-stop}
use Rattle.thp_page.proofs.SomeBelow.{same_if_false}
use Rattle.thp_page.proofs.PageSizes.{size_most, range_test}
use Rattle.thp_page.proofs.RangeLemmas.{covers_true}
use Rattle.thp_page.proofs.PageChanges.{zero_inside-test}

-- as many subpages are zero-filled as the set has numbers
pub set_size-zeros : (t : PageState) → t.order ≤ 9 → t.zero ≡ zero_set t → set_size t.zero ≡ zero_count t
set_size-zeros t most inside =
    ap set_size inside ∙ set_size-set_of (λ i. nat_lt i (size t) && zero_at t i)
    ∙ ap (λ m. count_below m (λ i. nat_lt i (size t) && zero_at t i)) (back (size t) (size_most t most))
    ∙ sum_below-stop (512 - size t) (size t) (λ i. cond (nat_lt i (size t) && zero_at t i) 1 0) (λ i above. behind i (size t) (zero_at t i) above)
    ∙ sum_below-ext (size t) (λ i. cond (nat_lt i (size t) && zero_at t i) 1 0) (λ i. cond (zero_at t i) 1 0) (λ i below. ap (λ b. cond b 1 0) (there i (size t) (zero_at t i) below)) where
      back : (n : ℕ) → n ≤ 512 → 512 ≡ 512 - n + n
      back n h = omega arith

      behind : (i n : ℕ) (b : Bool) → n ≤ i → ◌≡◌ {A = ℕ} (cond (nat_lt i n && b) 1 0) 0
      behind i n b h = grind (arith, nat_tests)

      there : (i n : ℕ) (b : Bool) → i < n → (nat_lt i n && b) ≡ b
      there i n b h = grind (arith, nat_tests)

-- a subpage of a range is zero-filled where the range has one in common with them
pub some_zero : (t : PageState) (first count : ℕ) (range common : List Bool) (empty : Bool) → first + count ≤ size t → size t ≤ 512 →
    range ≡ set_of (covers first count) → common ≡ set_of (λ i. has t.zero i && has range i) → empty ≡ not (some_below 512 (has common)) → not empty ≡ some_in_range t first count (zero_at t)
some_zero t first count range common empty inside most is_range is_common reported =
    ap not reported ∙ twice (some_below 512 (has common))
    ∙ some_below-ext 512 (has common) (λ i. covers first count i && zero_at t i)
    (λ i short.
    ap (λ s. has s i) is_common ∙ get_or-set_of (λ j. has t.zero j && has range j) i short
    ∙ ap (λ b. zero_at t i && b) (ap (λ s. has s i) is_range ∙ get_or-set_of (covers first count) i short)
    ∙ toggle (zero_at t i) (covers first count i))
    ∙ sym (range_test (size t) first count (zero_at t) inside most) where
      twice : (b : Bool) → not (not b) ≡ b
      twice true = refl
      twice false = refl

      toggle : (a b : Bool) → (a && b) ≡ (b && a)
      toggle true true = refl
      toggle true false = refl
      toggle false true = refl
      toggle false false = refl

-- one of two tests passes somewhere where one of them does, or a third that says just that
either : (n : ℕ) (f g h : ℕ → Bool) (a : Bool) → ((i : ℕ) → i < n → h i ≡ ((a && f i) || g i)) → ((a && some_below n f) || some_below n g) ≡ some_below n h
either n f g h a same =
    same_if_false ((a && some_below n f) || some_below n g) (some_below n h)
    (λ failing. some_no n h (λ i below. same i below ∙ no_one a (some_below n f) (some_below n g) (f i) (g i) failing (λ e. some_none n f e i below) (λ e. some_none n g e i below)))
    (λ failing. none a (λ i below. sym (same i below) ∙ some_none n h failing i below)) where
      no_one : (a x y p q : Bool) → ((a && x) || y) ≡ false → (x ≡ false → p ≡ false) → (y ≡ false → q ≡ false) → ((a && p) || q) ≡ false
      no_one true true y p q e f g = absurd (cc)
      no_one true false true p q e f g = absurd (cc)
      no_one true false false p q e f g = let u = f refl in let v = g refl in cc
      no_one false x true p q e f g = absurd (cc)
      no_one false x false p q e f g = g refl

      parts : (p q : Bool) → (p || q) ≡ false → (p ≡ false) × (q ≡ false)
      parts true q e = absurd (cc)
      parts false q e = (refl, e)

      none : (a : Bool) → ((i : ℕ) → i < n → ((a && f i) || g i) ≡ false) → ((a && some_below n f) || some_below n g) ≡ false
      none true each = let u = some_no n f (λ i below. (parts (f i) (g i) (each i below)).0) in let v = some_no n g (λ i below. (parts (f i) (g i) (each i below)).1) in cc
      none false each = some_no n g each

-- in a split page a subpage has no frame where no entry maps it, or where it is zero-filled and the split gave those
pub some_gone : (t : PageState) (first count : ℕ) (given bare : Bool) → t.split ≡ true → t.whole ≡ 0 →
    given ≡ (t.freed_zero_frames && some_in_range t first count (zero_at t)) → bare ≡ some_in_range t first count (λ i. nat_eq (own_at t i) 0) →
    (given || bare) ≡ some_in_range t first count (λ i. not (holds t i))
some_gone t first count given bare split unmapped is_given is_bare =
    ap₂ (λ a b. a || b) is_given is_bare
    ∙ either (size t) (λ i. covers first count i && zero_at t i) (λ i. covers first count i && nat_eq (own_at t i) 0) (λ i. covers first count i && not (holds t i)) t.freed_zero_frames
    (λ i below. here i (size t) t.split t.freed_zero_frames (covers first count i) (zero_at t i) t.whole (own_at t i) below split unmapped) where
      here : (i n : ℕ) (s g b z : Bool) (w x : ℕ) → i < n → s ≡ true → w ≡ 0 →
          (b && not (nat_lt i n && (not s || (nat_lt 0 (w + x) && not (g && z))))) ≡ ((g && (b && z)) || (b && nat_eq x 0))
      here i n s true b true w x below e f = grind (arith, nat_tests)
      here i n s true b false w x below e f = grind (arith, nat_tests)
      here i n s false b z w x below e f = grind (arith, nat_tests)

-- a write of data takes its range out of the zero-filled subpages
pub written : (t : PageState) (first count : ℕ) (range new : List Bool) → t.order ≤ 9 → range ≡ set_of (covers first count) → new ≡ set_of (λ i. has t.zero i && not (has range i)) →
    RangeWritten first count t (record t { zero = new })
written t first count range new most is_range is_new = record {
  kept = record { order = refl; whole = refl; own = refl; pins = refl; split = refl; partly = refl; freed_zero_frames = refl };
  zero = λ i below. (let short : i < 512 = omega (arith, size_most t most) in
      ap (λ s. has s i) is_new ∙ get_or-set_of (λ j. has t.zero j && not (has range j)) i short
      ∙ ap (λ b. zero_at t i && not b) (ap (λ s. has s i) is_range ∙ get_or-set_of (covers first count) i short));
}

pub written_inside : (t : PageState) (range new : List Bool) → t.zero ≡ zero_set t → new ≡ set_of (λ i. has t.zero i && not (has range i)) → new ≡ zero_set (record t { zero = new })
unfolding size
written_inside t range new inside is_new =
    zero_inside-test (record t { zero = new }) (λ i. has t.zero i && not (has range i)) is_new
    (λ i short. go (nat_lt i (2 ^ t.order)) (zero_at t i) (not (has range i)) (ap (λ s. has s i) inside ∙ get_or-set_of (λ j. nat_lt j (2 ^ t.order) && zero_at t j) i short)) where
      go : (a z b : Bool) → z ≡ (a && z) → (z && b) ≡ (a && (z && b))
      go true z b e = refl
      go false z b e = ap (λ x. x && b) e

-- a write of zeros adds its range to them
pub zeroed : (t : PageState) (first count : ℕ) (range new : List Bool) → t.order ≤ 9 → range ≡ set_of (covers first count) → new ≡ set_of (λ i. has t.zero i || has range i) →
    RangeZeroed first count t (record t { zero = new })
zeroed t first count range new most is_range is_new = record {
  kept = record { order = refl; whole = refl; own = refl; pins = refl; split = refl; partly = refl; freed_zero_frames = refl };
  zero = λ i below. (let short : i < 512 = omega (arith, size_most t most) in
      ap (λ s. has s i) is_new ∙ get_or-set_of (λ j. has t.zero j || has range j) i short
      ∙ ap (λ b. zero_at t i || b) (ap (λ s. has s i) is_range ∙ get_or-set_of (covers first count) i short));
}

pub zeroed_inside : (t : PageState) (first count : ℕ) (range new : List Bool) → t.zero ≡ zero_set t → first + count ≤ size t → range ≡ set_of (covers first count) →
    new ≡ set_of (λ i. has t.zero i || has range i) → new ≡ zero_set (record t { zero = new })
unfolding size
zeroed_inside t first count range new inside fits is_range is_new =
    zero_inside-test (record t { zero = new }) (λ i. has t.zero i || has range i) is_new
    (λ i short. go i (2 ^ t.order) first count (zero_at t i) (has range i) fits (ap (λ s. has s i) inside ∙ get_or-set_of (λ j. nat_lt j (2 ^ t.order) && zero_at t j) i short)
    (ap (λ s. has s i) is_range ∙ get_or-set_of (covers first count) i short)) where
      go : (i n first count : ℕ) (z b : Bool) → first + count ≤ n → z ≡ (nat_lt i n && z) → b ≡ covers first count i → (z || b) ≡ (nat_lt i n && (z || b))
      go i n first count true b fits e f = e
      go i n first count false true fits e f = (let at = covers_true first count i (sym f) in grind (arith, nat_tests))
      go i n first count false false fits e f = grind (arith, nat_tests)
