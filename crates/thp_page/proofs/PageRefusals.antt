-- What is known of a page that doesn't refuse a call.
use Rattle.std.proofs.Common.{◌≡◌, ℕ, ◌+◌, ◌<◌, ◌≤◌, Bool, true, false, ◌&&◌, ◌||◌, cond, nat_eq, nat_lt, Some, None, ap, ◌∙◌, arith}
use Rattle.std.proofs.lemmas.Bool.Decides.{nat_tests}
use Rattle.thp_history.specs.declared.refusal.Refusal.{Refusal}
use Rattle.thp_history.specs.Prelude.{covers, most, PageState, size, own_at, total_at, page_refusal, IsPage}
use Rattle.thp_history.specs.Refusals as call
use Rattle.thp_page.proofs.RangeLemmas.{covers_true}
use Rattle.thp_history.proofs.Below.{some_none}

-- none of the tests made in turn holds
neither : (a b : Bool) (r q : Refusal) → cond a (Some r) (cond b (Some q) None) ≡ None → (a ≡ false) × (b ≡ false)
neither x b r q e = grind arith

none_of_three : (a b c : Bool) (r q o : Refusal) → cond a (Some r) (cond b (Some q) (cond c (Some o) None)) ≡ None → (a ≡ false) × (b ≡ false) × (c ≡ false)
none_of_three x b c r q o e = grind arith

below_limit : (n : ℕ) → n ≤ most → nat_eq n most ≡ false → n < most
below_limit n fits e = grind (arith, nat_tests)

positive : (n : ℕ) → nat_eq n 0 ≡ false → 1 ≤ n
positive n e = grind (arith, nat_tests)

second : (a b : Bool) → a ≡ true → (a && b) ≡ false → b ≡ false
second x b e f = grind arith

good_range : (n first count : ℕ) → (nat_eq count 0 || nat_lt n (first + count)) ≡ false → first + count ≤ n
good_range n first count e = grind (arith, nat_tests)

covered_below : (n first count i : ℕ) → first + count ≤ n → covers first count i ≡ true → i < n
covered_below n first count i inside covered = omega (arith, (covers_true first count i covered).1)

-- a further mapping of the whole page fits
pub map_whole_allowed : (t : PageState) (p : ℕ) → IsPage t → page_refusal t (call.map_whole p) ≡ None → (t.split ≡ false) × ((i : ℕ) → i < size t → total_at t i < most)
unfolding page_refusal
map_whole_allowed t p page e =
    let facts = neither t.split _ _ _ e in
    (facts.0, λ i below. below_limit (total_at t i) (page.bounded i below) (some_none (size t) (λ i. nat_eq (total_at t i) most) facts.1 i below))

-- the page isn't split
pub map_whole_unsplit : (t : PageState) (p : ℕ) → page_refusal t (call.map_whole p) ≡ None → t.split ≡ false
unfolding page_refusal
map_whole_unsplit t p e = (neither t.split _ _ _ e).0

-- there is a mapping of the whole page to take away
pub unmap_whole_allowed : (t : PageState) (p : ℕ) → page_refusal t (call.unmap_whole p) ≡ None → (t.split ≡ false) × (1 ≤ t.whole)
unfolding page_refusal
unmap_whole_allowed t p e = let facts = neither t.split _ _ _ e in (facts.0, positive t.whole facts.1)

-- there is a mapping of the whole page to split
pub split_pmd_allowed : (t : PageState) (p : ℕ) → page_refusal t (call.split_pmd p) ≡ None → (t.split ≡ false) × (1 ≤ t.whole)
unfolding page_refusal
split_pmd_allowed t p e = let facts = neither t.split _ _ _ e in (facts.0, positive t.whole facts.1)

-- a further pin fits
pub pin_allowed : (t : PageState) (p : ℕ) → IsPage t → page_refusal t (call.pin p) ≡ None → (t.split ≡ false) × (t.pins < most)
unfolding page_refusal
pin_allowed t p page e = let facts = neither t.split _ _ _ e in (facts.0, below_limit t.pins page.few_pins facts.1)

-- there is a pin to take away
pub unpin_allowed : (t : PageState) (p : ℕ) → page_refusal t (call.unpin p) ≡ None → (t.split ≡ false) × (1 ≤ t.pins)
unfolding page_refusal
unpin_allowed t p e = let facts = neither t.split _ _ _ e in (facts.0, positive t.pins facts.1)

-- the range stands in the page, and a further mapping of each of its subpages fits
pub map_sub_allowed : (t : PageState) (p first count : ℕ) → IsPage t → page_refusal t (call.map_sub p first count) ≡ None →
    (first + count ≤ size t) × ((i : ℕ) → covers first count i ≡ true → total_at t i < most)
unfolding page_refusal
map_sub_allowed t p first count page e =
    let facts = none_of_three _ _ _ _ _ _ e in
    let inside = good_range (size t) first count facts.0 in (
      inside,
      λ i covered. let below = covered_below (size t) first count i inside covered in below_limit (total_at t i) (page.bounded i below)
          (second (covers first count i) (nat_eq (total_at t i) most) covered (some_none (size t) (λ i. covers first count i && nat_eq (total_at t i) most) facts.2 i below)),
    )

-- the range stands in the page, and each of its subpages has a mapping to take away
pub unmap_sub_allowed : (t : PageState) (p first count : ℕ) → page_refusal t (call.unmap_sub p first count) ≡ None →
    (first + count ≤ size t) × ((i : ℕ) → covers first count i ≡ true → 1 ≤ own_at t i)
unfolding page_refusal
unmap_sub_allowed t p first count e =
    let facts = neither _ _ _ _ e in
    let inside = good_range (size t) first count facts.0 in (
      inside,
      λ i covered. let below = covered_below (size t) first count i inside covered in positive (own_at t i)
          (second (covers first count i) (nat_eq (own_at t i) 0) covered (some_none (size t) (λ i. covers first count i && nat_eq (own_at t i) 0) facts.1 i below)),
    )

-- the range stands in the page, for a write of data and of zeros
pub write_allowed : (t : PageState) (p first count : ℕ) → page_refusal t (call.write p first count) ≡ None → first + count ≤ size t
unfolding page_refusal
write_allowed t p first count e = grind (arith, good_range, none_of_three, nat_eq)

-- what isn't refused of a page isn't refused of its fields' state
pub allowed_as : (t u : PageState) (k : call.Call) → t ≡ u → page_refusal u k ≡ None → page_refusal t k ≡ None
allowed_as t u k same e = ap (λ v. page_refusal v k) same ∙ e
