-- Which subpages are chosen.
use Rattle.std.proofs.Common.{◌≡◌, ◌≢◌, ne_eqb, ℕ, suc, zero, ◌+◌, ◌-◌, ◌*◌, ◌^◌, ◌/◌, ◌%◌, ◌<◌, ◌≤◌, subst, Bool, true, false, not, cond, ◌&&◌, List, nat_eq, refl, ap, sym, ◌∙◌, arith, bit_and}
use Rattle.std.specs.Int.{bit_at}
use Rattle.std.proofs.lemmas.Bool.Decides.{nat_tests}
use Rattle.std.proofs.lemmas.Nat.{mod-pow-add, mod_below}
use Rattle.std.proofs.Math.Nat.{mod-eq_of_lt, div-eq_of_lt, mod-le}
use Rattle.std.proofs.lemmas.Nat.Bits.{bit_at-lt, shr_and_one}
use Rattle.thp_history.specs.Prelude.{has, some_below}
use Rattle.thp_history.proofs.Below.{some_none, some_no}
use Rattle.thp_page.specs.Prelude.{plane, count_in}
use Rattle.thp_page.proofs.Carries.{no_planes, one_more, counts_below}

-- where there is none, none is chosen
pub none_chosen : (chosen : ℕ → Bool) (r : Bool) (i : ℕ) → r ≡ not (some_below 512 chosen) → r ≡ true → i < 512 → chosen i ≡ false
none_chosen chosen r i reports holds below = some_none 512 chosen (flipped (some_below 512 chosen) (sym reports ∙ holds)) i below where
  flipped : (b : Bool) → not b ≡ true → b ≡ false
  flipped true e = sym e
  flipped false e = refl

-- before the first plane all counts are alike
pub alike_before : (planes : List (List Bool)) (n i : ℕ) (b : Bool) → b ≡ (b && nat_eq (count_in planes 0 i) (n % 2 ^ 0))
alike_before planes n i b = grind (arith, nat_eq, no_planes, nat_tests)

-- one bit more of a number
bits_of : (n k : ℕ) → n % 2 ^ (k + 1) ≡ n % 2 ^ k + cond (nat_eq (bit_at n k) 1) (2 ^ k) 0
bits_of n k = ap (λ m. n % 2 ^ m) (toggle k) ∙ mod-pow-add n 1 k ∙ digit (bit_at n k) (2 ^ k) (n % 2 ^ k) (bit_at-lt n k) where
  toggle : (k : ℕ) → k + 1 ≡ 1 + k
  toggle k = omega arith

  digit : (b p r : ℕ) → b < 2 → b * p + r ≡ r + cond (nat_eq b 1) p 0
  digit b p r h = grind (arith, nat_tests)

-- two numbers of one bit more are equal where the bits are, and the rest
pub same_bits : (a b p : ℕ) (x y : Bool) → a < p → b < p → nat_eq (a + cond x p 0) (b + cond y p 0) ≡ (nat_eq a b && cond y x (not x))
same_bits a b p x y h g = grind (arith, nat_tests)

-- one plane more compared
pub compared : (planes : List (List Bool)) (n k i : ℕ) (of left next : Bool) → left ≡ (of && nat_eq (count_in planes k i) (n % 2 ^ k)) →
    next ≡ (left && cond (nat_eq (bit_at n k) 1) (has (plane planes k) i) (not (has (plane planes k) i))) → next ≡ (of && nat_eq (count_in planes (k + 1) i) (n % 2 ^ (k + 1)))
compared planes n k i of left next before now = grind (arith, nat_eq, same_bits, counts_below, mod_below, one_more, bits_of)

-- the bits below k agree
abbrev pub alike : List (List Bool) → ℕ → ℕ → ℕ → Bool
alike planes n i k = nat_eq (count_in planes k i) (n % 2 ^ k)

-- where the bits agree, the lower ones do
alike_less : (planes : List (List Bool)) (n i k : ℕ) → alike planes n i (k + 1) ≡ true → alike planes n i k ≡ true
alike_less planes n i k holds =
    first (alike planes n i k) _ (compared planes n k i true (alike planes n i k) _ refl refl ∙ holds) where
      first : (a b : Bool) → (a && b) ≡ true → a ≡ true
      first true b e = refl
      first false b e = e

alike_from : (planes : List (List Bool)) (n i d k : ℕ) → alike planes n i (d + k) ≡ true → alike planes n i k ≡ true
alike_from planes n i zero k holds = subst (λ (m : ℕ). alike planes n i m ≡ true) (none k) holds where
  none : (k : ℕ) → 0 + k ≡ k
  none k = omega arith
alike_from planes n i (suc d) k holds = alike_from planes n i d k (alike_less planes n i (d + k) (subst (λ (m : ℕ). alike planes n i m ≡ true) (more d k) holds)) where
  more : (d k : ℕ) → suc d + k ≡ d + k + 1
  more d k = omega arith

-- a number that has no more bits than there are planes is compared when these are
pub all_compared : (planes : List (List Bool)) (n m i : ℕ) (of left : Bool) → n < 2 ^ m → left ≡ (of && alike planes n i m) → left ≡ (of && nat_eq (count_in planes m i) n)
all_compared planes n m i of left fits reports = reports ∙ ap (λ r. of && nat_eq (count_in planes m i) r) (mod-eq_of_lt fits)

-- where none is left early, none is in the end
pub none_left : (planes : List (List Bool)) (n k m i : ℕ) (of left : Bool) → k ≤ m → n < 2 ^ m → left ≡ (of && alike planes n i k) → left ≡ false →
    left ≡ (of && nat_eq (count_in planes m i) n)
none_left planes n k m i of left less fits reports none =
    all_compared planes n m i of left fits (go of (alike planes n i k) (alike planes n i m) (λ holds. alike_from planes n i (m - k) k (subst (λ (j : ℕ). alike planes n i j ≡ true) (apart k m less) holds)) reports none) where
      apart : (k m : ℕ) → k ≤ m → m ≡ m - k + k
      apart k m h = omega arith

      go : (of low high : Bool) → (high ≡ true → low ≡ true) → left ≡ (of && low) → left ≡ false → left ≡ (of && high)
      go true low true down e f = absurd (let up : low ≡ true = down refl in cc)
      go true low false down e f = f
      go false low high down e f = f

-- a bit of n is what the code reads
pub bit_read : (n k : ℕ) → nat_eq (bit_and (n / 2 ^ k) 1) 1 ≡ nat_eq (bit_at n k) 1
bit_read n k = ap (λ m. nat_eq m 1) (shr_and_one n k)

-- what is left where n has the bit, and where it hasn't
pub with_bit : (left bit read here : Bool) → read ≡ here → bit ≡ true → (left && read) ≡ (left && cond bit here (not here))
with_bit left bit read here e f = ap (λ b. left && b) (e ∙ sym (ap (λ b. cond b here (not here)) f))

pub without_bit : (left bit read here : Bool) → read ≡ here → bit ≡ false → (left && not read) ≡ (left && cond bit here (not here))
without_bit left bit read here e f = ap (λ b. left && b) (ap not e ∙ sym (ap (λ b. cond b here (not here)) f))

-- no count is as large as a number that has more bits than there are planes
pub none_as_large : (planes : List (List Bool)) (n m : ℕ) (chosen : ℕ → Bool) → (n / 2 ^ m ≢ 0) → some_below 512 (λ i. chosen i && nat_eq (count_in planes m i) n) ≡ false
none_as_large planes n m chosen large = grind (arith, some_no, nat_eq, counts_below, ne_eqb, div-eq_of_lt)

-- one bit more of the number that is added
pub added_bit : (chosen : Bool) (new old before n k : ℕ) → before ≡ old + cond chosen (n % 2 ^ k) 0 → new ≡ before + cond chosen (cond (nat_eq (bit_at n k) 1) (2 ^ k) 0) 0 →
    new ≡ old + cond chosen (n % 2 ^ (k + 1)) 0
added_bit x new old before n k e f = grind (arith, bits_of)

-- a bit that isn't set adds nothing
pub nothing : (m : ℕ) (chosen : Bool) → m ≡ m + cond chosen 0 0
nothing m x = grind arith

-- a bit of a number that fits has room
pub room_for_bit : (before old n k : ℕ) (chosen : Bool) → chosen ≡ true → nat_eq (bit_at n k) 1 ≡ true → before ≡ old + cond chosen (n % 2 ^ k) 0 → old + n ≤ 65535 → before + 2 ^ k ≤ 65535
room_for_bit before old n k chosen holds bit e small =
    omega (arith, e ∙ ap (λ b. old + cond b (n % 2 ^ k) 0) holds, bits_of n k ∙ ap (λ b. n % 2 ^ k + cond b (2 ^ k) 0) bit, mod-le n (2 ^ (k + 1)))
