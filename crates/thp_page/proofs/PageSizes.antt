-- How many subpages a page has, and tests of them as tests of a range.
use Rattle.std.proofs.Common.{◌≡◌, ℕ, ◌+◌, ◌*◌, ◌^◌, ◌%◌, ◌≤◌, Bool, true, ◌&&◌, ap, arith}
use Rattle.std.proofs.Math.Pow.{pow_mono}
use Rattle.std.proofs.lemmas.Nat.{one_shl}
use Rattle.thp_history.specs.Prelude.{covers, some_below, PageState, size, some_in_range}
use Rattle.thp_history.proofs.Below.{some_below-ext}
use Rattle.thp_page.proofs.SomeBelow.{some_below-same}
use Rattle.thp_page.proofs.RangeLemmas.{covers_inside, covers_true}

pub size_most : (t : PageState) → t.order ≤ 9 → size t ≤ 512
unfolding size
size_most t most = pow_mono {i = t.order} {j = 9} most

pub size_least : (t : PageState) → 2 ≤ t.order → 4 ≤ size t
unfolding size
size_least t least = pow_mono {i = 2} {j = t.order} least

-- pages of one order have as many subpages
pub same_size : (t u : PageState) → u.order ≡ t.order → size u ≡ size t
unfolding size
same_size t u e = ap (λ n. 2 ^ n) e

-- the shift by which the code makes it
pub shifted_is_size : (t : PageState) → t.order ≤ 9 → 1 * 2 ^ t.order % 18446744073709551616 ≡ size t
unfolding size
shifted_is_size t most = one_shl t.order 64 (omega arith)

both_true : (a b : Bool) → (a && b) ≡ true → (a ≡ true) × (b ≡ true)
both_true x b e = grind arith

and_true : (a b : Bool) → a ≡ true → b ≡ true → (a && b) ≡ true
and_true a b e f = cc

-- a test of a range of the page's subpages
pub range_test : (n first count : ℕ) (test : ℕ → Bool) → first + count ≤ n → n ≤ 512 →
    some_below n (λ i. covers first count i && test i) ≡ some_below 512 (λ i. covers first count i && test i)
range_test n first count test inside most = grind (arith, some_below-same, covers_true, both_true)

-- a test of all its subpages
pub whole_test : (n : ℕ) (test : ℕ → Bool) → n ≤ 512 → some_below n test ≡ some_below 512 (λ i. covers 0 n i && test i)
whole_test n test most = grind (arith, some_below-same, and_true, covers_inside, both_true, covers_true)

-- the range of all its subpages
pub whole_range : (t : PageState) (n : ℕ) (test : ℕ → Bool) → n ≡ size t → some_in_range t 0 n test ≡ some_below (size t) test
whole_range t n test long = grind (arith, some_below-ext, covers_inside)
