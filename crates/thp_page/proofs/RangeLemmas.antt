-- The subpages that a range covers.
use Rattle.std.proofs.Common.{◌≡◌, ℕ, ◌+◌, ◌<◌, ◌≤◌, true, false, arith}
use Rattle.std.proofs.lemmas.Bool.Decides.{nat_tests}
use Rattle.thp_history.specs.Prelude.{covers}

pub covers_inside : (first count i : ℕ) → first ≤ i → i < first + count → covers first count i ≡ true
covers_inside first count i least most = grind (arith, nat_tests)

pub covers_after : (first count i : ℕ) → first + count ≤ i → covers first count i ≡ false
covers_after first count i above = grind (arith, nat_tests)

-- a subpage that is covered stands in the range
pub covers_true : (first count i : ℕ) → covers first count i ≡ true → (first ≤ i) × (i < first + count)
covers_true first count i e = (grind (arith, nat_tests), grind (arith, nat_tests))
