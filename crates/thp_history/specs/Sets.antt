-- Sets of subpages, as lists of 512 truth values: subpage i is in the set if the i-th value is true.
use Rattle.std.specs.Prelude.{ℕ, zero, suc, Bool, false, not, ◌&&◌, ◌||◌, ◌+◌, nat_le, nat_lt, cond, List, map, slice_index_or}
use Rattle.std.specs.List.{range_with_len, count_by, list_any, list_all}
use Rattle.std.specs.Cmp.{IsEquivalence, IsPartialEquivalence, bool_eq_equiv, partial_equiv_from_equiv}
use Rattle.std.specs.Cmp.Lexicographic.{pointwise}
use Rattle.thp_history.specs.Limits.{max_subpages}
use Rattle.std.proofs.Math.Bool.{beq}
use Rattle.std.proofs.lemmas.Cmp.{lists_equiv}

-- the set of the numbers below 512 that pass a test
unfoldable pub set_of : (ℕ → Bool) → List Bool
set_of test = map test (range_with_len 0 max_subpages)

-- whether i is in the set
abbrev pub has : List Bool → ℕ → Bool
has set i = slice_index_or set i false

-- the number of elements of the set
abbrev pub set_size : List Bool → ℕ
set_size set = count_by (λ b. b) set

-- the range of `count` subpages from `first` on covers i
abbrev pub covers : ℕ → ℕ → ℕ → Bool
covers first count i = nat_le first i && nat_lt i (first + count)

-- exactly one of two truth values holds
abbrev pub one_alone : Bool → Bool → Bool
one_alone a b = (a && not b) || (b && not a)

-- some number below n passes the test
unfoldable pub some_below : ℕ → (ℕ → Bool) → Bool
some_below n test = list_any test (range_with_len 0 n)

-- each number below n passes the test
unfoldable pub each_below : ℕ → (ℕ → Bool) → Bool
each_below n test = list_all test (range_with_len 0 n)

-- the sum of f below n
unfoldable pub sum_below : ℕ → (ℕ → ℕ) → ℕ
sum_below zero f = 0
sum_below (suc n) f = sum_below n f + f n

-- the number of numbers below n that pass a test
abbrev pub count_below : ℕ → (ℕ → Bool) → ℕ
count_below n test = sum_below n (λ i. cond (test i) 1 0)

-- two sets have the same elements, compared value by value
abbrev pub same_set : List Bool → List Bool → Bool
same_set s t = pointwise beq s t

pub same_set-equiv : IsEquivalence same_set
same_set-equiv = lists_equiv bool_eq_equiv

pub same_set-partial_equiv : IsPartialEquivalence same_set
same_set-partial_equiv = partial_equiv_from_equiv same_set-equiv
