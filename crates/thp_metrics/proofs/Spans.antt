-- What a column shows of the prefixes of two lists, by what it shows of each.
use Rattle.std.proofs.Common.{◌≡◌, ℕ, ◌<◌, min, max, List, [], ◌∷◌, ◌++◌, length, map, refl, ap, subst, sym, ◌^◌, ◌*◌, length-append, ◌∙◌, arith, bit_or}
use Rattle.std.proofs.lemmas.Nat.Bits.{bit_at_or, same_from_bits}
use Rattle.std.proofs.lemmas.List.{map-append, length-map}
use Rattle.thp_metrics.specs.Prelude.{Numbers, least, greatest, span_of, joined, all_callers, last_stages, column_of, sums_of, HasLowSums, added, both, AreWithin}
use Rattle.std.proofs.lemmas.List.Sums.{sum_by-append}

least_append : (x : ℕ) (xs : List ℕ) (y : ℕ) (ys : List ℕ) → least ((x ∷ xs) ++ (y ∷ ys)) ≡ min (least (x ∷ xs)) (least (y ∷ ys))
least_append x [] y ys = refl
least_append x (z ∷ zs) y ys = omega (arith, least_append z zs y ys)

greatest_append : (xs ys : List ℕ) → greatest (xs ++ ys) ≡ max (greatest xs) (greatest ys)
greatest_append [] ys = omega arith
greatest_append (x ∷ xs) ys = omega (arith, greatest_append xs ys)

span_append : (xs ys : List ℕ) → 0 < length xs → 0 < length ys → span_of (xs ++ ys) ≡ joined (span_of xs) (span_of ys)
span_append [] ys h k = absurd (omega (arith, h))
span_append (x ∷ xs) [] h k = absurd (omega (arith, k))
span_append (x ∷ xs) (y ∷ ys) h k = rw (least_append x xs y ys, greatest_append (x ∷ xs) (y ∷ ys)) refl

span_of_both : (f : Numbers → ℕ) (xs ys : List Numbers) → 0 < length xs → 0 < length ys → span_of (map f (xs ++ ys)) ≡ joined (span_of (map f xs)) (span_of (map f ys))
span_of_both f xs ys h k = ap span_of (map-append f xs ys) ∙ span_append (map f xs) (map f ys) (rw (length-map xs f) h) (rw (length-map ys f) k)

sums_append : (xs ys : List Numbers) → sums_of (xs ++ ys) ≡ added (sums_of xs) (sums_of ys)
sums_append xs ys = grind (arith, sum_by-append)

-- sums of both are low where those of each are
pub low_append : (xs ys : List Numbers) → HasLowSums xs → HasLowSums ys → HasLowSums (xs ++ ys)
low_append xs ys a b =
    subst (AreWithin (2 ^ 64 * length (xs ++ ys))) (sym (sums_append xs ys)) (λ x. grind (arith, a, b, length-append xs ys))

-- the last of both is the last of the latter
last_of_both : (xs ys : List Numbers) → 0 < length ys → last_stages (xs ++ ys) ≡ last_stages ys
last_of_both [] ys some = refl
last_of_both (x ∷ []) [] some = absurd (omega (arith, some))
last_of_both (x ∷ []) (y ∷ ys) some = refl
last_of_both (x ∷ z ∷ xs) ys some = last_of_both (z ∷ xs) ys some

-- bits of three numbers
or_assoc : (a b c : ℕ) → bit_or (bit_or a b) c ≡ bit_or a (bit_or b c)
or_assoc a b c = same_from_bits (bit_or (bit_or a b) c) (bit_or a (bit_or b c))
    (λ i. omega (arith, bit_at_or (bit_or a b) c i, bit_at_or a b i, bit_at_or a (bit_or b c) i, bit_at_or b c i))

callers_append : (xs ys : List Numbers) → 0 < length xs → 0 < length ys → all_callers (xs ++ ys) ≡ bit_or (all_callers xs) (all_callers ys)
callers_append [] ys h k = absurd (omega (arith, h))
callers_append (x ∷ xs) [] h k = absurd (omega (arith, k))
callers_append (x ∷ []) (y ∷ ys) h k = refl
callers_append (x ∷ z ∷ xs) (y ∷ ys) h k =
    ap (bit_or x.callers) (callers_append (z ∷ xs) (y ∷ ys) (omega arith) k) ∙ sym (or_assoc x.callers (all_callers (z ∷ xs)) (all_callers (y ∷ ys)))

-- a column of the prefixes of both is the two columns joined
pub column_append : (xs ys : List Numbers) → 0 < length xs → 0 < length ys → column_of (xs ++ ys) ≡ both (column_of xs) (column_of ys)
column_append xs ys h k = grind (arith, span_of_both, callers_append, sums_append, last_of_both)
