-- Vectors whose memory is taken as their elements are set.
use Rattle.std.proofs.Common.{◌≡◌, ◌<◌, ◌≤◌, ◌+◌, ◌-◌, ◌++◌, ℕ, List, length, replicate, set, ap, sym, ◌∙◌, arith, length-set}
use Rattle.std.proofs.lemmas.List.{set-append_left, append_assoc, replicate-append-replicate, length-append, length-replicate}
use Rattle.thp_links.specs.Reserved.{with_blanks}

-- an element set among those that have memory
pub blanks_set : {X : Type 0} (xs : List X) (n i : ℕ) (blank a : X) → i < length xs → with_blanks (set xs i a) n blank ≡ set (with_blanks xs n blank) i a
blanks_set xs n i blank a inside =
    ap (λ k. set xs i a ++ replicate (n - k) blank) (length-set xs i a) ∙ sym (set-append_left xs (replicate (n - length xs) blank) i a inside)

-- memory taken for blanks
pub blanks_reached : {X : Type 0} (xs : List X) (n p : ℕ) (blank : X) → length xs ≤ p → p < n → with_blanks (xs ++ replicate (p + 1 - length xs) blank) n blank ≡ with_blanks xs n blank
blanks_reached xs n p blank outside reserved =
    let more = p + 1 - length xs in
    let long : length (xs ++ replicate more blank) ≡ length xs + more = length-append xs (replicate more blank) ∙ ap (λ k. length xs + k) (length-replicate more blank) in
    append_assoc xs (replicate more blank) (replicate (n - length (xs ++ replicate more blank)) blank)
    ∙ ap (λ ys. xs ++ ys) (replicate-append-replicate more (n - length (xs ++ replicate more blank)) blank ∙ ap (λ k. replicate k blank) (omega (arith, long)))

-- the place that memory was taken for
pub reached_inside : {X : Type 0} (xs ys : List X) (p : ℕ) (blank : X) → ys ≡ xs ++ replicate (p + 1 - length xs) blank → length xs ≤ p → p < length ys
reached_inside xs ys p blank is outside =
    omega (arith, ap length is, length-append xs (replicate (p + 1 - length xs) blank), length-replicate (p + 1 - length xs) blank)

-- an index of the vector is below its length
pub inside_count : {X : Type 0} (xs : List X) (n : ℕ) (blank : X) (i : ℕ) → i < length (with_blanks xs n blank) → length xs ≤ n → i < n
inside_count xs n blank i inside few = omega (arith, inside, few, length-append xs (replicate (n - length xs) blank), length-replicate (n - length xs) blank)
