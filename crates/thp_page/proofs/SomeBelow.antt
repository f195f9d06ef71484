-- Whether some number below a bound passes a test: two tests at once.
use Rattle.std.proofs.Common.{◌≡◌, ℕ, ◌<◌, Bool, true, false, refl, sym, ◌∙◌}
use Rattle.thp_history.specs.Prelude.{some_below}
use Rattle.thp_history.proofs.Below.{some_no, some_none}

-- two truths are one where each is false if the other is
pub same_if_false : (a b : Bool) → (a ≡ false → b ≡ false) → (b ≡ false → a ≡ false) → a ≡ b
same_if_false true true f g = refl
same_if_false true false f g = g refl
same_if_false false b f g = sym (f refl)

-- a truth is false where it can't be true
pub false_if : (b : Bool) → (b ≡ true → true ≡ false) → b ≡ false
false_if true never = never refl
false_if false never = refl

-- two tests that pass at the same numbers
pub some_below-same : (m n : ℕ) (f g : ℕ → Bool) → ((i : ℕ) → i < m → f i ≡ true → (i < n) × (g i ≡ true)) → ((i : ℕ) → i < n → g i ≡ true → (i < m) × (f i ≡ true)) →
    some_below m f ≡ some_below n g
some_below-same m n f g to from =
    same_if_false (some_below m f) (some_below n g)
    (λ failing. some_no n g (λ i below. false_if (g i) (λ e. let at = from i below e in sym at.1 ∙ some_none m f failing i at.0)))
    (λ failing. some_no m f (λ i below. false_if (f i) (λ e. let at = to i below e in sym at.1 ∙ some_none n g failing i at.0)))
