-- Steps whose answer is a test.
use Rattle.std.proofs.Common.{◌≡◌, ℕ, Bool, true, false, not, nat_eq, eq-eqb, eqb-true, refl, Result, Ok, Err, MatchResult}

pub no_both : (z : Bool) → z ≡ false → z ≡ true → ⊥
no_both z e f = cc

-- a consequence of what is so where the answer is a value
pub answered_on : {E : Type 0} (r : Result Unit E) (A C : Type 0) (Q : E → Type 0) → (A → C) → MatchResult r (λ u. A) Q → MatchResult r (λ u. C) Q
answered_on (Ok u) A C Q f h = f h
answered_on (Err e) A C Q f h = h

-- what a test of two numbers says
pub unequal : (a b : ℕ) → not (nat_eq a b) ≡ true → a ≡ b → ⊥
unequal a b e f = let same = eq-eqb a b f in cc

pub agrees : (x : Bool) → not x ≡ false → x ≡ true
agrees true e = refl
agrees false e = absurd (cc)

pub differs : (x : Bool) → not x ≡ true → x ≡ true → ⊥
differs x e f = let no : not x ≡ false = rw f refl in cc

pub equal : (a b : ℕ) → not (nat_eq a b) ≡ false → a ≡ b
equal a b e = eqb-true a b (agrees (nat_eq a b) e)
