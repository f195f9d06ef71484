-- Truth values: cases, and what && and || say of their parts.
use Rattle.std.proofs.Common.{◌≡◌, ℕ, Bool, true, false, cond, not, ◌&&◌, ◌||◌, refl, Option, Some, None, ap}
use Rattle.thp_history.specs.Prelude.{Refusal}

-- by cases on a truth value
pub by_bool : (b : Bool) (P : Type 0) → (b ≡ true → P) → (b ≡ false → P) → P
by_bool true P f g = f refl
by_bool false P f g = g refl

-- an alternative that doesn't hold
pub or_none : (a b : Bool) → (a || b) ≡ false → (a ≡ false) × (b ≡ false)
or_none true b e = absurd (cc)
or_none false b e = (refl, e)

-- or nothing
pub or-false : (b : Bool) → (b || false) ≡ b
or-false true = refl
or-false false = refl

-- or certainly
pub or-true : (b : Bool) → (b || true) ≡ true
or-true true = refl
or-true false = refl

-- the first alternative holds
pub or_first : (a b : Bool) → a ≡ true → (a || b) ≡ true
or_first a b e = ap (λ x. x || b) e

-- the second alternative holds
pub or_second : (a b : Bool) → b ≡ true → (a || b) ≡ true
or_second true b e = refl
or_second false b e = e

-- and never
pub and-false : (b : Bool) → (b && false) ≡ false
and-false true = refl
and-false false = refl

-- and certainly
pub and-true : (b : Bool) → (b && true) ≡ b
and-true true = refl
and-true false = refl

-- a first part that doesn't hold
pub and_no : (a b : Bool) → a ≡ false → (a && b) ≡ false
and_no true b e = absurd (cc)
and_no false b e = refl

-- both parts of a conjunction
pub and_both : (a b : Bool) → (a && b) ≡ true → (a ≡ true) × (b ≡ true)
and_both true b e = (refl, e)
and_both false b e = absurd (cc)

-- two parts that hold
pub and_yes : (a b : Bool) → a ≡ true → b ≡ true → (a && b) ≡ true
and_yes true b e f = f
and_yes false b e f = absurd (cc)

-- what isn't false is true
pub not_false : (b : Bool) → not b ≡ false → b ≡ true
not_false true f = refl
not_false false f = absurd (cc)

-- what isn't true is false
pub not_true : (b : Bool) → not b ≡ true → b ≡ false
not_true true e = absurd (cc)
not_true false e = refl

-- a truth counts one
pub one_if : (b : Bool) → b ≡ true → cond {A = ℕ} b 1 0 ≡ 1
one_if true e = refl
one_if false e = absurd (cc)

-- a falsehood counts none
pub none_if : (b : Bool) → b ≡ false → cond {A = ℕ} b 1 0 ≡ 0
none_if true e = absurd (cc)
none_if false e = refl

-- none of a list of refusals: the first one doesn't hold, and none of the rest
pub none_first : (b : Bool) (r : Refusal) (rest : Option Refusal) → cond b (Some r) rest ≡ None → (b ≡ false) × (rest ≡ None)
none_first true r rest e = absurd (cc)
none_first false r rest e = (refl, e)
