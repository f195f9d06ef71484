-- The elements of a list by their places.
use Rattle.std.proofs.Common.{◌≡◌, ℕ, suc, zero, ◌+◌, ◌<◌, List, [], ◌∷◌, ◌++◌, Some, length, take, get_or, refl, ap, sym, ◌∙◌, arith, inl, inr, ◌⊎◌, slice_get}
use Rattle.std.proofs.lemmas.List.{take_more}

-- the element at k of a list with one more at its end
pub get_push : {X : Type 0} (xs : List X) (y : X) (k : ℕ) (e : X) → slice_get (xs ++ y ∷ []) k ≡ Some e →
    ((k < length xs) × (slice_get xs k ≡ Some e)) ⊎ ((k ≡ length xs) × (e ≡ y))
get_push [] y zero e h = inr (refl, cc)
get_push [] y (suc k) e h = absurd (cc)
get_push (x ∷ xs) y zero e h = inl (omega arith, h)
get_push (x ∷ xs) y (suc k) e h =
    elim (get_push xs y k e h) [ inl w ↦ inl (omega (arith, w.0), w.1) | inr w ↦ inr (omega (arith, w.0), w.1) ]

-- an element of a list is one of every longer list
pub get-append_left : {X : Type 0} (xs ys : List X) (k : ℕ) (e : X) → slice_get xs k ≡ Some e → slice_get (xs ++ ys) k ≡ Some e
get-append_left [] ys k e h = absurd (cc)
get-append_left (x ∷ xs) ys zero e h = h
get-append_left (x ∷ xs) ys (suc k) e h = get-append_left xs ys k e h

-- the element behind a front
pub get_middle : {X : Type 0} (xs : List X) (y : X) (ys : List X) → slice_get (xs ++ y ∷ ys) (length xs) ≡ Some y
get_middle [] y ys = refl
get_middle (x ∷ xs) y ys = get_middle xs y ys

-- an element's place is below the length
pub get_below : {X : Type 0} (xs : List X) (k : ℕ) (e : X) → slice_get xs k ≡ Some e → k < length xs
get_below [] k e h = absurd (cc)
get_below (x ∷ xs) zero e h = omega arith
get_below (x ∷ xs) (suc k) e h = omega (arith, get_below xs k e h)

-- what a loop reads at k is the element at k
pub get_at : {X : Type 0} (xs : List X) (k : ℕ) (e : X) → k < length xs → e ≡ get_or xs k e → slice_get xs k ≡ Some e
get_at [] k e h f = absurd (omega arith)
get_at (x ∷ xs) zero e h f = ap (λ y. Some y) (sym f)
get_at (x ∷ xs) (suc k) e h f = get_at xs k e (omega arith) f

-- a front and the element that a loop reads next
pub step_of : {X : Type 0} (xs : List X) (k : ℕ) (e : X) → k < length xs → e ≡ get_or xs k e → take (k + 1) xs ≡ take k xs ++ e ∷ []
step_of xs k e below f = take_more xs k e below ∙ ap (λ x. take k xs ++ x ∷ []) (sym f)

-- one more element of a list, or none
pub take_one : {X : Type 0} (h : List X) (k : ℕ) →
    ((e : X) × (slice_get h k ≡ Some e) × (take (suc k) h ≡ take k h ++ e ∷ [])) ⊎ (take (suc k) h ≡ take k h)
take_one [] zero = inr refl
take_one [] (suc k) = inr refl
take_one (x ∷ xs) zero = inl (x, refl, refl)
take_one (x ∷ xs) (suc k) =
    elim (take_one xs k) [ inl w ↦ inl (w.0, w.1, ap (λ t. x ∷ t) w.2) | inr w ↦ inr (ap (λ t. x ∷ t) w) ]

-- a list and nothing
pub append_none : {X : Type 0} (xs : List X) → xs ++ [] ≡ xs
append_none [] = refl
append_none (x ∷ xs) = ap (λ ys. x ∷ ys) (append_none xs)
