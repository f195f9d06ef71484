-- Legal histories, one event at a time.
use Rattle.std.proofs.Common.{◌≡◌, ℕ, suc, zero, ◌<◌, [], ◌∷◌, ◌++◌, length, take, drop, get_or, sym, ◌∙◌, subst, arith, inl, inr}
use Rattle.std.proofs.lemmas.List.{take-append-le, take_all, take_at, take-append-drop}
use Rattle.thp_history.specs.Prelude.{Event, Shape, History, IsLegal, Fits, IsFirstMisfit}
use Rattle.thp_history.proofs.ListPlaces.{get_push, get-append_left, get_middle, get_below, get_at, take_one}

-- the empty history is legal
pub legal_none : (shape : Shape) → IsLegal shape []
legal_none shape = record { each = λ k e h. absurd (cc) }

-- a legal history and an event that fits it are a legal history
pub legal_push : (shape : Shape) (h : History) (e : Event) → IsLegal shape h → Fits shape h e → IsLegal shape (h ++ e ∷ [])
legal_push shape h e l f = grind (arith, get_push, take-append-le, take_at)

-- an event of a legal history fits what is before it
pub legal_at : (shape : Shape) (h : History) (e : Event) (es : History) → IsLegal shape (h ++ e ∷ es) → Fits shape h e
legal_at shape h e es l =
    let P : History → Type 0 = λ k. Fits shape k e in
    subst P (take-append-le (length h) h (e ∷ es) (omega arith) ∙ take_all (length h) h (omega arith))
    (l.each (length h) e (get_middle h e es))

-- the front of a legal history is legal
pub legal_front : (shape : Shape) (h es : History) → IsLegal shape (h ++ es) → IsLegal shape h
legal_front shape h es l = record {
  each = λ k x g.
      let below : k < length h = get_below h k x g in
      rw (take-append-le k h es (omega arith)) at (l.each k x (get-append_left h es k x g));
}

-- each front of a legal history is legal
pub legal_take : (shape : Shape) (h : History) (k : ℕ) → IsLegal shape h → IsLegal shape (take k h)
legal_take shape h k l =
    let P : History → Type 0 = λ x. IsLegal shape x in
    legal_front shape (take k h) (drop k h) (subst P (sym (take-append-drop k h)) l)

-- the last event of a legal history fits what is before it
pub legal_last : (shape : Shape) (h : History) (e : Event) → IsLegal shape (h ++ e ∷ []) → Fits shape h e
legal_last shape h e l = legal_at shape h e [] l

-- the same of each front
front : (shape : Shape) (P : History → Type 0) → P [] → ((h : History) (e : Event) → P h → Fits shape h e → P (h ++ e ∷ [])) →
    (h : History) → IsLegal shape h → (k : ℕ) → P (take k h)
front shape P none more h l zero = none
front shape P none more h l (suc k) =
    elim (take_one h k) [
      | inl w ↦ subst P (sym w.2) (more (take k h) w.0 (front shape P none more h l k) (l.each k w.0 w.1))
      | inr w ↦ subst P (sym w) (front shape P none more h l k)
    ]

-- what holds of the empty history, and of each that is longer by an event that fits, holds of every legal history
pub legal_all : (shape : Shape) (P : History → Type 0) → P [] → ((h : History) (e : Event) → P h → Fits shape h e → P (h ++ e ∷ [])) →
    (h : History) → IsLegal shape h → P h
legal_all shape P none more h l = subst P (take_all (length h) h (omega arith)) (front shape P none more h l (length h))

-- an event that doesn't fit a legal history is the first misfit of each history that goes on so
pub first_misfit : (shape : Shape) (h : History) (k : ℕ) (e : Event) → k < length h → e ≡ get_or h k e → IsLegal shape (take k h) →
    (Fits shape (take k h) e → ⊥) → IsFirstMisfit shape h k
first_misfit shape h k e below f l m = record { legal_before = l; misfit = (e, get_at h k e below f, m) }
