-- How large the numbers that a history gives can be, and how a caller's flight grows and shrinks.
use Rattle.std.proofs.Common.{◌≡◌, ℕ, ◌+◌, ◌<◌, ◌≤◌, Bool, true, false, cond, not, List, [], ◌∷◌, ◌++◌, length, Some, None, refl, ap, sym, ◌∙◌, arith, nat_eq, eqb-true, eq-eqb, filter}
use Rattle.std.proofs.lemmas.List.{length_push}
use Rattle.thp_history.specs.declared.events.Outcome.{Outcome}
use Rattle.thp_history.specs.declared.events.Outcome.TheVariants.{Freed, Queued, Stays}
use Rattle.thp_history.specs.declared.events.What.{What}
use Rattle.thp_history.specs.declared.events.What.TheVariants.{Taken}
use Rattle.thp_history.specs.declared.shape.Shape.{Shape}
use Rattle.thp_history.specs.Prelude.{History, by, flight_after, flight_by, IsLegal, FitsBy, flights, flight, without, has_page}
use Rattle.thp_history.proofs.Bools.{one_if, none_if}
use Rattle.thp_history.proofs.Flights.{flight_push}
use Rattle.thp_history.proofs.OnePlace.{times_flight, has_times, once_flies}
use Rattle.thp_history.proofs.Standing.{times, flying, pages, times-cons, flying-cons, first_has, legal_sound}
use Rattle.thp_live_pages.specs.Prelude.{flier}
use Rattle.thp_node.specs.Prelude.{leaves_of, left_by, joins_of, one_for}

-- the pages that c has among those in flight
abbrev of : ℕ → List (ℕ × ℕ) → List ℕ
of c fs = pages (filter (λ (f : ℕ × ℕ). nat_eq f.0 c) fs)

-- the pages other than p, and the times that p is among them
length-without : (p : ℕ) (ps : List ℕ) → length (without p ps) + times p ps ≡ length ps
unfolding times
length-without p [] = refl
length-without p (q ∷ qs) = rw (times-cons p q qs) (go (nat_eq q p) (length-without p qs)) where
  go : (b : Bool) → length (without p qs) + times p qs ≡ length qs →
      length (cond (not b) (q ∷ without p qs) (without p qs)) + (cond b 1 0 + times p qs) ≡ length (q ∷ qs)
  go true e = omega (arith, e)
  go false e = omega (arith, e)

-- a page that is in flight once is in the flight of its flier
times-flier : (p d : ℕ) (fs : List (ℕ × ℕ)) → flying p fs ≤ 1 → times p (of d fs) ≡ one_for (flier p fs) d
unfolding times
times-flier p d [] few = refl
times-flier p d (f ∷ fs) few =
    go (times-flier p d fs) (nat_eq f.0 d) (nat_eq f.1 p) refl refl (omega (arith, few, flying-cons p f.0 f.1 fs)) where
      go : (flying p fs ≤ 1 → times p (of d fs) ≡ one_for (flier p fs) d) → (a b : Bool) → nat_eq f.0 d ≡ a → nat_eq f.1 p ≡ b → cond b 1 0 + flying p fs ≤ 1 →
          times p (pages (cond a (f ∷ filter (λ (f : ℕ × ℕ). nat_eq f.0 d) fs) (filter (λ (f : ℕ × ℕ). nat_eq f.0 d) fs)))
          ≡ one_for (cond b (Some f.0) (flier p fs)) d
      go more true true g e few = times-cons p f.1 (of d fs) ∙ omega (arith, times_flight p d fs, one_if (nat_eq f.1 p) e, one_if (nat_eq f.0 d) g)
      go more true false g e few =
          times-cons p f.1 (of d fs) ∙ ap (λ b. cond b 1 0 + times p (of d fs)) e ∙ omega (arith, more (omega (arith, few)))
      go more false true g e few = omega (arith, times_flight p d fs, none_if (nat_eq f.0 d) g)
      go more false false g e few = more (omega (arith, few))

-- a page in the flight of c is there once
one_flying : (shape : Shape) (h : History) (c p : ℕ) → IsLegal shape h → has_page p (flight h c) ≡ true → times p (flight h c) ≡ 1
one_flying shape h c p l f = omega (arith, has_times p (flight h c) f, once_flies shape h c p l)

-- a page that leaves the flight of c
leaving : (h : History) (c d p : ℕ) → times p (flight h c) ≡ 1 →
    length (cond (nat_eq c d) (without p (flight h d)) (flight h d)) + one_for (Some c) d ≡ length (flight h d) + 0
leaving h c d p one = grind (arith, nat_eq, times, eqb-true, length-without)

-- a page that an outcome may free
by_outcome : (shape : Shape) (h : History) (c d p : ℕ) (o : Outcome) → IsLegal shape h →
    length (flight_by (flight h d) p o) + one_for (left_by h p o) d ≡ length (flight h d) + 0
by_outcome shape h c d p Freed l =
    omega (arith, length-without p (flight h d), times-flier p d (flights h) (omega (arith, (legal_sound shape h l).once p)))
by_outcome shape h c d p Queued l = refl
by_outcome shape h c d p Stays l = refl

moves : (shape : Shape) (h k : History) (c d : ℕ) (w : What) → IsLegal shape h → FitsBy shape h k c w →
    length (flight_after d (flight h d) c w) + one_for (leaves_of h c w) d ≡ length (flight h d) + one_for (joins_of c w) d
moves shape h k c d x l f = grind (arith, by_outcome, nat_eq, length_push, leaving, one_flying, first_has)

-- an event that fits takes a page out of the flight that it names, and puts one into that of a caller that takes
pub flight_moves : (shape : Shape) (h : History) (c d : ℕ) (w : What) → IsLegal shape h → FitsBy shape h (h ++ by c w ∷ []) c w →
    length (flight (h ++ by c w ∷ []) d) + one_for (leaves_of h c w) d ≡ length (flight h d) + one_for (joins_of c w) d
flight_moves shape h c d w l f = grind (arith, flight_push, moves)

-- a page that is taken joins the taker's flight
pub flight_grows : (h : History) (c p : ℕ) → length (flight (h ++ by c (Taken p) ∷ []) c) ≡ length (flight h c) + 1
flight_grows h c p = grind (arith, flight_push, eq-eqb, length_push)

apart : (h : History) (c d : ℕ) (w : What) → Some d ≡ leaves_of h c w → joins_of c w ≡ None
apart h c d x e = grind arith

-- a flight that a page leaves has one
pub leaves_one : (shape : Shape) (h : History) (c d : ℕ) (w : What) → IsLegal shape h → FitsBy shape h (h ++ by c w ∷ []) c w → Some d ≡ leaves_of h c w →
    0 < length (flight h d)
leaves_one shape h c d w l f e =
    let one : one_for (leaves_of h c w) d ≡ 1 = ap (λ o. one_for o d) (sym e) ∙ one_if (nat_eq d d) (eq-eqb d d refl) in
    let none : one_for (joins_of c w) d ≡ 0 = ap (λ o. one_for o d) (apart h c d w e) in
    omega (arith, flight_moves shape h c d w l f, one, none)
