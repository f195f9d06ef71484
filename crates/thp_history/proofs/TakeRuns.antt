-- Takes, one page at a time: the oldest pages move from the queue to the end of the caller's flight.
use Rattle.std.proofs.Common.{◌≡◌, ℕ, suc, zero, ◌+◌, true, cond, ◌||◌, List, [], ◌∷◌, ◌++◌, Some, length, take, drop, refl, ap, sym, ◌∙◌, subst, arith, eq-eqb, append_assoc, take-append-drop, slice_get}
use Rattle.std.proofs.lemmas.List.{map-append}
use Rattle.thp_history.specs.Prelude.{Event, Shape, History, by, IsLegal, queue, flight, is_taking, no_pages, takes_of, take_events}
use Rattle.thp_history.specs.declared.events.What.TheVariants.{Taken}
use Rattle.thp_history.proofs.Bools.{or_first, or_second}
use Rattle.thp_history.proofs.Flights.{flight_push}
use Rattle.thp_history.proofs.LegalSteps.{legal_push}
use Rattle.thp_history.proofs.ListPlaces.{append_none}
use Rattle.thp_history.proofs.Pushes.{queue_push, is_taking_push}

-- pages ps were taken off the queue, and qs are left
pub record Took (shape : Shape) (h k : History) (c : ℕ) (ps qs : List ℕ) : Type 0 where
  pub legal : IsLegal shape k
  pub left : queue shape k ≡ qs
  pub joined : flight k c ≡ flight h c ++ ps
  pub may : (no_pages (flight k c) || is_taking k c) ≡ true

-- the oldest pages can be taken one by one by a caller with nothing in flight, or one that goes on taking
pub take_run : (shape : Shape) (h : History) (c : ℕ) (ps qs : List ℕ) → IsLegal shape h → queue shape h ≡ ps ++ qs → (no_pages (flight h c) || is_taking h c) ≡ true →
    Took shape h (h ++ takes_of c ps) c ps qs
take_run shape h c [] qs l q t =
    let P : History → Type 0 = λ x. Took shape h x c [] qs in
    subst P (sym (append_none h)) (record { legal = l; left = q; joined = sym (append_none (flight h c)); may = t })
take_run shape h c (p ∷ ps) qs l q t =
    let e : Event = by c (Taken p) in
    let k : History = h ++ e ∷ [] in
    let more : IsLegal shape k = legal_push shape h e l (record { oldest = ap (λ x. slice_get x 0) q; may_take = t }) in
    let r : Took shape k (k ++ takes_of c ps) c ps qs =
    take_run shape k c ps qs more (queue_push shape h e ∙ ap (λ x. drop 1 x) q) (or_second _ _ (is_taking_push h c e ∙ eq-eqb c c refl)) in
    let one : flight k c ≡ flight h c ++ p ∷ [] = flight_push h c c (Taken p) ∙ ap (λ b. cond b (flight h c ++ p ∷ []) (flight h c)) (eq-eqb c c refl) in
    let P : History → Type 0 = λ x. Took shape h x c (p ∷ ps) qs in
    subst P (append_assoc h (e ∷ []) (takes_of c ps))
    (record { legal = r.legal; left = r.left; joined = r.joined ∙ ap (λ x. x ++ ps) one ∙ append_assoc (flight h c) (p ∷ []) ps; may = r.may })

-- a take of n: the queue loses its n oldest pages, which join the flight
pub take_runs : (shape : Shape) (h : History) (c n : ℕ) → IsLegal shape h → no_pages (flight h c) ≡ true →
    Took shape h (h ++ take_events shape h c n) c (take n (queue shape h)) (drop n (queue shape h))
take_runs shape h c n l f =
    take_run shape h c (take n (queue shape h)) (drop n (queue shape h)) l (sym (take-append-drop n (queue shape h))) (or_first _ _ f)

-- the first of the pages left is the next to be taken
pub more_taken : (i : ℕ) (qs : List ℕ) (p : ℕ) → slice_get (drop i qs) 0 ≡ Some p → (take (i + 1) qs ≡ take i qs ++ p ∷ []) × (drop (i + 1) qs ≡ drop 1 (drop i qs))
more_taken zero [] p e = absurd (cc)
more_taken zero (q ∷ qs) p e = (cc, refl)
more_taken (suc i) [] p e = absurd (cc)
more_taken (suc i) (q ∷ qs) p e =
    let w = more_taken i qs p e in
    let n : suc i + 1 ≡ suc (i + 1) = omega arith in
    (ap (λ k. take k (q ∷ qs)) n ∙ ap (λ xs. q ∷ xs) w.0, ap (λ k. drop k (q ∷ qs)) n ∙ w.1)

-- one more take
pub take_events_more : (shape : Shape) (h : History) (c i p : ℕ) → slice_get (drop i (queue shape h)) 0 ≡ Some p → take_events shape h c (i + 1) ≡ take_events shape h c i ++ by c (Taken p) ∷ []
take_events_more shape h c i p e = ap (takes_of c) (more_taken i (queue shape h) p e).0 ∙ map-append (λ q. by c (Taken q)) (take i (queue shape h)) (p ∷ [])

-- a caller has nothing in flight exactly where its flight's length is 0
pub none_flies : (ps : List ℕ) → length ps ≡ 0 → no_pages ps ≡ true
none_flies x e = grind arith

-- and the other way round
pub none_length : (ps : List ℕ) → no_pages ps ≡ true → length ps ≡ 0
none_length x e = grind arith
