-- Returns of pages in flight, one at a time: each goes to the tail of the queue, or nowhere where it is dropped.
use Rattle.std.proofs.Common.{◌≡◌, ℕ, ◌≤◌, Bool, true, false, cond, not, List, [], ◌∷◌, ◌++◌, Some, map, refl, ap, ap₂, sym, ◌∙◌, subst, eq-eqb, append_assoc, slice_get, filter}
use Rattle.thp_history.specs.Prelude.{Event, Shape, History, by, is_closed, closes, queue, flight, without, IsLegal, Fits, is_dropped, return_event, goes_back, still_flying, put_back_events, unmaps_some, is_partly_mapped}
use Rattle.thp_history.specs.declared.events.What.TheVariants.{Back, Dropped}
use Rattle.thp_history.proofs.Bools.{or_none, not_false}
use Rattle.thp_history.proofs.Flights.{flight_push}
use Rattle.thp_history.proofs.LegalSteps.{legal_push}
use Rattle.thp_history.proofs.ListPlaces.{append_none}
use Rattle.thp_history.proofs.OnePlace.{once_flies, without_first}
use Rattle.thp_history.proofs.Pushes.{queue_push, some_same}
use Rattle.thp_history.proofs.Standing.{times}
use Rattle.thp_history.proofs.TryRuns.{dropped_kept}

-- a return of page p, which is dropped or isn't
abbrev pub return_as : Bool → ℕ → ℕ → Event
return_as dropped c p = by c (cond dropped (Dropped p) (Back p))

-- the page in front of a flight can be returned
pub return_fits : (shape : Shape) (h : History) (c p : ℕ) (b : Bool) → is_dropped shape h p ≡ b → slice_get (flight h c) 0 ≡ Some p → Fits shape h (return_as b c p)
return_fits shape h c p true y f = (f, y)
return_fits shape h c p false y f = let w = or_none (is_closed h) (not (is_partly_mapped shape h p)) y in (f, w.0, not_false _ w.1)

-- the pages ps were returned, and qs are left in the flight
pub record Returned (shape : Shape) (h k : History) (c : ℕ) (ps qs : List ℕ) : Type 0 where
  pub legal : IsLegal shape k
  pub queue_is : queue shape k ≡ queue shape h ++ filter (goes_back shape h) ps
  pub left : flight k c ≡ qs
  pub closed_same : is_closed k ≡ is_closed h
  pub dropped_same : (q : ℕ) → is_dropped shape k q ≡ is_dropped shape h q

-- a return closes nothing
return_closes : (b : Bool) (c p : ℕ) → closes (return_as b c p).what ≡ false
return_closes true c p = refl
return_closes false c p = refl

-- and unmaps nothing
return_unmaps : (b : Bool) (c p q : ℕ) → unmaps_some q (return_as b c p).what ≡ false
return_unmaps true c p q = refl
return_unmaps false c p q = refl

-- the flight loses the page, which is in front
return_flight : (h : History) (c p : ℕ) (b : Bool) → flight (h ++ return_as b c p ∷ []) c ≡ without p (flight h c)
return_flight h c p true = flight_push h c c (Dropped p) ∙ ap (λ b. cond b (without p (flight h c)) (flight h c)) (eq-eqb c c refl)
return_flight h c p false = flight_push h c c (Back p) ∙ ap (λ b. cond b (without p (flight h c)) (flight h c)) (eq-eqb c c refl)

-- the queue after a return
return_queue : (shape : Shape) (h : History) (c p : ℕ) (b : Bool) → queue shape (h ++ return_as b c p ∷ []) ≡ cond b (queue shape h) (queue shape h ++ p ∷ [])
return_queue shape h c p true = queue_push shape h (by c (Dropped p))
return_queue shape h c p false = queue_push shape h (by c (Back p))

-- filters by tests that agree
filter_same : (t u : ℕ → Bool) (ps : List ℕ) → ((p : ℕ) → t p ≡ u p) → filter t ps ≡ filter u ps
filter_same t u [] f = refl
filter_same t u (p ∷ ps) f = ap₂ (λ b qs. cond b (p ∷ qs) qs) (f p) (filter_same t u ps f)

-- the front of a flight can be returned page by page, each as it would have been at h
pub return_run : (shape : Shape) (h k : History) (c : ℕ) (ps qs : List ℕ) → IsLegal shape k → flight k c ≡ ps ++ qs → ((q : ℕ) → is_dropped shape k q ≡ is_dropped shape h q) →
    Returned shape k (k ++ map (return_event shape h c) ps) c ps qs
return_run shape h k c [] qs l f same =
    let P : History → Type 0 = λ x. Returned shape k x c [] qs in
    subst P (sym (append_none k)) (record { legal = l; queue_is = sym (append_none (queue shape k)); left = f; closed_same = refl; dropped_same = λ q. refl })
return_run shape h k c (p ∷ ps) qs l f same =
    let b : Bool = is_dropped shape h p in
    let e : Event = return_as b c p in
    let n : History = k ++ e ∷ [] in
    let more : IsLegal shape n = legal_push shape k e l (return_fits shape k c p b (same p) (ap (λ x. slice_get x 0) f)) in
    let T : List ℕ → Type 0 = λ x. times p x ≤ 1 in
    let left : flight n c ≡ ps ++ qs = return_flight k c p b ∙ ap (without p) f ∙ without_first p (ps ++ qs) (subst T f (once_flies shape k c p l)) in
    let kept : (q : ℕ) → is_dropped shape n q ≡ is_dropped shape k q = λ q. dropped_kept shape k e q (return_unmaps b c p q) (return_closes b c p) in
    let r : Returned shape n (n ++ map (return_event shape h c) ps) c ps qs = return_run shape h n c ps qs more left (λ q. kept q ∙ same q) in
    let P : History → Type 0 = λ x. Returned shape k x c (p ∷ ps) qs in
    subst P (append_assoc k (e ∷ []) (map (return_event shape h c) ps))
    (record {
      legal = r.legal;
      queue_is =
          r.queue_is ∙ ap₂ (λ x y. x ++ y) (return_queue shape k c p b) (filter_same _ _ ps (λ q. ap not (kept q)))
          ∙ join b (filter (goes_back shape k) ps) ∙ ap (λ d. queue shape k ++ cond (not d) (p ∷ filter (goes_back shape k) ps) (filter (goes_back shape k) ps)) (sym (same p));
      left = r.left;
      closed_same = r.closed_same ∙ some_same closes k e (return_closes b c p);
      dropped_same = λ q. r.dropped_same q ∙ kept q;
    }) where
      join : (d : Bool) (xs : List ℕ) → cond d (queue shape k) (queue shape k ++ p ∷ []) ++ xs ≡ queue shape k ++ cond (not d) (p ∷ xs) xs
      join true xs = refl
      join false xs = append_assoc (queue shape k) (p ∷ []) xs

-- the same of the history itself
pub returns_run : (shape : Shape) (h : History) (c : ℕ) (ps qs : List ℕ) → IsLegal shape h → flight h c ≡ ps ++ qs →
    Returned shape h (h ++ map (return_event shape h c) ps) c ps qs
returns_run shape h c ps qs l f = return_run shape h h c ps qs l f (λ q. refl)

-- a whole batch put back
pub put_back_all : (shape : Shape) (h : History) (c : ℕ) (ps qs : List ℕ) → IsLegal shape h → flight h c ≡ still_flying h c ps ++ qs →
    Returned shape h (h ++ put_back_events shape h c ps) c (still_flying h c ps) qs
put_back_all shape h c ps qs l f = returns_run shape h c (still_flying h c ps) qs l f
