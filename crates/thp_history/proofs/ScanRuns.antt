-- A scan: a take, a try of each page taken, and the return of those that were pinned.
use Rattle.std.proofs.Common.{◌≡◌, ℕ, ◌+◌, ◌≤◌, Bool, true, false, cond, not, List, [], ◌∷◌, ◌++◌, Some, map, take, drop, refl, ap, ap₂, sym, ◌∙◌, subst, arith, nat_eq, eq-eqb, append_assoc, slice_get, filter}
use Rattle.std.proofs.lemmas.List.{map-append, take-append-drop}
use Rattle.thp_history.specs.Prelude.{Event, Shape, History, by, is_closed, closes, queue, flight, has_page, no_pages, IsLegal, is_dropped, takes_of, take_events, try_event, return_event, goes_back, is_pinned, scan_events}
use Rattle.thp_history.specs.declared.events.What.TheVariants.{Taken}
use Rattle.thp_history.proofs.Bools.{or_first, or_second}
use Rattle.thp_history.proofs.ListPlaces.{append_none}
use Rattle.thp_history.proofs.OnePlace.{once_queued, times-append, not_before}
use Rattle.thp_history.proofs.Pushes.{some_same}
use Rattle.thp_history.proofs.ReturnRuns.{Returned, return_run}
use Rattle.thp_history.proofs.Standing.{times}
use Rattle.thp_history.proofs.TakeRuns.{Took, take_runs, more_taken}
use Rattle.thp_history.proofs.TryRuns.{Tried, tries_run, try_kept, pinned_kept, dropped_kept}
use Rattle.thp_history.proofs.Untouched.{untouched}

-- takes leave what a try does, which pages are pinned, and whether the node is closed
pub record TakesLeave (shape : Shape) (h k : History) (c : ℕ) : Type 0 where
  pub tries : (q : ℕ) → try_event shape k c q ≡ try_event shape h c q
  pub pinned : (q : ℕ) → is_pinned shape k q ≡ is_pinned shape h q
  pub closed : is_closed k ≡ is_closed h
  pub dropped : (q : ℕ) → is_dropped shape k q ≡ is_dropped shape h q

-- so a run of takes leaves all that
pub takes_leave : (shape : Shape) (h : History) (c : ℕ) (ps : List ℕ) → TakesLeave shape h (h ++ takes_of c ps) c
takes_leave shape h c [] =
    let P : History → Type 0 = λ x. TakesLeave shape h x c in
    subst P (sym (append_none h)) (record { tries = λ q. refl; pinned = λ q. refl; closed = refl; dropped = λ q. refl })
takes_leave shape h c (p ∷ ps) =
    let e : Event = by c (Taken p) in
    let r : TakesLeave shape (h ++ e ∷ []) ((h ++ e ∷ []) ++ takes_of c ps) c = takes_leave shape (h ++ e ∷ []) c ps in
    let P : History → Type 0 = λ x. TakesLeave shape h x c in
    subst P (append_assoc h (e ∷ []) (takes_of c ps))
    (record {
      tries = λ q. r.tries q ∙ try_kept shape h e c q (untouched q (Taken p) refl);
      pinned = λ q. r.pinned q ∙ pinned_kept shape h e q (untouched q (Taken p) refl);
      closed = r.closed ∙ some_same closes h e refl;
      dropped = λ q. r.dropped q ∙ dropped_kept shape h e q refl refl;
    })

-- the history once the pages of a scan of n were taken
abbrev pub scan_taken : Shape → History → ℕ → ℕ → History
scan_taken shape h c n = h ++ take_events shape h c n

-- the history once the first i of them were tried
abbrev pub scan_tried : Shape → History → ℕ → ℕ → ℕ → History
scan_tried shape h c n i = scan_taken shape h c n ++ map (try_event shape h c) (take i (take n (queue shape h)))

-- functions that agree
map_same : (f g : ℕ → Event) → ((p : ℕ) → f p ≡ g p) → (ps : List ℕ) → map f ps ≡ map g ps
map_same f g s [] = refl
map_same f g s (p ∷ ps) = ap₂ (λ x xs. x ∷ xs) (s p) (map_same f g s ps)

-- a flight without pages
nothing_flies : (ps : List ℕ) → no_pages ps ≡ true → ps ≡ []
nothing_flies x e = grind arith

-- the flight of a scan is the pages taken
scan_flight : (shape : Shape) (h : History) (c n : ℕ) → IsLegal shape h → no_pages (flight h c) ≡ true → flight (scan_taken shape h c n) c ≡ take n (queue shape h)
scan_flight shape h c n l f = (take_runs shape h c n l f).joined ∙ ap (λ x. x ++ take n (queue shape h)) (nothing_flies (flight h c) f)

-- tries of some of the pages of a scan, where others follow
pub scan_tries : (shape : Shape) (h : History) (c n : ℕ) (ps qs : List ℕ) → IsLegal shape h → no_pages (flight h c) ≡ true → take n (queue shape h) ≡ ps ++ qs →
    Tried shape (scan_taken shape h c n) (scan_taken shape h c n ++ map (try_event shape h c) ps) c [] ps qs
scan_tries shape h c n ps qs l f e =
    let k : History = scan_taken shape h c n in
    let t : TakesLeave shape h k c = takes_leave shape h c (take n (queue shape h)) in
    let P : List Event → Type 0 = λ x. Tried shape k (k ++ x) c [] ps qs in
    subst P (map_same (try_event shape k c) (try_event shape h c) t.tries ps)
    (tries_run shape k c ps qs (take_runs shape h c n l f).legal (scan_flight shape h c n l f ∙ e))

-- the next page of a scan: it is in flight, and a try of it does what it would have done before the scan
pub record NextTry (shape : Shape) (h : History) (c n i p : ℕ) : Type 0 where
  pub flies : has_page p (flight (scan_tried shape h c n i) c) ≡ true
  pub same : try_event shape (scan_tried shape h c n i) c p ≡ try_event shape h c p
  pub more : scan_tried shape h c n (i + 1) ≡ scan_tried shape h c n i ++ try_event shape h c p ∷ []

-- a list cut at the page that is next
split_at : (i : ℕ) (ps : List ℕ) (p : ℕ) → slice_get (drop i ps) 0 ≡ Some p → ps ≡ take i ps ++ p ∷ drop 1 (drop i ps)
split_at i ps p e = grind (arith, take-append-drop, slice_get)

-- a page behind a front
in_middle : (p : ℕ) (xs ys : List ℕ) → has_page p (xs ++ p ∷ ys) ≡ true
in_middle p [] ys = or_first (nat_eq p p) _ (eq-eqb p p refl)
in_middle p (x ∷ xs) ys = or_second (nat_eq x p) _ (in_middle p xs ys)

-- no page is taken twice
once_taken : (shape : Shape) (h : History) (n p : ℕ) → IsLegal shape h → times p (take n (queue shape h)) ≤ 1
once_taken shape h n p l =
    omega (arith, once_queued shape h p l, times-append p (take n (queue shape h)) (drop n (queue shape h)), ap (times p) (take-append-drop n (queue shape h)))

-- the next page of a scan is tried as it would have been before the scan
pub scan_next_try : (shape : Shape) (h : History) (c n i p : ℕ) → IsLegal shape h → no_pages (flight h c) ≡ true → slice_get (drop i (take n (queue shape h))) 0 ≡ Some p →
    NextTry shape h c n i p
scan_next_try shape h c n i p l f e =
    let ps : List ℕ = take n (queue shape h) in
    let rest : List ℕ = drop 1 (drop i ps) in
    let cut : ps ≡ take i ps ++ p ∷ rest = split_at i ps p e in
    let r : Tried shape (scan_taken shape h c n) (scan_tried shape h c n i) c [] (take i ps) (p ∷ rest) = scan_tries shape h c n (take i ps) (p ∷ rest) l f cut in
    let O : List ℕ → Type 0 = λ x. times p x ≤ 1 in
    let apart : has_page p (take i ps) ≡ false = not_before p (take i ps) rest (subst O cut (once_taken shape h n p l)) in
    let k : History = scan_taken shape h c n in
    let t : TakesLeave shape h k c = takes_leave shape h c ps in
    record {
      flies = ap (has_page p) r.left ∙ in_middle p (filter (is_pinned shape k) (take i ps)) rest;
      same = r.others p apart ∙ t.tries p;
      more =
          ap (λ x. k ++ map (try_event shape h c) x) (more_taken i ps p e).0
          ∙ ap (λ x. k ++ x) (map-append (try_event shape h c) (take i ps) (p ∷ []))
          ∙ sym (append_assoc k (map (try_event shape h c) (take i ps)) (try_event shape h c p ∷ []));
    }

-- a scan, all of it: the pages taken leave the queue, those that are pinned and aren't dropped join at its tail, and nothing is
-- in flight
pub record Scanned (shape : Shape) (h k : History) (c n : ℕ) : Type 0 where
  pub legal : IsLegal shape k
  pub queue_is : queue shape k ≡ drop n (queue shape h) ++ filter (goes_back shape h) (filter (is_pinned shape h) (take n (queue shape h)))
  pub left : flight k c ≡ []
  pub closed_same : is_closed k ≡ is_closed h

-- filters by tests that agree
filter_same : (t u : ℕ → Bool) (ps : List ℕ) → ((p : ℕ) → t p ≡ u p) → filter t ps ≡ filter u ps
filter_same t u [] f = refl
filter_same t u (p ∷ ps) f = ap₂ (λ b qs. cond b (p ∷ qs) qs) (f p) (filter_same t u ps f)

-- returns of some of the pages of a scan that were pinned, where others follow
pub scan_returns : (shape : Shape) (h : History) (c n : ℕ) (ps qs : List ℕ) → IsLegal shape h → no_pages (flight h c) ≡ true →
    filter (is_pinned shape h) (take n (queue shape h)) ≡ ps ++ qs →
    Returned shape (scan_taken shape h c n ++ map (try_event shape h c) (take n (queue shape h)))
    ((scan_taken shape h c n ++ map (try_event shape h c) (take n (queue shape h))) ++ map (return_event shape h c) ps) c ps qs
scan_returns shape h c n ps qs l f e =
    let all : List ℕ = take n (queue shape h) in
    let k : History = scan_taken shape h c n in
    let t : TakesLeave shape h k c = takes_leave shape h c all in
    let r : Tried shape k (k ++ map (try_event shape h c) all) c [] all [] = scan_tries shape h c n all [] l f (sym (append_none all)) in
    return_run shape h (k ++ map (try_event shape h c) all) c ps qs r.legal
    (r.left ∙ append_none (filter (is_pinned shape k) all) ∙ filter_same (is_pinned shape k) (is_pinned shape h) all t.pinned ∙ e) (λ q. r.dropped_same q ∙ t.dropped q)

-- a scan records a legal history, and leaves this
pub scan_run : (shape : Shape) (h : History) (c n : ℕ) → IsLegal shape h → no_pages (flight h c) ≡ true → Scanned shape h (h ++ scan_events shape h c n) c n
scan_run shape h c n l f =
    let all : List ℕ = take n (queue shape h) in
    let back : List ℕ = filter (is_pinned shape h) all in
    let k : History = scan_taken shape h c n in
    let m : History = k ++ map (try_event shape h c) all in
    let t : TakesLeave shape h k c = takes_leave shape h c all in
    let a : Took shape h k c all (drop n (queue shape h)) = take_runs shape h c n l f in
    let r : Tried shape k m c [] all [] = scan_tries shape h c n all [] l f (sym (append_none all)) in
    let w : Returned shape m (m ++ map (return_event shape h c) back) c back [] = scan_returns shape h c n back [] l f (sym (append_none back)) in
    let P : History → Type 0 = λ x. Scanned shape h x c n in
    subst P (ap (λ x. x ++ map (return_event shape h c) back) (append_assoc h (take_events shape h c n) (map (try_event shape h c) all)) ∙ append_assoc h (take_events shape h c n ++ map (try_event shape h c) all) (map (return_event shape h c) back))
    (record {
      legal = w.legal;
      queue_is = w.queue_is ∙ ap₂ (λ x y. x ++ y) (r.queue_same ∙ a.left) (filter_same _ _ back (λ q. ap not (r.dropped_same q ∙ t.dropped q)));
      left = w.left;
      closed_same = w.closed_same ∙ r.closed_same ∙ t.closed;
    })
