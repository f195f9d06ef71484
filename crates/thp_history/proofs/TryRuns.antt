-- Tries of pages in flight, one at a time: each is split, or stays in its flight where it has pins.
use Rattle.std.proofs.Common.{◌≡◌, ℕ, ◌≤◌, Bool, true, false, cond, not, ◌||◌, List, [], ◌∷◌, ◌++◌, map, refl, ap, ap₂, sym, ◌∙◌, subst, arith, nat_eq, nat_lt, eq-eqb, eqb-true, append_assoc, filter}
use Rattle.std.proofs.lemmas.Bool.{eqb-false}
use Rattle.std.proofs.lemmas.Bool.Decides.{nat_tests}
use Rattle.thp_history.specs.Prelude.{Event, Shape, History, by, is_live, is_split, is_closed, closes, queue, flight, has_page, without, released, IsLegal, Fits, is_dropped, unused, try_event, is_pinned, unmaps_some, is_worth_split}
use Rattle.thp_history.specs.declared.events.What.TheVariants.{Split, Used}
use Rattle.thp_history.specs.declared.events.What.TheVariants.{Pinned}
use Rattle.thp_history.proofs.Bools.{by_bool, or_none, or_second, or-true}
use Rattle.thp_history.proofs.Flights.{flight_push}
use Rattle.thp_history.proofs.Holding.{whole_held}
use Rattle.thp_history.proofs.LegalSteps.{legal_push}
use Rattle.thp_history.proofs.ListPlaces.{append_none}
use Rattle.thp_history.proofs.OnePlace.{flies_live, once_flies, without_middle, times-append, has_times, filter_in, turned}
use Rattle.thp_history.proofs.Pushes.{queue_push, count_same, some_same, some_event_push, live_stays, zero_stays, partly_stays}
use Rattle.thp_history.proofs.Standing.{times, times-cons}
use Rattle.thp_history.proofs.SumsBelow.{sum_below-ext}
use Rattle.thp_history.proofs.Untouched.{Untouched, untouched}
use Rattle.thp_history.proofs.WordLemmas.{set_of-ext}

-- a try of a page that is worth a split or isn't, with pins or without
abbrev pub try_as : Shape → History → ℕ → ℕ → Bool → Bool → Event
try_as shape h c p worth free = by c (cond worth (cond free (Split p (unused shape h p)) (Pinned p)) (Used p))

-- a split of a live page gives back the frames that it doesn't leave
pub split_releases : (shape : Shape) (h : History) (c p : ℕ) (r : List Bool) → is_live h p ≡ true → is_split h p ≡ false →
    unused shape h p ≡ released shape h (h ++ by c (Split p r) ∷ []) p
split_releases shape h c p r l w = grind (arith, some_event_push, nat_eq, eq-eqb, set_of-ext, by_bool, nat_lt, whole_held, live_stays, count_same, zero_stays)

-- a try of a page in the caller's flight fits
pub try_fits : (shape : Shape) (h : History) (c p : ℕ) → IsLegal shape h → has_page p (flight h c) ≡ true → Fits shape h (try_event shape h c p)
try_fits shape h c p l f = grind (arith, nat_eq, flies_live, eqb-true, split_releases, eqb-false)

-- an event that isn't about page p leaves whether a split of it is worth its while
pub worth_kept : (shape : Shape) (h : History) (e : Event) (p : ℕ) → Untouched p e.what → is_worth_split shape (h ++ e ∷ []) p ≡ is_worth_split shape h p
worth_kept shape h e p u = grind (arith, partly_stays, sum_below-ext, zero_stays)

-- and what a try of it does
pub try_kept : (shape : Shape) (h : History) (e : Event) (c p : ℕ) → Untouched p e.what → try_event shape (h ++ e ∷ []) c p ≡ try_event shape h c p
try_kept shape h e c p u = grind (arith, count_same, set_of-ext, nat_lt, live_stays, zero_stays, worth_kept, nat_eq)

-- and whether a try finds it pinned
pub pinned_kept : (shape : Shape) (h : History) (e : Event) (p : ℕ) → Untouched p e.what → is_pinned shape (h ++ e ∷ []) p ≡ is_pinned shape h p
pinned_kept shape h e p u = grind (arith, nat_lt, worth_kept, count_same)

-- an event that unmaps nothing and closes nothing leaves which pages are dropped
pub dropped_kept : (shape : Shape) (h : History) (e : Event) (p : ℕ) → unmaps_some p e.what ≡ false → closes e.what ≡ false → is_dropped shape (h ++ e ∷ []) p ≡ is_dropped shape h p
dropped_kept shape h e p u f = ap₂ (λ a b. a || not b) (some_same closes h e f) (partly_stays shape h e p u)

-- a try is about its page alone
pub untouched_try : (shape : Shape) (h : History) (c p q : ℕ) → nat_eq q p ≡ false → Untouched q (try_event shape h c p).what
untouched_try shape h c p q f = grind (arith, nat_eq, Untouched, untouched)

-- a try closes nothing
try_closes : (shape : Shape) (h : History) (c p : ℕ) → closes (try_event shape h c p).what ≡ false
try_closes shape h c p = grind (arith, nat_eq)

-- and unmaps nothing
try_unmaps : (shape : Shape) (h : History) (c p q : ℕ) → unmaps_some q (try_event shape h c p).what ≡ false
try_unmaps shape h c p q = grind (arith, nat_eq)

-- a try leaves the queue
try_queue : (shape : Shape) (h k : History) (c p : ℕ) → queue shape (k ++ try_event shape h c p ∷ []) ≡ queue shape k
try_queue shape h k c p = grind (arith, nat_eq, queue_push)

-- a page without pins isn't pinned
none_pinned : (n : ℕ) → nat_eq n 0 ≡ not (nat_lt 0 n)
none_pinned n = grind (arith, nat_tests)

-- after a try its page is left in the flight where it is pinned
pub try_flight : (shape : Shape) (h : History) (c p : ℕ) → flight (h ++ try_event shape h c p ∷ []) c ≡ cond (is_pinned shape h p) (flight h c) (without p (flight h c))
try_flight shape h c p = grind (arith, nat_eq, nat_lt, none_pinned, flight_push, eq-eqb)

-- the pages ps of a flight were tried: those that are pinned are left, and qs behind them
pub record Tried (shape : Shape) (h k : History) (c : ℕ) (fs ps qs : List ℕ) : Type 0 where
  pub legal : IsLegal shape k
  pub queue_same : queue shape k ≡ queue shape h
  pub left : flight k c ≡ fs ++ (filter (is_pinned shape h) ps ++ qs)
  pub closed_same : is_closed k ≡ is_closed h
  pub others : (q : ℕ) → has_page q ps ≡ false → try_event shape k c q ≡ try_event shape h c q
  pub others_pinned : (q : ℕ) → has_page q ps ≡ false → is_pinned shape k q ≡ is_pinned shape h q
  pub dropped_same : (q : ℕ) → is_dropped shape k q ≡ is_dropped shape h q

-- a page that stands once behind a front isn't behind itself
later_apart : (p q : ℕ) (fs ps qs : List ℕ) → times p (fs ++ p ∷ (ps ++ qs)) ≤ 1 → has_page q ps ≡ true → nat_eq q p ≡ false
later_apart p q fs ps qs l e = grind (arith, by_bool, nat_eq, times, eqb-true, has_times, times-append, times-cons, eq-eqb)

-- a page in front
here : (p : ℕ) (ps : List ℕ) → has_page p (p ∷ ps) ≡ true
here p ps = ap (λ b. b || has_page p ps) (eq-eqb p p refl)

-- a page behind a front
in_middle : (p : ℕ) (fs ps : List ℕ) → has_page p (fs ++ p ∷ ps) ≡ true
in_middle p [] ps = here p ps
in_middle p (x ∷ fs) ps = ap (λ b. nat_eq x p || b) (in_middle p fs ps) ∙ or-true (nat_eq x p)

-- the pages of a flight behind a front can be tried one by one, as they would be at once
tries_from : (shape : Shape) (h k : History) (c : ℕ) (fs ps qs : List ℕ) → IsLegal shape k → flight k c ≡ fs ++ (ps ++ qs) →
    ((q : ℕ) → has_page q ps ≡ true → try_event shape k c q ≡ try_event shape h c q) → ((q : ℕ) → has_page q ps ≡ true → is_pinned shape k q ≡ is_pinned shape h q) →
    Tried shape k (k ++ map (try_event shape h c) ps) c fs ps qs
tries_from shape h k c fs [] qs l f same pinned =
    let P : History → Type 0 = λ x. Tried shape k x c fs [] qs in
    subst P (sym (append_none k)) (record { legal = l; queue_same = refl; left = f; closed_same = refl; others = λ q g. refl; others_pinned = λ q g. refl; dropped_same = λ q. refl })
tries_from shape h k c fs (p ∷ ps) qs l f same pinned =
    let e : Event = try_event shape h c p in
    let is : try_event shape k c p ≡ e = same p (here p ps) in
    let n : History = k ++ e ∷ [] in
    let F : Event → Type 0 = λ x. Fits shape k x in
    let flies : has_page p (flight k c) ≡ true = ap (has_page p) f ∙ in_middle p fs (ps ++ qs) in
    let more : IsLegal shape n = legal_push shape k e l (subst F is (try_fits shape k c p l flies)) in
    let T : List ℕ → Type 0 = λ x. times p x ≤ 1 in
    let once : times p (fs ++ p ∷ (ps ++ qs)) ≤ 1 = subst T f (once_flies shape k c p l) in
    let G : Event → Type 0 = λ x. flight (k ++ x ∷ []) c ≡ cond (is_pinned shape k p) (flight k c) (without p (flight k c)) in
    let now : flight n c ≡ cond (is_pinned shape k p) (fs ++ p ∷ (ps ++ qs)) (fs ++ (ps ++ qs)) =
    subst G is (try_flight shape k c p) ∙ ap₂ (λ a b. cond (is_pinned shape k p) a b) f (ap (without p) f ∙ without_middle p fs (ps ++ qs) once) in
    let untouched_by : (q : ℕ) → nat_eq q p ≡ false → Untouched q e.what = λ q y. untouched_try shape h c p q y in
    let other : (q : ℕ) → nat_eq q p ≡ false → try_event shape n c q ≡ try_event shape k c q = λ q y. try_kept shape k e c q (untouched_by q y) in
    let other_pinned : (q : ℕ) → nat_eq q p ≡ false → is_pinned shape n q ≡ is_pinned shape k q = λ q y. pinned_kept shape k e q (untouched_by q y) in
    let apart_of : (q : ℕ) → has_page q ps ≡ true → nat_eq q p ≡ false = λ q g. later_apart p q fs ps qs once g in
    let in_rest : (q : ℕ) → has_page q ps ≡ true → has_page q (p ∷ ps) ≡ true = λ q g. or_second (nat_eq p q) _ g in
    let r : Tried shape n (n ++ map (try_event shape h c) ps) c (cond (is_pinned shape k p) (fs ++ p ∷ []) fs) ps qs =
    tries_from shape h n c (cond (is_pinned shape k p) (fs ++ p ∷ []) fs) ps qs more (now ∙ shift (is_pinned shape k p))
    (λ q g. other q (apart_of q g) ∙ same q (in_rest q g)) (λ q g. other_pinned q (apart_of q g) ∙ pinned q (in_rest q g)) in
    let P : History → Type 0 = λ x. Tried shape k x c fs (p ∷ ps) qs in
    subst P (append_assoc k (e ∷ []) (map (try_event shape h c) ps))
    (record {
      legal = r.legal;
      queue_same = r.queue_same ∙ try_queue shape h k c p;
      left = r.left ∙ join (is_pinned shape k p) _ _ (filter_in (is_pinned shape n) (is_pinned shape k) ps (λ q g. other_pinned q (apart_of q g)));
      closed_same = r.closed_same ∙ some_same closes k e (try_closes shape h c p);
      others = λ q g. let w = or_none (nat_eq p q) (has_page q ps) g in r.others q w.1 ∙ other q (turned p q w.0);
      others_pinned = λ q g. let w = or_none (nat_eq p q) (has_page q ps) g in r.others_pinned q w.1 ∙ other_pinned q (turned p q w.0);
      dropped_same = λ q. r.dropped_same q ∙ dropped_kept shape k e q (try_unmaps shape h c p q) (try_closes shape h c p);
    }) where
      shift : (b : Bool) → cond b (fs ++ p ∷ (ps ++ qs)) (fs ++ (ps ++ qs)) ≡ cond b (fs ++ p ∷ []) fs ++ (ps ++ qs)
      shift true = sym (append_assoc fs (p ∷ []) (ps ++ qs))
      shift false = refl

      join : (b : Bool) (xs ys : List ℕ) → xs ≡ ys → cond b (fs ++ p ∷ []) fs ++ (xs ++ qs) ≡ fs ++ (cond b (p ∷ ys) ys ++ qs)
      join true xs ys g = ap (λ zs. (fs ++ p ∷ []) ++ (zs ++ qs)) g ∙ append_assoc fs (p ∷ []) (ys ++ qs)
      join false xs ys g = ap (λ zs. fs ++ (zs ++ qs)) g

-- the front of a flight can be tried page by page, each as it would be at once
pub tries_run : (shape : Shape) (h : History) (c : ℕ) (ps qs : List ℕ) → IsLegal shape h → flight h c ≡ ps ++ qs →
    Tried shape h (h ++ map (try_event shape h c) ps) c [] ps qs
tries_run shape h c ps qs l f = tries_from shape h h c [] ps qs l f (λ q g. refl) (λ q g. refl)
