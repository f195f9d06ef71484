-- Whole scans: the pages in flight at each place of a history, and that no page is in flight where a command begins.
use Rattle.std.proofs.Common.{◌≡◌, ◌≤◌, ◌+◌, ℕ, Bool, true, false, cond, nat_eq, nat_lt, not, List, [], ◌∷◌, ◌++◌, refl, ap, sym, subst, ◌∙◌, arith, append_assoc, eq-eqb}
use Rattle.std.specs.Prelude.{⊤}
use Rattle.std.specs.List.{AllByRecursion, fold}
use Rattle.std.proofs.lemmas.List.Sums.{fold-append, fold_push}
use Rattle.thp_history.specs.declared.events.Event.{Event}
use Rattle.thp_history.specs.declared.events.Outcome.{Outcome}
use Rattle.thp_history.specs.declared.events.What.{What}
use Rattle.thp_history.specs.declared.events.What.TheVariants as what
use Rattle.thp_history.specs.declared.shape.Shape.{Shape}
use Rattle.thp_history.specs.Prelude.{flight_after, flight_by, History, by, IsLegal, flight, without}
use Rattle.thp_history.proofs.Flights.{flight_push}
use Rattle.thp_history.proofs.FlightLaws.{flight_none}
use Rattle.thp_history.proofs.LegalSteps.{legal_front}
use Rattle.thp_history.proofs.ListPlaces.{append_none}
use Rattle.thp_history.proofs.OnePlace.{once_flies, without_none}
use Rattle.thp_history.proofs.Standing.{times, times-cons}
use Rattle.thp_journal_scripts.specs.declared.folding.EventKind.{EventKind}
use Rattle.thp_journal_scripts.specs.declared.folding.EventKind.TheVariants.{Call, Take}
use Rattle.thp_journal_scripts.specs.Prelude.{pages_in_scan, kind_of, once_ended, pages_after, place_of_call, place_of_put, place_of_take, place_of_try, scan_place, scan_place_after, scan_place_of, pages_without, ScanPlace, Between, InTakes, Elsewhere}

-- ---- the pages in flight

-- these pages are in flight at the place, unless it is none of whole scans
abbrev pub HasPages : ScanPlace → List ℕ → Type 0
HasPages Elsewhere ps = ⊤
HasPages s ps = pages_in_scan s ≡ ps

-- a page that stands once leaves as the first
leaves_once : (p : ℕ) (ps : List ℕ) → times p ps ≤ 1 → pages_without p ps ≡ without p ps
leaves_once p [] once = refl
leaves_once p (q ∷ ps) once = go (nat_eq q p) refl (leaves_once p ps) where
  go : (b : Bool) → nat_eq q p ≡ b → (times p ps ≤ 1 → pages_without p ps ≡ without p ps) → cond b ps (q ∷ pages_without p ps) ≡ cond (not b) (q ∷ without p ps) (without p ps)
  go true e rest = sym (without_none p ps (omega (arith, once, times-cons p q ps, ap (λ b. cond {A = ℕ} b 1 0) e)))
  go false e rest = ap (λ qs. q ∷ qs) (rest (omega (arith, once, times-cons p q ps, ap (λ b. cond {A = ℕ} b 1 0) e)))

-- what a caller does to its own flight
own_leaves : (c p : ℕ) (ps : List ℕ) → times p ps ≤ 1 → pages_without p ps ≡ cond (nat_eq c c) (without p ps) ps
own_leaves c p ps once = leaves_once p ps once ∙ sym (ap (λ b. cond b (without p ps) ps) (eq-eqb c c refl))

freed_none : (o : Outcome) (p : ℕ) → flight_by [] p o ≡ []
freed_none x p = grind arith

-- one of two places
if_has : (b : Bool) (s : ScanPlace) (ps : List ℕ) → HasPages s ps → HasPages (cond b s Elsewhere) ps
if_has x s ps has = grind arith

-- the pages at a place are those of the flight
ended_has : (s : ScanPlace) (ps : List ℕ) → HasPages s ps → HasPages (once_ended s) ps
ended_has x ps has = grind (arith, nat_eq)

module _ (c : ℕ) (w : What) where
  -- a call where no page is in flight
  call_has : flight_after c [] c w ≡ [] → (s : ScanPlace) (ps : List ℕ) → HasPages s ps → HasPages (place_of_call s) (flight_after c ps c w)
  call_has none x ps has = grind arith

  module _ (same : (ps : List ℕ) → pages_after w ps ≡ flight_after c ps c w) where
    take_has : (s : ScanPlace) (ps : List ℕ) → HasPages s ps → HasPages (place_of_take s c w) (flight_after c ps c w)
    take_has x ps has = grind (arith, if_has, nat_eq, nat_lt)

  module _ (ps : List ℕ) (same : pages_after w ps ≡ flight_after c ps c w) where
    try_has : (s : ScanPlace) → HasPages s ps → HasPages (place_of_try s c w) (flight_after c ps c w)
    try_has x has = grind (arith, if_has, nat_eq, nat_lt)

    put_has : (s : ScanPlace) → HasPages s ps → HasPages (place_of_put s c w) (flight_after c ps c w)
    put_has x has = grind (arith, if_has, nat_eq)

-- one more event
event_has : (c : ℕ) (w : What) (s : ScanPlace) (ps : List ℕ) → ((p : ℕ) → times p ps ≤ 1) → HasPages s ps → HasPages (scan_place_of s (kind_of w) c w) (flight_after c ps c w)
event_has c x s ps once = grind (arith, call_has, freed_none, take_has, eq-eqb, try_has, own_leaves, put_has)

-- and so the flight of the only caller, after more events
more_has : (shape : Shape) (c : ℕ) (g es : History) → IsLegal shape (g ++ es) → AllByRecursion (λ (e : Event). e.caller ≡ c) es → HasPages (scan_place g) (flight g c) → HasPages (scan_place (g ++ es)) (flight (g ++ es) c)
more_has shape c g [] legal callers has = subst (λ h. HasPages (scan_place h) (flight h c)) (sym (append_none g)) has
more_has shape c g (e ∷ es) legal callers has =
    let is : by c e.what ≡ e = ap (λ d. by d e.what) (sym callers.0) in
    let one : HasPages (scan_place_of (scan_place g) (kind_of e.what) c e.what) (flight_after c (flight g c) c e.what) = event_has c e.what (scan_place g) (flight g c) (λ p. once_flies shape g c p (legal_front shape g (e ∷ es) legal)) has in
    let ended : HasPages (scan_place_after (scan_place g) (by c e.what)) (flight (g ++ by c e.what ∷ []) c) =
    subst (HasPages (scan_place_after (scan_place g) (by c e.what))) (sym (flight_push g c c e.what)) (ended_has (scan_place_of (scan_place g) (kind_of e.what) c e.what) _ one) in
    let next : HasPages (scan_place (g ++ e ∷ [])) (flight (g ++ e ∷ []) c) =
    subst (λ s. HasPages s (flight (g ++ e ∷ []) c)) (sym (fold_push scan_place_after Between g e)) (subst (λ x. HasPages (scan_place_after (scan_place g) x) (flight (g ++ x ∷ []) c)) is ended) in
    subst (λ h. HasPages (scan_place h) (flight h c)) (append_assoc g (e ∷ []) es) (more_has shape c (g ++ e ∷ []) es (subst (IsLegal shape) (sym (append_assoc g (e ∷ []) es)) legal) callers.1 next)

-- ---- where a command begins

-- no event leads back to a place of whole scans
stays_elsewhere : (k : EventKind) (c : ℕ) (w : What) → once_ended (scan_place_of Elsewhere k c w) ≡ Elsewhere
stays_elsewhere x c w = grind arith

pub all_elsewhere : (h : History) → fold scan_place_after Elsewhere h ≡ Elsewhere
all_elsewhere [] = refl
all_elsewhere (e ∷ h) = ap (λ s. fold scan_place_after s h) (stays_elsewhere (kind_of e.what) e.caller e.what) ∙ all_elsewhere h

-- the place is none of whole scans
abbrev pub IsElsewhere : ScanPlace → Type 0
IsElsewhere Elsewhere = ⊤
IsElsewhere s = ⊥

-- the last event is not a take
abbrev pub IsNoTake : ScanPlace → Type 0
IsNoTake (InTakes c ps) = ⊥
IsNoTake s = ⊤

-- a call, or a take
abbrev pub IsBeginning : EventKind → Type 0
IsBeginning (Call o) = ⊤
IsBeginning Take = ⊤
IsBeginning k = ⊥

-- a command begins between two scans, or the scans aren't whole
begins_between : (k : EventKind) (c : ℕ) (w : What) (s : ScanPlace) → IsBeginning k → IsNoTake s → (IsElsewhere (once_ended (scan_place_of s k c w)) → ⊥) → s ≡ Between
begins_between x c w y begins last whole = grind arith

-- the first event, if there is one, begins a command
abbrev pub Begins : History → Type 0
Begins [] = ⊤
Begins (e ∷ h) = IsBeginning (kind_of e.what)

elsewhere_not : (s : ScanPlace) → IsElsewhere s → s ≡ Elsewhere
elsewhere_not x is = grind arith

-- no page is in flight between two commands
between : (g more : History) → scan_place (g ++ more) ≡ Between → IsNoTake (scan_place g) → Begins more → scan_place g ≡ Between
between g x whole last begins = grind (arith, append_none, begins_between, elsewhere_not, fold-append, all_elsewhere)

pub none_between : (shape : Shape) (c : ℕ) (g more : History) → IsLegal shape g → AllByRecursion (λ (e : Event). e.caller ≡ c) g → scan_place (g ++ more) ≡ Between → IsNoTake (scan_place g) → Begins more → flight g c ≡ []
none_between shape c g more legal callers whole last begins =
    let has : HasPages (scan_place g) (flight g c) = more_has shape c [] g legal callers (sym (flight_none c)) in
    sym (subst (λ s. HasPages s (flight g c)) (between g more whole last begins) has)

-- ---- after a command

ended_no_take : (s : ScanPlace) → IsNoTake s → IsNoTake (once_ended s)
ended_no_take x last = grind (arith, nat_eq)

if_no_take : (b : Bool) (s : ScanPlace) → IsNoTake s → IsNoTake (cond b s Elsewhere)
if_no_take x s last = grind arith

-- an event that is no take
abbrev pub IsNotTake : EventKind → Type 0
IsNotTake Take = ⊥
IsNotTake k = ⊤

event_no_take : (k : EventKind) (c : ℕ) (w : What) (s : ScanPlace) → IsNotTake k → IsNoTake (scan_place_of s k c w)
event_no_take x c w y last = grind (arith, if_no_take, nat_eq, nat_lt)

-- after an event that is no take the place is not in takes
pub one_no_take : (g : History) (e : Event) → IsNotTake (kind_of e.what) → IsNoTake (scan_place (g ++ e ∷ []))
one_no_take g e last = subst IsNoTake (sym (fold_push scan_place_after Between g e)) (ended_no_take _ (event_no_take (kind_of e.what) e.caller e.what (scan_place g) last))

-- and after some of them, the last of which decides
pub some_no_take : (g es : History) → IsNoTake (scan_place g) → AllByRecursion (λ (e : Event). IsNotTake (kind_of e.what)) es → IsNoTake (scan_place (g ++ es))
some_no_take g [] last all = subst (λ h. IsNoTake (scan_place h)) (sym (append_none g)) last
some_no_take g (e ∷ es) last all = subst (λ h. IsNoTake (scan_place h)) (append_assoc g (e ∷ []) es) (some_no_take (g ++ e ∷ []) es (one_no_take g e all.0) all.1)
