-- The script of a history whose batches are whole scans: nothing waits and nothing moves.
use Rattle.std.proofs.Common.{◌≡◌, ◌∙◌, ℕ, Bool, true, false, cond, List, [], ◌∷◌, ◌++◌, ◌||◌, length, map, nat_eq, nat_lt, ap, arith, eq-eqb, length-append, refl, subst, sym}
use Rattle.std.specs.List.{list_any}
use Rattle.std.proofs.lemmas.Bool.Decides.{nat_tests}
use Rattle.std.proofs.lemmas.List.Sums.{fold_push}
use Rattle.thp_history.specs.declared.events.Event.{Event}
use Rattle.thp_history.specs.declared.events.Outcome.{Outcome}
use Rattle.thp_history.specs.declared.events.What.{What}
use Rattle.thp_history.specs.declared.events.What.TheVariants as what
use Rattle.thp_history.specs.Prelude.{History}
use Rattle.thp_script.specs.declared.script.Op.{Op}
use Rattle.thp_journal_scripts.specs.Prelude.{EventKind, Folding, FlyingPage, ScriptBatch, settled, Completes, EndsPuts, EndsTakes, EndsTries, IsIncomplete, PutsMore, TakesMore, TakesSome, TriesMore, AddsPlain, flying, flying_after, leave, leave_if_freed, nothing_moved, pages_in_scan, IsAtScan, IsAtPlace, IsQuiet, KeepsFlights, kind_of, once_ended, pages_after, IsCallOrScan, place_of_call, place_of_put, place_of_take, place_of_try, scan_place, scan_place_after, scan_place_of, pages_without, ScanPlace, Between, InTakes, Elsewhere}
use Rattle.thp_journal_scripts.specs.declared.folding.EventKind.TheVariants as kind
use Rattle.thp_journal_scripts.specs.declared.script_batch.ScriptBatch.TheVariants as batch

-- an equal script is at the same place
pub same_at : (s : ScanPlace) (ps : List ℕ) (a b : Folding) → b ≡ a → IsAtScan s ps a → IsAtScan s ps b
same_at s ps a b same at = subst (λ f. IsAtScan s ps f) (sym same) at

at_if : (b : Bool) (s : ScanPlace) (ps : List ℕ) (f : Folding) → (b ≡ true → IsAtScan s ps f) → IsAtScan (cond b s Elsewhere) ps f
at_if b s ps f at = (elim b as (λ v. (v ≡ true → IsAtScan s ps f) → IsAtScan (cond v s Elsewhere) ps f) [ true ↦ λ a. a refl | false ↦ λ a. tt ]) at

-- another batch
quiet_with : (ps : List ℕ) (f : Folding) (after : ScriptBatch) → IsQuiet ps f → IsQuiet ps (record f { batch = after })
quiet_with ps f after quiet = record { pages_are = quiet.pages_are; none_waits = quiet.none_waits; none_moved = quiet.none_moved; last_flight = quiet.last_flight }

-- ---- pages of a batch

takes_some : (b : ScriptBatch) (by : ℕ) (after : ScriptBatch) → TakesMore b by after → TakesSome after
takes_some x by after more = grind arith

tries_some : (b : ScriptBatch) (by : ℕ) (after : ScriptBatch) → TriesMore b by after → TakesSome b → TakesSome after
tries_some x by after more some = grind arith

puts_some : (b : ScriptBatch) (by : ℕ) (after : ScriptBatch) → PutsMore b by after → TakesSome b → TakesSome after
puts_some x by after more some = grind arith

-- ---- events that end whole scans

-- the place is not among whole scans
not_place : (b : Bool) (s : ScanPlace) → (b ≡ true → ⊥) → cond b s Elsewhere ≡ Elsewhere
not_place x s never = grind arith

pub calls_shut : (s : ScanPlace) → (place_of_call s ≡ Elsewhere → ⊥) → s ≡ Between
calls_shut x ne = grind arith

module _ (old : Folding) (by : ℕ) where
  pub takes_shut : (p : ℕ) → EndsTakes old.batch by → (s : ScanPlace) → IsAtPlace s old → (place_of_take s by (what.Taken p) ≡ Elsewhere → ⊥) → s ≡ Between
  takes_shut p ends x at ne = grind (arith, not_place, nat_eq, nat_lt, nat_tests)

  pub tries_shut : (w : What) → EndsTries old.batch by → (s : ScanPlace) → IsAtPlace s old → place_of_try s by w ≡ Elsewhere
  tries_shut w ends x at = grind (arith, not_place, nat_eq, nat_tests, nat_lt)

  pub puts_shut : (w : What) → EndsPuts old.batch by → (s : ScanPlace) → IsAtPlace s old → place_of_put s by w ≡ Elsewhere
  puts_shut w ends x at = grind (arith, not_place, nat_eq, nat_tests)

-- ---- calls

pub calls_on : (old new : Folding) → (old.batch ≡ batch.Idle → old.waiting.items ≡ [] → new ≡ old) → (s : ScanPlace) → IsAtPlace s old → IsAtScan (place_of_call s) (pages_in_scan s) new
calls_on old new same x at = grind (arith, same_at)

pub settled_idle : (a m d : Folding) → m ≡ record a { batch = settled a.batch } → (m.waiting.items ≡ [] → d ≡ m) → a.batch ≡ batch.Idle → a.waiting.items ≡ [] → d ≡ a
settled_idle a m d rest same idle none = grind arith

-- ---- takes

module _ (old : Folding) (by : ℕ) where
  pub takes_more : (after : ScriptBatch) (p : ℕ) → TakesMore old.batch by after → (s : ScanPlace) → IsAtPlace s old → IsAtScan (place_of_take s by (what.Taken p)) (pages_in_scan s) (record old { batch = after })
  takes_more after p more x at = grind (arith, at_if, nat_eq, nat_lt, length-append, takes_some, quiet_with)

  -- the batch takes no more
  takes_end : (new : Folding) (p : ℕ) → EndsTakes old.batch by → (old.batch ≡ batch.Idle → IsAtPlace Between old → IsAtScan (InTakes by (p ∷ [])) [] new) → (s : ScanPlace) → IsAtPlace s old → IsAtScan (place_of_take s by (what.Taken p)) (pages_in_scan s) new
  takes_end new p ends begins x at = grind (arith, at_if, nat_eq, nat_lt, nat_tests)

  pub takes_first : (m : Folding) (x p : ℕ) → EndsTakes old.batch by → (old.batch ≡ batch.Idle → m ≡ old) → (s : ScanPlace) → IsAtPlace s old → IsAtScan (place_of_take s by (what.Taken p)) (pages_in_scan s) (record m { flight = x; flights = x; batch = batch.Taking by 1 })
  takes_first m x p ends same = grind (arith, takes_end, same_at)

  pub takes_not : (m new : Folding) (p : ℕ) → EndsTakes old.batch by → (old.batch ≡ batch.Idle → m ≡ old) → (m.batch ≡ batch.Idle → m.waiting.items ≡ [] → ⊥) → (s : ScanPlace) → IsAtPlace s old → IsAtScan (place_of_take s by (what.Taken p)) (pages_in_scan s) new
  takes_not m new p ends same busy = grind (arith, takes_end, same_at)

  -- ---- tries

  pub tries_more : (after : ScriptBatch) (w : What) → TriesMore old.batch by after → (s : ScanPlace) → IsAtPlace s old → IsAtScan (place_of_try s by w) (pages_in_scan s) (record old { batch = after })
  tries_more after w more x at = grind (arith, at_if, nat_eq, tries_some, quiet_with, nat_lt)

  -- the batch has no more tries
  pub tries_end : (new : Folding) (w : What) → EndsTries old.batch by → (s : ScanPlace) → IsAtPlace s old → IsAtScan (place_of_try s by w) (pages_in_scan s) new
  tries_end new w ends s at = subst (λ t. IsAtScan t (pages_in_scan s) new) (sym (tries_shut old by w ends s at)) tt

  -- ---- pages put back

  pub puts_more : (after : ScriptBatch) (w : What) → PutsMore old.batch by after → (s : ScanPlace) → IsAtPlace s old → IsAtScan (place_of_put s by w) (pages_in_scan s) (record old { batch = after })
  puts_more after w more x at = grind (arith, at_if, nat_eq, puts_some, quiet_with)

  pub puts_end : (new : Folding) (w : What) → EndsPuts old.batch by → (s : ScanPlace) → IsAtPlace s old → IsAtScan (place_of_put s by w) (pages_in_scan s) new
  puts_end new w ends s at = subst (λ t. IsAtScan t (pages_in_scan s) new) (sym (puts_shut old by w ends s at)) tt

-- ---- any event

-- an event of one kind
pub goes_take : (old new : Folding) (by : ℕ) (w : What) → kind_of w ≡ kind.Take → ((p : ℕ) → (s : ScanPlace) → IsAtPlace s old → IsAtScan (place_of_take s by (what.Taken p)) (pages_in_scan s) new) → (s : ScanPlace) → IsAtPlace s old → IsAtScan (scan_place_of s (kind_of w) by w) (pages_in_scan s) new
goes_take old new by x is goes s at = grind arith

-- the same of commands
pub plain_take : (old : Folding) (o p : List Op) (by : ℕ) (w : What) → kind_of w ≡ kind.Take → ((q : ℕ) → AddsPlain (λ s. place_of_take s by (what.Taken q)) old o p) → AddsPlain (λ s. scan_place_of s (kind_of w) by w) old o p
plain_take old o p by x is plain = grind arith

pub plain_by : (old : Folding) (o p : List Op) (by : ℕ) (w : What) (k : EventKind) → kind_of w ≡ k → AddsPlain (λ s. scan_place_of s k by w) old o p → AddsPlain (λ s. scan_place_of s (kind_of w) by w) old o p
plain_by old o p by w k is plain = subst (λ j. AddsPlain (λ s. scan_place_of s j by w) old o p) (sym is) plain

pub goes_by : (old new : Folding) (by : ℕ) (w : What) (k : EventKind) → kind_of w ≡ k → ((s : ScanPlace) → IsAtPlace s old → IsAtScan (scan_place_of s k by w) (pages_in_scan s) new) → (s : ScanPlace) → IsAtPlace s old → IsAtScan (scan_place_of s (kind_of w) by w) (pages_in_scan s) new
goes_by old new by w k is goes s at = subst (λ j. IsAtScan (scan_place_of s j by w) (pages_in_scan s) new) (sym is) (goes s at)

-- ---- the pages in flight

leave_flying : (n p : ℕ) (ps : List ℕ) → leave p (map (flying n) ps) ≡ map (flying n) (pages_without p ps)
leave_flying n p [] = refl
leave_flying n p (q ∷ ps) = elim (nat_eq q p) as (λ b. cond b (map (flying n) ps) (flying n q ∷ leave p (map (flying n) ps)) ≡ map (flying n) (cond b ps (q ∷ pages_without p ps))) [
  | true ↦ refl
  | false ↦ ap (λ qs. flying n q ∷ qs) (leave_flying n p ps)
]

join_flying : (n p : ℕ) (ps : List ℕ) → map (flying n) ps ++ flying n p ∷ [] ≡ map (flying n) (ps ++ p ∷ [])
join_flying n p [] = refl
join_flying n p (q ∷ ps) = ap (λ qs. flying n q ∷ qs) (join_flying n p ps)

pub flying_some : (n q : ℕ) (ps : List ℕ) → list_any (λ (f : FlyingPage). nat_eq f.flight n) (map (flying n) (q ∷ ps)) ≡ true
flying_some n q ps = ap (λ b. b || list_any (λ (f : FlyingPage). nat_eq f.flight n) (map (flying n) ps)) (eq-eqb n n refl)

freed_none : (o : Outcome) (p : ℕ) → leave_if_freed o p [] ≡ []
freed_none x p = grind arith

-- the pages follow an event, and nothing else changes
module _ (w : What) (old new : Folding) (same : new.batch ≡ old.batch) (moved : new.moved ≡ old.moved) (pages : new.pages.items ≡ flying_after w old.flights old.pages.items) (keeps : KeepsFlights old new) where
  quiet_after : (ps qs : List ℕ) → ((n : ℕ) → flying_after w n (map (flying n) ps) ≡ map (flying n) qs) → IsQuiet ps old → IsQuiet qs new
  quiet_after ps qs flies quiet = grind arith

  at_after : (ps qs : List ℕ) → ((n : ℕ) → flying_after w n (map (flying n) ps) ≡ map (flying n) qs) → (s : ScanPlace) → IsAtScan s ps old → IsAtScan s qs new
  at_after ps qs flies x at = grind (arith, quiet_after)

  if_after : (b : Bool) (s : ScanPlace) (ps : List ℕ) → ((n : ℕ) → flying_after w n (map (flying n) ps) ≡ map (flying n) (pages_in_scan s)) → IsAtScan (cond b s Elsewhere) ps old → IsAtPlace (cond b s Elsewhere) new
  if_after b s ps flies = elim b as (λ v. IsAtScan (cond v s Elsewhere) ps old → IsAtPlace (cond v s Elsewhere) new) [ true ↦ at_after ps (pages_in_scan s) flies s | false ↦ λ at. tt ]

  call_after : ((n : ℕ) → flying_after w n [] ≡ []) → (s : ScanPlace) → IsAtScan (place_of_call s) (pages_in_scan s) old → IsAtPlace (place_of_call s) new
  call_after flies x at = grind (arith, at_after)

  module _ (by : ℕ) (flies : (n : ℕ) (ps : List ℕ) → flying_after w n (map (flying n) ps) ≡ map (flying n) (pages_after w ps)) where
    take_after : (s : ScanPlace) → IsAtScan (place_of_take s by w) (pages_in_scan s) old → IsAtPlace (place_of_take s by w) new
    take_after x at = grind (arith, at_after, if_after, nat_eq, nat_lt)

    try_after : (s : ScanPlace) → IsAtScan (place_of_try s by w) (pages_in_scan s) old → IsAtPlace (place_of_try s by w) new
    try_after x at = grind (arith, if_after, nat_eq, nat_lt)

    put_after : (s : ScanPlace) → IsAtScan (place_of_put s by w) (pages_in_scan s) old → IsAtPlace (place_of_put s by w) new
    put_after x at = grind (arith, if_after, nat_eq)

pub event_after : (w : What) (old new : Folding) → new.batch ≡ old.batch → new.moved ≡ old.moved → new.pages.items ≡ flying_after w old.flights old.pages.items → KeepsFlights old new → (by : ℕ) (s : ScanPlace) → IsAtScan (scan_place_of s (kind_of w) by w) (pages_in_scan s) old → IsAtPlace (scan_place_of s (kind_of w) by w) new
event_after x old new same moved pages keeps by = grind (arith, call_after, freed_none, take_after, join_flying, try_after, leave_flying, put_after)

-- ---- the end of a scan

no_pages_left : (f : Folding) (q : ℕ) (ps : List ℕ) → IsQuiet (q ∷ ps) f → list_any (λ (q : FlyingPage). nat_eq q.flight f.flight) f.pages.items ≡ false → ⊥
no_pages_left f q ps quiet none = let some : list_any (λ (q : FlyingPage). nat_eq q.flight f.flight) f.pages.items ≡ true = ap (λ fs. list_any (λ (q : FlyingPage). nat_eq q.flight f.flight) fs) quiet.pages_are ∙ flying_some f.flight q ps in cc

pages_left : (f : Folding) → IsQuiet [] f → list_any (λ (q : FlyingPage). nat_eq q.flight f.flight) f.pages.items ≡ true → ⊥
pages_left f quiet some = let none : list_any (λ (q : FlyingPage). nat_eq q.flight f.flight) f.pages.items ≡ false = ap (λ fs. list_any (λ (q : FlyingPage). nat_eq q.flight f.flight) fs) quiet.pages_are in cc

ended_if : (b : Bool) (s : ScanPlace) (f : Folding) → (b ≡ true → IsAtPlace Between f) → (b ≡ false → IsAtPlace s f) → IsAtPlace (cond b Between s) f
ended_if b s f ends goes = (elim b as (λ v. (v ≡ true → IsAtPlace Between f) → (v ≡ false → IsAtPlace s f) → IsAtPlace (cond v Between s) f) [ true ↦ λ e g. e refl | false ↦ λ e g. g refl ]) ends goes

module _ (f : Folding) where
  -- the batch is complete, and no page of it is left
  pub scan_ends : (o : Op) → Completes f.batch o → list_any (λ (q : FlyingPage). nat_eq q.flight f.flight) f.pages.items ≡ false → (s : ScanPlace) → IsAtPlace s f → IsAtPlace (once_ended s) (record f { batch = batch.Idle })
  scan_ends o done none x at = grind (arith, ended_if, nat_eq, quiet_with, eq-eqb, no_pages_left)

  -- a page of it is left
  pub scan_stays : list_any (λ (q : FlyingPage). nat_eq q.flight f.flight) f.pages.items ≡ true → (s : ScanPlace) → IsAtPlace s f → IsAtPlace (once_ended s) f
  scan_stays some x at = grind (arith, pages_left)

  -- it is incomplete
  pub scan_incomplete : IsIncomplete f.batch → (s : ScanPlace) → IsAtPlace s f → IsAtPlace (once_ended s) f
  scan_incomplete part x at = grind (arith, ended_if, nat_eq, nat_tests)

-- what completes a batch at a place of whole scans is a scan of some pages
pub scan_is_plain : (f : Folding) (o : Op) → Completes f.batch o → (s : ScanPlace) → IsAtPlace s f → (once_ended s ≡ Elsewhere → ⊥) → IsCallOrScan o
scan_is_plain f o done x at ne = grind arith

-- ---- the whole

pub place_more : (h : History) (e : Event) → scan_place (h ++ e ∷ []) ≡ scan_place_after (scan_place h) e
place_more h e = fold_push scan_place_after Between h e

-- no event leads back to whole scans
stays_by : (k : EventKind) (c : ℕ) (w : What) → once_ended (scan_place_of Elsewhere k c w) ≡ Elsewhere
stays_by x c w = grind arith

pub stays_elsewhere : (e : Event) → scan_place_after Elsewhere e ≡ Elsewhere
stays_elsewhere e = stays_by (kind_of e.what) e.caller e.what

-- where a script is after an event
pub scans_more : (h : History) (e : Event) (f : Folding) → IsAtPlace (scan_place_after (scan_place h) e) f → IsAtPlace (scan_place (h ++ e ∷ [])) f
scans_more h e f at = subst (λ s. IsAtPlace s f) (sym (place_more h e)) at

-- where no flight waits
pub still_at : (old new : Folding) → (old.waiting.items ≡ [] → new ≡ old) → (s : ScanPlace) → IsAtPlace s old → IsAtPlace s new
still_at old new same x at = grind (arith, same_at)

-- the end of a script whose batches are whole scans
pub nothing_moves : (a m d : Folding) (left : ℕ) → IsAtPlace Between a → (a.batch ≡ batch.Idle → m.moved ≡ a.moved) → (m.moved.events ≡ 0 → d ≡ m) → left ≡ length a.pages.items → record d.moved { left = left } ≡ nothing_moved
nothing_moves a m d left at closes writes none = grind arith
