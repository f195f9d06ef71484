-- The script of a node's events.
use Rattle.std.specs.Prelude.{◌≡◌, ◌≤◌, ◌+◌, ◌++◌, ℕ, nat_eq, All, List, [], ◌∷◌, None, length, map, if◌then◌else◌}
use Rattle.thp_history.specs.declared.events.Event.{Event}
use Rattle.thp_history.specs.declared.events.Outcome.{Outcome}
use Rattle.thp_history.specs.declared.events.Outcome.TheVariants.{Freed}
use Rattle.thp_history.specs.declared.events.What.{What}
use Rattle.thp_history.specs.declared.events.What.TheVariants.{UnmapWhole, UnmapSub, Unpin, Taken, Split, Used, Back, Dropped}
use Rattle.thp_history.specs.Prelude.{History}
use Rattle.thp_script.specs.declared.script.Op.{Op}
use Rattle.thp_journal_scripts.specs.declared.folding.Folding.{Folding}
use Rattle.thp_journal_scripts.specs.declared.folding.Moved.{Moved}
use Rattle.thp_journal_scripts.specs.declared.open_flights.FlyingPage.{FlyingPage}
use Rattle.thp_journal_scripts.specs.declared.script_batch.ScriptBatch.{ScriptBatch}
use Rattle.thp_journal_scripts.specs.declared.script_batch.ScriptBatch.TheVariants as batch
use Rattle.thp_journal_scripts.specs.ScriptBatches.{RepeatsUpTo, TakesSome}
use Rattle.thp_journal_scripts.specs.LateScans.{moved_so_far, AreWaiting, MovedSoFar}
use Rattle.thp_journal_scripts.specs.Moving.{all_freed, all_takes, capped_count, freed_in, late_scan, pages_freed, takes_in, Interleaves, IsMovedBatch, IsOfBatch, IsScan, MovedBatch, RepeatsExcept}
use Rattle.thp_journal_scripts.specs.Repeating.{calls_in, calls_of, Repeats}
use Rattle.thp_journal_scripts.specs.WholeScans.{scan_place, IsCallOrScan, IsWholeScans, ScanPlace, Between, InTakes, InTries, InPuts, Elsewhere}

-- a list got more elements, with this property
abbrev pub HasAdded : {X : Type 0} → List X → List X → (List X → Type 0) → Type 0
HasAdded {X} old new P = (more : List X) × (new ≡ old ++ more) × P more

abbrev pub nothing_moved : Moved
nothing_moved = record { batches = 0; calls = 0; events = 0; left = 0 }

-- The commands make the calls of the history, in order. They repeat the history except the moved events. If its batches are whole
-- scans, nothing moved, and the commands are calls and scans.
pub record IsScript (h : History) (ops : List Op) (moved : Moved) : Type 0 where
  pub calls : calls_in ops ≡ calls_of h
  pub repeats : moved.events ≡ 0 → Repeats None ops h None
  pub except : RepeatsExcept h ops moved
  pub whole : IsWholeScans h → moved ≡ nothing_moved
  pub plain : IsWholeScans h → All IsCallOrScan ops

-- the same for the commands so far, except that the last events and the batches that wait can have no command yet
pub record IsFoldedTo (h : History) (ops : List Op) (batch : ScriptBatch) (moved : MovedSoFar) : Type 0 where
  pub calls : calls_in ops ≡ calls_of h
  pub kept : History
  pub away : History
  pub here : List Op
  pub late : List Op
  pub ended : List MovedBatch
  pub standing : List MovedBatch
  pub events_are : Interleaves kept away h
  pub commands_are : Interleaves here late ops
  pub repeats : RepeatsUpTo kept here batch
  pub away_are : All IsOfBatch away
  pub late_are : All IsScan late
  pub count : moved.events ≡ capped_count (length away)
  pub batches : moved.batches ≡ capped_count (length late + length moved.waiting)
  pub none_late : moved.events ≡ 0 → late ≡ []
  pub none_waits : moved.events ≡ 0 → moved.waiting ≡ []
  pub each : All IsMovedBatch ended
  pub waits : AreWaiting standing moved.waiting
  pub takes_are : takes_in away ≡ all_takes ended ++ all_takes standing
  pub scans_are : late ≡ map late_scan ended
  pub freed_are : all_freed ended + all_freed standing ≤ moved.freed
  pub called : moved.calls ≤ length (calls_of h)
  pub none_called : moved.batches ≡ 0 → moved.calls ≡ 0

abbrev pub HasCommands : History → List Op → ℕ → Folding → Type 0
HasCommands h ops freed f = IsFoldedTo h ops f.batch (moved_so_far freed f)

-- with these commands, the script so far repeats one more event
abbrev pub AddsEvent : Event → Folding → Folding → List Op → Type 0
AddsEvent e old new more = (h : History) (past : List Op) (freed : ℕ) → HasCommands h past freed old → HasCommands (h ++ e ∷ []) (past ++ more) freed new

-- the same, with the pages that the event frees
abbrev pub FollowsEvent : Event → Folding → Folding → List Op → Type 0
FollowsEvent e old new more = (h : History) (past : List Op) (freed : ℕ) → HasCommands h past freed old → HasCommands (h ++ e ∷ []) (past ++ more) (freed + pages_freed e.what) new

-- with these commands, the script so far repeats the same events
abbrev pub AddsCommands : Folding → Folding → List Op → Type 0
AddsCommands old new more = (h : History) (past : List Op) (freed : ℕ) → HasCommands h past freed old → HasCommands h (past ++ more) freed new

-- ---- whole scans

-- the batch of a script whose history is at this place
abbrev pub HasBatch : ScanPlace → ScriptBatch → Type 0
HasBatch Between b = b ≡ batch.Idle
HasBatch (InTakes c ps) b = b ≡ batch.Taking c (length ps)
HasBatch (InTries c n k ps) b = b ≡ batch.Trying c n k
HasBatch (InPuts c ps) b = (n : ℕ) × (b ≡ batch.Scanned c n)
HasBatch Elsewhere b = Unit {0}

-- the pages in flight
abbrev pub pages_in_scan : ScanPlace → List ℕ
pages_in_scan Between = []
pages_in_scan (InTakes c ps) = ps
pages_in_scan (InTries c n k ps) = ps
pages_in_scan (InPuts c ps) = ps
pages_in_scan Elsewhere = []

-- page p of the flight of this number
abbrev pub flying : ℕ → ℕ → FlyingPage
flying flight p = record { page = p; flight = flight }

-- these pages are in flight, all of one flight; no flight waits, and nothing moved
pub record IsQuiet (ps : List ℕ) (f : Folding) : Type 0 where
  pub pages_are : f.pages.items ≡ map (flying f.flight) ps
  pub none_waits : f.waiting.items ≡ []
  pub none_moved : f.moved ≡ nothing_moved
  pub last_flight : f.flights ≡ f.flight

-- the same, and the script's batch is that of this place, with some pages
pub record IsInScan (s : ScanPlace) (ps : List ℕ) (f : Folding) : Type 0 where
  pub batch_is : HasBatch s f.batch
  pub some : TakesSome f.batch
  pub quiet : IsQuiet ps f

-- the same, unless the history is at no place of whole scans
abbrev pub IsAtScan : ScanPlace → List ℕ → Folding → Type 0
IsAtScan Elsewhere ps f = Unit {0}
IsAtScan s ps f = IsInScan s ps f

abbrev pub IsAtPlace : ScanPlace → Folding → Type 0
IsAtPlace s f = IsAtScan s (pages_in_scan s) f

-- a step to another place, before the pages in flight change
abbrev pub GoesOn : (ScanPlace → ScanPlace) → Folding → Folding → Type 0
GoesOn step old new = (s : ScanPlace) → IsAtPlace s old → IsAtScan (step s) (pages_in_scan s) new

-- the commands are calls and scans, unless the history is at no place of whole scans
abbrev pub ArePlain : ScanPlace → List Op → Type 0
ArePlain s ops = (s ≡ Elsewhere → ⊥) → All IsCallOrScan ops

-- a step to another place adds only such commands
abbrev pub AddsPlain : (ScanPlace → ScanPlace) → Folding → List Op → List Op → Type 0
AddsPlain step f old new = (s : ScanPlace) → IsAtPlace s f → (step s ≡ Elsewhere → ⊥) → HasAdded old new (All IsCallOrScan)

-- the pages in flight without the first page p
abbrev pub leave : ℕ → List FlyingPage → List FlyingPage
leave p [] = []
leave p (q ∷ ps) = if nat_eq q.page p then ps else (q ∷ leave p ps)

abbrev pub leave_if_freed : Outcome → ℕ → List FlyingPage → List FlyingPage
leave_if_freed Freed p ps = leave p ps
leave_if_freed _ p ps = ps

-- the pages in flight after an event, if pages join the flight of this number
abbrev pub flying_after : What → ℕ → List FlyingPage → List FlyingPage
flying_after (UnmapWhole outcome p released) flight ps = leave_if_freed outcome p ps
flying_after (UnmapSub outcome p first count released) flight ps = leave_if_freed outcome p ps
flying_after (Unpin outcome p released) flight ps = leave_if_freed outcome p ps
flying_after (Taken p) flight ps = ps ++ flying flight p ∷ []
flying_after (Split p released) flight ps = leave p ps
flying_after (Used p) flight ps = leave p ps
flying_after (Back p) flight ps = leave p ps
flying_after (Dropped p) flight ps = leave p ps
flying_after _ flight ps = ps

-- no flight begins or waits more
pub record KeepsFlights (old new : Folding) : Type 0 where
  pub none_waits : old.waiting.items ≡ [] → new.waiting.items ≡ []
  pub flight : new.flight ≡ old.flight
  pub flights : new.flights ≡ old.flights

-- ---- the whole

-- the script so far
pub record IsFolded (h : History) (ops : List Op) (f : Folding) : Type 0 where
  pub commands : HasCommands h ops (freed_in h) f
  pub scans : IsAtPlace (scan_place h) f
  pub plain : ArePlain (scan_place h) ops

-- with these commands, it is the script of one more event
abbrev pub AddsTo : Event → Folding → Folding → List Op → Type 0
AddsTo e old new more = (h : History) (past : List Op) → IsFolded h past old → IsFolded (h ++ e ∷ []) (past ++ more) new

-- with these commands, it is a whole script
abbrev pub FoldEnds : Folding → Moved → List Op → Type 0
FoldEnds old moved more = (h : History) (past : List Op) → IsFolded h past old → IsScript h (past ++ more) moved
