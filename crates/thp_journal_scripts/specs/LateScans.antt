-- What a script has moved so far, and the batches that wait for their scan. No public clause cites this module.
use Rattle.std.specs.Prelude.{◌≡◌, ◌≤◌, ◌+◌, ◌-◌, ◌++◌, ℕ, All, List, [], ◌∷◌, length}
use Rattle.thp_history.specs.Prelude.{max_batch}
use Rattle.thp_journal_scripts.specs.declared.folding.EventKind.{EventKind}
use Rattle.thp_journal_scripts.specs.declared.folding.EventKind.TheVariants.{Take}
use Rattle.thp_journal_scripts.specs.declared.folding.Folding.{Folding}
use Rattle.thp_journal_scripts.specs.declared.folding.Moved.{Moved}
use Rattle.thp_journal_scripts.specs.declared.open_flights.WaitingFlight.{WaitingFlight}
use Rattle.thp_journal_scripts.specs.Moving.{capped_count, MovedBatch}
use Rattle.thp_journal_scripts.specs.Repeating.{IsBy}

-- the events, batches and calls moved so far, and the flights that wait; and how many pages were freed
pub record MovedSoFar : Type 0 where
  pub events : ℕ
  pub batches : ℕ
  pub calls : ℕ
  pub waiting : List WaitingFlight
  pub freed : ℕ

abbrev pub moved_so_far : ℕ → Folding → MovedSoFar
moved_so_far freed f = record { events = f.moved.events; batches = f.moved.batches; calls = f.moved.calls; waiting = f.waiting.items; freed = freed }

-- a batch waits: a flight of so many pages of this caller, besides those that were freed
pub record Waits (batch : MovedBatch) (flight : WaitingFlight) : Type 0 where
  pub takes_are : All (IsBy flight.caller Take) batch.takes
  pub some : 1 ≤ length batch.takes
  pub in_range : flight.taken ≤ max_batch
  pub count : flight.taken + batch.freed ≡ length batch.takes

abbrev pub AreWaiting : List MovedBatch → List WaitingFlight → Type 0
AreWaiting [] [] = Unit {0}
AreWaiting (b ∷ bs) (f ∷ fs) = Waits b f × AreWaiting bs fs
AreWaiting _ _ = ⊥

-- the last flight that waits is this caller's, and got one more page
pub record ExtendsLast (c : ℕ) (old new : List WaitingFlight) : Type 0 where
  pub front : List WaitingFlight
  pub last : WaitingFlight
  pub is_own : last.caller ≡ c
  pub has_room : last.taken + 1 ≤ max_batch
  pub was : old ≡ front ++ last ∷ []
  pub now : new ≡ front ++ record last { taken = last.taken + 1 } ∷ []

-- one more page is taken into a batch that waits, the last or a new one
pub data TakesLate (c : ℕ) (old new : MovedSoFar) : Type 0 where
  begins_late : (flight : ℕ) → new.waiting ≡ old.waiting ++ record { caller = c; taken = 1; flight = flight } ∷ [] → new.batches ≡ capped_count (old.batches + 1) → TakesLate c old new
  extends_late : ExtendsLast c old.waiting new.waiting → new.batches ≡ old.batches → TakesLate c old new

-- one more event of this kind is moved
abbrev pub MovesEvent : ℕ → EventKind → MovedSoFar → MovedSoFar → Type 0
MovesEvent c Take old new = (new.events ≡ capped_count (old.events + 1)) × (new.freed ≡ old.freed) × (new.calls ≡ old.calls) × TakesLate c old new
MovesEvent c kind old new = new ≡ record old { events = capped_count (old.events + 1) }

-- the first flight that waits has so many pages
pub record IsNextScan (count : ℕ) (waiting : List WaitingFlight) : Type 0 where
  pub flight : WaitingFlight
  pub others : List WaitingFlight
  pub waiting_are : waiting ≡ flight ∷ others
  pub count_is : count ≡ flight.taken

-- the first batch waits no more
abbrev pub EndsWaiting : ℕ → MovedSoFar → MovedSoFar → Type 0
EndsWaiting count old new = (first : WaitingFlight) × (old ≡ record new { waiting = first ∷ new.waiting }) × (count ≡ first.taken)

-- so many pages were freed, at most one, and if one, then maybe of a batch that waits
pub data LosesPage (freed : ℕ) (old new : List WaitingFlight) : Type 0 where
  loses_none : new ≡ old → LosesPage freed old new
  loses_one : (front back : List WaitingFlight) (flight : WaitingFlight) → freed ≡ 1 → old ≡ front ++ flight ∷ back → new ≡ front ++ record flight { taken = flight.taken - 1 } ∷ back → LosesPage freed old new

-- once no batch waits
abbrev pub MovesBy : Moved → MovedSoFar → Type 0
MovesBy moved so_far = (moved.events ≡ so_far.events) × (moved.batches ≡ so_far.batches) × (moved.calls ≡ so_far.calls) × ((so_far.events ≡ 0 → ⊥) → so_far.waiting ≡ [])

-- a call is counted at most once, and not if no batch waits
abbrev pub CountsCall : MovedSoFar → MovedSoFar → Type 0
CountsCall old new = (new ≡ record old { calls = new.calls }) × (new.calls ≤ old.calls + 1) × (old.waiting ≡ [] → new.calls ≡ old.calls)
