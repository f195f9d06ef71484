-- A caller's flight, event by event.
use Rattle.std.specs.Prelude.{ℕ, cond, nat_eq, List, [], ◌∷◌, ◌++◌}
use Rattle.thp_history.specs.declared.events.Outcome.{Outcome}
use Rattle.thp_history.specs.declared.events.Outcome.TheVariants.{Freed}
use Rattle.thp_history.specs.declared.events.What.{What}
use Rattle.thp_history.specs.declared.events.What.TheVariants.{UnmapWhole, UnmapSub, Unpin, Taken, Split, Used, Back, Dropped}
use Rattle.thp_history.specs.Places.{without}

-- a flight after an outcome of page p, whichever caller caused it: a freed page leaves
abbrev pub flight_by : List ℕ → ℕ → Outcome → List ℕ
flight_by ps p Freed = without p ps
flight_by ps p _ = ps

-- the flight of caller c after an event of caller d. A page that c takes joins at the end. A page leaves if c splits it, finds it
-- in use, puts it back or drops it, or if any caller frees it
abbrev pub flight_after : ℕ → List ℕ → ℕ → What → List ℕ
flight_after c ps d (UnmapWhole outcome p released) = flight_by ps p outcome
flight_after c ps d (UnmapSub outcome p first count released) = flight_by ps p outcome
flight_after c ps d (Unpin outcome p released) = flight_by ps p outcome
flight_after c ps d (Taken p) = cond (nat_eq d c) (ps ++ p ∷ []) ps
flight_after c ps d (Split p released) = cond (nat_eq d c) (without p ps) ps
flight_after c ps d (Used p) = cond (nat_eq d c) (without p ps) ps
flight_after c ps d (Back p) = cond (nat_eq d c) (without p ps) ps
flight_after c ps d (Dropped p) = cond (nat_eq d c) (without p ps) ps
flight_after c ps d _ = ps
