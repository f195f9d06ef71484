-- The effect of a put back, page by page. No public clause cites this module.
use Rattle.std.specs.Prelude.{◌≡◌, ℕ, Bool, List, [], ◌∷◌, ◌++◌, map, take, Option, Some}
use Rattle.thp_history.specs.declared.events.Event.{Event}
use Rattle.thp_history.specs.declared.shape.Shape.{Shape}
use Rattle.thp_history.specs.Prelude.{History, flight, return_event, goes_back}
use Rattle.thp_live_pages.specs.Prelude.{block_of}

-- the flight of caller c begins with the pages of these blocks, in order
pub record BeginsIn (h : History) (c : ℕ) (bs : List ℕ) : Type 0 where
  pub others : List (Option ℕ)
  pub blocks : map (block_of h) (flight h c) ≡ map (λ b. Some b) bs ++ others

-- the return of the first n pages of the flight
abbrev pub return_first : Shape → History → ℕ → ℕ → List Event
return_first s h c n = map (return_event s h c) (take n (flight h c))

-- whether the first page of the flight goes back to the queue
pub record OneBack (s : Shape) (h : History) (c : ℕ) (back : Bool) : Type 0 where
  pub page : ℕ
  pub alone : take 1 (flight h c) ≡ page ∷ []
  pub goes : back ≡ goes_back s h page
