-- The view that contracts have of the order in which pages began to wait. No public clause cites this module.
use Rattle.std.specs.Prelude.{◌≡◌, ⊤, ℕ, ◌+◌, ◌<◌, ◌≤◌, ◌^◌, false, List, [], ◌∷◌, length, get_or, Option, Some, None, Contains}
use Rattle.thp_links.specs.declared.link.Link.{Link}
use Rattle.thp_links.specs.Prelude.{Stands}
use Rattle.thp_history.specs.declared.shape.Shape.{Shape}
use Rattle.thp_history.specs.Prelude.{History, IsLegal}
use Rattle.thp_metrics.specs.Spots.{home}
use Rattle.thp_metrics.specs.Waits.{waited, waits}

-- the blocks of the pages that wait, in the order in which they began to, and the event with which the page of each block began
pub record Arrived : Type 0 where
  pub order : List ℕ
  pub since : List ℕ

abbrev pub since_of : Arrived → ℕ → ℕ
since_of a b = get_or a.since b 0

-- the event with which the first of them began
abbrev pub first_arrival : List ℕ → List ℕ → Option ℕ
first_arrival [] since = None
first_arrival (b ∷ bs) since = Some (get_or since b 0)

abbrev pub first_since : Arrived → Option ℕ
first_since a = first_arrival a.order a.since

-- the numbers at these indices ascend
abbrev pub Ascends : List ℕ → List ℕ → Type 0
Ascends ns [] = ⊤
Ascends ns (b ∷ bs) = ((c : ℕ) → Contains bs c → get_or ns b 0 < get_or ns c 0) × Ascends ns bs

-- the links of the blocks hold the order
pub record OrderIsLinked (order : List ℕ) (since : List ℕ) (ls : List Link) : Type 0 where
  pub sizes : length since ≡ length ls
  pub stands : Stands order ls

-- the order is that in which the pages that wait after these events began to wait
pub record KeepsWaits (s : Shape) (h : History) (events : ℕ) (a : Arrived) : Type 0 where
  pub legal : IsLegal s h
  pub events_are : events ≡ length h
  pub few : length h < 2 ^ 64
  pub size : length a.since ≡ s.blocks
  -- its elements are blocks of pages that wait
  pub waiting : (b : ℕ) → Contains a.order b → (p : ℕ) × (home s h p ≡ Some b)
  -- each page that waits is in it, with the number of the event with which it began
  pub there : (p b : ℕ) → home s h p ≡ Some b → Contains a.order b
  pub came : (p b : ℕ) → home s h p ≡ Some b → since_of a b + waited s h p ≡ length h + 1
  pub idle : (p : ℕ) → waits s h p ≡ false → waited s h p ≡ 0
  pub early : (b : ℕ) → Contains a.order b → since_of a b ≤ length h
  pub from_one : (b : ℕ) → Contains a.order b → 0 < since_of a b
  -- those that began first come first
  pub in_order : Ascends a.since a.order
