-- The pages that wait and were found pinned.
use Rattle.std.specs.Prelude.{◌≡◌, ℕ, ◌+◌, ◌<◌, Bool, true, false, nat_eq, List, length, All, AllPairs, Contains}
use Rattle.thp_history.specs.declared.events.What.{What}
use Rattle.thp_history.specs.declared.events.What.TheVariants.{Pinned}
use Rattle.thp_history.specs.declared.shape.Shape.{Shape}
use Rattle.thp_history.specs.Prelude.{History, count_of}
use Rattle.thp_metrics.specs.declared.waiting.StuckPage.{StuckPage}
use Rattle.thp_metrics.specs.Waits.{waits, waited}

-- the event finds page p pinned
abbrev pub finds_pinned : ℕ → What → Bool
finds_pinned p (Pinned q) = nat_eq p q
finds_pinned p _ = false

-- the number of times that page p was found pinned
abbrev pub finds : History → ℕ → ℕ
finds h p = count_of (finds_pinned p) h

-- the page waits and was found pinned that often, and has waited without interruption since the event of this number
pub record IsStuck (s : Shape) (h : History) (x : StuckPage) : Type 0 where
  pub waiting : waits s h x.page ≡ true
  pub some : 0 < x.finds
  pub finds_are : x.finds ≡ finds h x.page
  pub since_is : x.since + waited s h x.page ≡ length h + 1

-- they are all those pages, ordered by the length of their wait
pub record AreStuck (s : Shape) (h : History) (xs : List StuckPage) : Type 0 where
  pub each : All (IsStuck s h) xs
  pub all : (p : ℕ) → waits s h p ≡ true → 0 < finds h p → (x : StuckPage) × (x.page ≡ p) × Contains xs x
  pub in_order : AllPairs (λ (x y : StuckPage). x.since < y.since) xs
