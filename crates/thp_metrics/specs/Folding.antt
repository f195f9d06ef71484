-- The content of columns that are merged in pairs. No public clause cites this module.
use Rattle.std.specs.Prelude.{◌≡◌, ◌⊎◌, ⊤, ℕ, ◌+◌, ◌*◌, ◌^◌, ◌<◌, ◌≤◌, List, [], ◌∷◌, ◌++◌, length, map, vec_capacity, flat_map}
use Rattle.thp_metrics.specs.declared.columns.Folded.{Folded}
use Rattle.thp_metrics.specs.declared.numbers.Numbers.{Numbers}
use Rattle.thp_metrics.specs.Columns.{column_of, max_columns, sums_of}
use Rattle.thp_metrics.specs.Joining.{AreWithin, ColumnsAreLow}

-- each list has w elements
abbrev pub AreFull : {X : Type 0} → ℕ → List (List X) → Type 0
AreFull w [] = ⊤
AreFull w (xs ∷ more) = (length xs ≡ w) × AreFull w more

abbrev pub all_of : {X : Type 0} → List (List X) → List X
all_of xss = flat_map (λ xs. xs) xss

-- a page's stage is counted once for each prefix, so no sum is large
abbrev pub HasLowSums : List Numbers → Type 0
HasLowSums ns = AreWithin (2 ^ 64 * length ns) (sums_of ns)

abbrev pub AllLow : List (List Numbers) → Type 0
AllLow [] = ⊤
AllLow (ns ∷ more) = HasLowSums ns × AllLow more

-- the columns are those of these prefixes, one after the other
pub record Folds (past : List Numbers) (f : Folded) : Type 0 where
  pub full : List (List Numbers)
  pub last : List Numbers
  pub together : all_of full ++ last ≡ past
  pub each : AreFull f.width full
  pub some : 0 < length last
  pub room : length last + f.room ≡ f.width
  pub full_are : f.full.items ≡ map column_of full
  pub last_is : f.last ≡ column_of last
  pub few : length full < max_columns
  pub capacity : vec_capacity f.full ≡ max_columns
  pub low : AllLow full
  pub last_low : HasLowSums last
  pub power : ℕ
  pub power_is : f.width ≡ 2 ^ power
  -- columns of half the width would not suffice
  pub needed : (f.width ≡ 1) ⊎ (max_columns ≤ 2 * length full)

-- there is room for one more prefix
pub record HasRoomForOne (f : Folded) : Type 0 where
  pub few : length f.full.items < max_columns
  pub capacity : vec_capacity f.full ≡ max_columns
  pub some : 0 < f.width
  pub low : ColumnsAreLow f.full.items
  pub last_low : AreWithin (2 ^ 126) f.last.pages
  pub width : f.room ≡ 0 → (length f.full.items + 1) * f.width < 2 ^ 64
