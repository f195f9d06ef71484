-- The number of pages that callers have in their batches. No public clause cites this module.
use Rattle.std.specs.Prelude.{ℕ, ◌+◌, ◌-◌, ◌^◌, ◌<◌, ⊤, List, Option, Some, None, get_or, set, nat_lt, if◌then◌else◌}
use Rattle.thp_history.specs.Prelude.{sum_below}

abbrev pub count_at : List ℕ → ℕ → ℕ
count_at counts c = get_or counts c 0

-- the callers with a count, caller c as 2 ^ c
abbrev pub callers_in : List ℕ → ℕ
callers_in counts = sum_below 64 (λ c. if nat_lt 0 (count_at counts c) then 2 ^ c else 0)

-- one page less of this caller
abbrev pub count_gone : List ℕ → Option ℕ → List ℕ
count_gone counts None = counts
count_gone counts (Some c) = if nat_lt c 64 then set counts c (count_at counts c - 1) else counts

-- one page more
abbrev pub count_more : List ℕ → Option ℕ → List ℕ
count_more counts None = counts
count_more counts (Some c) = if nat_lt c 64 then set counts c (count_at counts c + 1) else counts

-- there is a page to remove
abbrev pub MayGo : List ℕ → Option ℕ → Type 0
MayGo counts None = ⊤
MayGo counts (Some c) = c < 64 → 0 < count_at counts c

-- in addition there is room for one more page
abbrev pub MayCount : List ℕ → Option ℕ → Type 0
MayCount counts None = ⊤
MayCount counts (Some c) = c < 64 → count_at counts c + 1 < 2 ^ 64
