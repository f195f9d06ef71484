-- Numbers and their positions. All are whole, and none exceeds 128 bits.
use Rattle.std.specs.Prelude.{ℕ, zero, suc, ◌+◌, ◌*◌, ◌-◌, ◌/◌, ◌^◌, min, max, List, [], ◌∷◌, if◌then◌else◌, nat_le}

-- the sum, saturating at the greatest 128-bit number
unfoldable pub plus : ℕ → ℕ → ℕ
plus a b = min (a + b) (2 ^ 128 - 1)

-- the sum of all, in the same way
abbrev pub plus_all : List ℕ → ℕ
plus_all [] = 0
plus_all (n ∷ ns) = plus n (plus_all ns)

-- the product, in the same way
unfoldable pub times : ℕ → ℕ → ℕ
times a b = min (a * b) (2 ^ 128 - 1)

-- the height of n, on a scale where `most` is `high`, rounded down
unfoldable pub scaled : ℕ → ℕ → ℕ → ℕ
scaled high n most = times high n / max most 1

-- how often a step fits into n
unfoldable pub steps_in : ℕ → ℕ → ℕ
steps_in step n = n / max step 1

-- the first step that fits into n at most six times, or n itself; steps are k units from this one on, twice these, and `more`
-- times these; each unit is twice `more` times the one before
abbrev pub step_among : ℕ → ℕ → ℕ → ℕ → ℕ
step_among more zero unit n = n
step_among more (suc k) unit n =
    if nat_le n (times 6 unit) then unit
    else if nat_le n (times 6 (times 2 unit)) then times 2 unit
    else if nat_le n (times 6 (times more unit)) then times more unit
    else step_among more k (times (times 2 more) unit) n

-- the step of decimal numbers up to n: 1, 2, 5, 10, 20, 50 ..
unfoldable pub round_step : ℕ → ℕ
round_step n = step_among 5 11 1 n

-- the step of numbers of frames, of which a page has a power of two: 1, 2, 4, 8 ..
unfoldable pub doubled_step : ℕ → ℕ
doubled_step n = step_among 4 12 1 n
