-- The limits of a run and of its texts (this project's profile); each is defined here only.
use Rattle.std.specs.Prelude.{ℕ, ◌-◌, ◌^◌}
use Rattle.thp_history.specs.Prelude.{max_callers}

-- the greatest number of nodes of a run
abbrev pub max_nodes : ℕ
max_nodes = 8

-- the greatest number of workers of a run: each is a caller, and `setup` is one too
abbrev pub max_workers : ℕ
max_workers = max_callers - 1

-- the greatest number of bytes of an input, 16 MiB
abbrev pub max_input : ℕ
max_input = 16777216

-- the greatest number of bytes of a text whose bytes and lines are counted in 64 bits
abbrev pub max_counted : ℕ
max_counted = 2 ^ 64 - 2

-- the greatest number that a text may give for the first subpage of a range, and for its count
abbrev pub max_operand : ℕ
max_operand = 65535
