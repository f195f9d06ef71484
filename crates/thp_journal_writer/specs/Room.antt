-- The space that appending to a text needs.
use Rattle.std.specs.Prelude.{ℕ, ◌+◌, ◌<◌, ◌≤◌, Result, Ok, Err, Vec, vec_len, vec_capacity}

-- at most n bytes were appended to a text, whose capacity did not shrink; or that failed, and there was no room for n bytes
abbrev pub Takes : {X Z E : Type 0} → ℕ → Vec X Z → Vec X Z → Result (Unit {0}) E → Type 0
Takes n old new (Ok _) = (vec_len new ≤ vec_len old + n) × (vec_capacity old ≤ vec_capacity new)
Takes n old new (Err _) = vec_capacity old < vec_len old + n

-- a 64-bit number, and the following byte
abbrev pub number_room : ℕ
number_room = 21

-- a set of 512 subpages, and the following byte: at most 8 bytes for each subpage, as in `508-509,`
abbrev pub set_room : ℕ
set_room = 4096

-- an outcome, a space, a set and a line feed
abbrev pub outcome_room : ℕ
outcome_room = 4103
