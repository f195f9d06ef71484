-- The number of events in a journal's text, computed from its bytes.
use Rattle.std.specs.Prelude.{◌+◌, ℕ, Bool, true, ◌&&◌, eqb, List, [], ◌∷◌, if◌then◌else◌}
use Rattle.std.specs.Char.{is_ascii_digit}

-- the number of lines of a text with an event, by the digit that they begin with; given whether the text starts at the beginning
-- of a line
abbrev pub events_from : Bool → List ℕ → ℕ
events_from begins [] = 0
events_from begins (byte ∷ bytes) = (if begins && is_ascii_digit byte then 1 else 0) + events_from (eqb byte 10) bytes

abbrev pub events_in : List ℕ → ℕ
events_in = events_from true

-- whether a line begins after the text
abbrev pub begins_after : Bool → List ℕ → Bool
begins_after begins [] = begins
begins_after begins (byte ∷ bytes) = begins_after (eqb byte 10) bytes
