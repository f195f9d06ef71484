-- Text as pieces between separators, and words as numbers.
use Rattle.std.specs.Prelude.{ℕ, ◌==◌, ◌&&◌, ◌||◌, not, nat_lt, nat_le, Bool, List, [], length, slice_index, Option, Some, None, if◌then◌else◌}
use Rattle.std.specs.List.{slice_split, list_all}
use Rattle.std.specs.Char.{is_ascii_digit}
use Rattle.std.specs.Str.Parse.{digits_value}

abbrev pub Text : Type 0
Text = List ℕ

-- the pieces of a text between the bytes `separator`: one more than there are such bytes
abbrev pub pieces_at : ℕ → Text → List Text
pieces_at separator text = slice_split (λ b. b == separator) text

-- the pieces of the rest, if there is one
abbrev pub pieces_left : ℕ → Option Text → List Text
pieces_left separator None = []
pieces_left separator (Some text) = pieces_at separator text

-- lines end with a line feed (10), so the last piece is the text after the last line feed
abbrev pub lines_of : Text → List Text
lines_of = pieces_at 10

-- words are separated by single spaces (32)
abbrev pub words_in_line : Text → List Text
words_in_line = pieces_at 32

-- a word that is not empty and has no leading zero
abbrev pub has_numeral_front : Text → Bool
has_numeral_front word = nat_lt 0 (length word) && (not (slice_index word 0 == 48) || (length word == 1))

-- digits without a leading zero
abbrev pub is_numeral : Text → Bool
is_numeral word = list_all is_ascii_digit word && has_numeral_front word

-- the decimal number of a word, if it is at most `most`
unfoldable pub number_of : ℕ → Text → Option ℕ
number_of most word = if is_numeral word && nat_le (digits_value 10 word) most then Some (digits_value 10 word) else None
