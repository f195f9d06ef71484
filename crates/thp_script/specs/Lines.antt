-- Tests of each line of a text that do not depend on its format (this project's formats).
use Rattle.std.specs.Prelude.{◌==◌, ◌&&◌, nat_le, ℕ, Bool, [], ◌∷◌, length, Option, Some, None, if◌then◌else◌}
use Rattle.std.specs.List.{list_all, list_any}
use Rattle.thp_script.specs.declared.fault.TextKind.{TextKind}
use Rattle.thp_script.specs.declared.fault.TextKind.TheVariants.{BadByte, Cut, BadWord}
use Rattle.thp_script.specs.Words.{Text, words_in_line}

-- a printable character of ASCII, 0x20 to 0x7E
abbrev pub is_printable : ℕ → Bool
is_printable b = nat_le 32 b && nat_le b 126

-- a word without a character
abbrev pub is_empty : Text → Bool
is_empty word = length word == 0

-- the error of a line whose words can't be parsed, for this reason: a bad byte takes precedence, then an empty word
abbrev pub fault_of_line : Text → TextKind → TextKind
fault_of_line line reading = if list_all is_printable line then (if list_any is_empty (words_in_line line) then BadWord else reading) else BadByte

-- the text after the last line feed: empty, or a line that is cut
unfoldable pub fault_after : Text → Option TextKind
fault_after [] = None
fault_after (b ∷ line) = Some (if list_all is_printable (b ∷ line) then Cut else BadByte)
