-- Words in a text of XML.
use Rattle.std.specs.Prelude.{◌≡◌, ℕ, Bool, false, ◌||◌, List, [], ◌∷◌, codes, if◌then◌else◌, nat_eq}
use Rattle.std.specs.List.{flat_map, list_any}

-- a byte; `&`, `<`, `>` and `"` have names
abbrev pub escaped_byte : ℕ → List ℕ
escaped_byte b =
    if nat_eq b 38 then codes "&amp;"
    else if nat_eq b 60 then codes "&lt;"
    else if nat_eq b 62 then codes "&gt;"
    else if nat_eq b 34 then codes "&quot;"
    else b ∷ []

abbrev pub escaped : List ℕ → List ℕ
escaped words = flat_map escaped_byte words

-- a byte at which a text of XML, or a value in quotes, ends
abbrev pub ends_words : ℕ → Bool
ends_words b = nat_eq b 60 || nat_eq b 62 || nat_eq b 34

-- escaped words never end the text that contains them
abbrev pub EscapedStaysWithin : Type 0
EscapedStaysWithin = (words : List ℕ) → list_any ends_words (escaped words) ≡ false
