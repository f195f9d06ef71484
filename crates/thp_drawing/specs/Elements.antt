-- Texts made of pieces, and the elements of a picture. A class determines the colour of an element, and the appearance of its
-- letters.
use Rattle.std.specs.Prelude.{ℕ, List, [], ◌∷◌, ◌++◌, length, take, codes, if◌then◌else◌, nat_le, decimal}
use Rattle.thp_journal_writer.specs.Prelude.{event_line}
use Rattle.thp_drawing.specs.Escapes.{escaped}
use Rattle.thp_drawing.specs.Grouped.{grouped, many}
use Rattle.thp_drawing.specs.Scales.{plus}
use Rattle.thp_drawing.specs.declared.element.Piece.{Piece}
use Rattle.thp_drawing.specs.declared.element.Piece.TheVariants.{Bytes, Escaped, EventLine, Decimal, Field, Grouped, Many}

-- a line of at most 70 letters, or the beginning of a longer one
unfoldable pub shortened : List ℕ → List ℕ
shortened line = if nat_le (length line) 70 then line else take 67 line ++ codes " .."

-- a number of a table, after a tab
abbrev pub field : ℕ → List ℕ
field n = codes "\t" ++ decimal n

abbrev pub piece_text : Piece → List ℕ
piece_text (Bytes bytes) = bytes.now
piece_text (Escaped words) = escaped words.now
piece_text (EventLine event) = shortened (event_line event.now)
piece_text (Decimal n) = decimal n
piece_text (Field n) = field n
piece_text (Grouped n) = grouped n
piece_text (Many n word) = many n word.now

-- a text, and pieces after it
abbrev pub with_pieces : List ℕ → List Piece → List ℕ
with_pieces text [] = text
with_pieces text (p ∷ more) = with_pieces (text ++ piece_text p) more

abbrev pub pieces_text : List Piece → List ℕ
pieces_text [] = []
pieces_text (p ∷ more) = with_pieces (piece_text p) more

-- a text of this class, from this position on
unfoldable pub text_at : List ℕ → ℕ → ℕ → List ℕ → List ℕ
text_at kind x y words =
    codes "<text class=\"" ++ kind ++ codes "\" x=\"" ++ decimal x ++ codes "\" y=\"" ++ decimal y ++ codes "\">"
    ++ escaped words ++ codes "</text>\n"

-- a square of this class in a panel's title, and words after it
unfoldable pub item_at : List ℕ → ℕ → List ℕ → List ℕ
item_at kind x words =
    codes "<rect class=\"" ++ kind ++ codes "\" x=\"" ++ decimal x ++ codes "\" y=\"72\" width=\"80\" height=\"80\"/>\n"
    ++ text_at (codes "ink") (plus x 130) 150 words

-- the elements up to the end of the group have this position as their origin
unfoldable pub group_start : ℕ → ℕ → List ℕ
group_start x y = codes "<g transform=\"translate(" ++ decimal x ++ codes " " ++ decimal y ++ codes ")\">\n"

abbrev pub group_end : List ℕ
group_end = codes "</g>\n"
