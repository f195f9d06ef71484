-- The content of a journal's line, and its allowed positions (this project's journal format).
use Rattle.std.specs.Prelude.{◌==◌, ◌^◌, ◌-◌, ◌+◌, ◌&&◌, not, nat_lt, nat_le, ℕ, Bool, true, false, List, [], ◌∷◌, Option, Some, None, Result, Ok, Err, codes, if◌then◌else◌, bytes_eq}
use Rattle.std.specs.List.{list_all, list_any}
use Rattle.thp_history.specs.declared.shape.Shape.{Shape}
use Rattle.thp_history.specs.Prelude.{max_blocks, max_order, min_order}
use Rattle.thp_script.specs.declared.fault.TextKind.{TextKind}
use Rattle.thp_script.specs.declared.fault.TextKind.TheVariants.{BadByte, BadWord, BadNumber, BadOrder}
use Rattle.thp_script.specs.Prelude.{max_nodes, number_up_to, one_word, is_empty, is_printable, ◌>>=◌, Text, words_in_line}
use Rattle.thp_journal_reader.specs.declared.line.Accepted.{Accepted}
use Rattle.thp_journal_reader.specs.declared.line.Accepted.TheVariants.{UpToVersion3, EveryVersion, ForScripts}
use Rattle.thp_journal_reader.specs.declared.line.Line.{Line}
use Rattle.thp_journal_reader.specs.declared.line.Line.TheVariants.{Head, Node, Happened, End}
use Rattle.thp_journal_reader.specs.declared.line.Place.{Place}
use Rattle.thp_journal_reader.specs.declared.line.Place.TheVariants.{Start, Inside, Ended}
use Rattle.thp_journal_writer.specs.declared.version.Version.{Version}
use Rattle.thp_journal_writer.specs.declared.version.Version.TheVariants.{Plain, Orders, Underused, Large}
use Rattle.thp_journal_writer.specs.Prelude.{includes, version_limits, version_number}
use Rattle.thp_journal_reader.specs.EventLines.{event_of, no_words}

-- the version by its number
unfoldable pub parsed_version : Text → Result Version TextKind
parsed_version word =
    if bytes_eq word (codes "1") then Ok Plain
    else if bytes_eq word (codes "2") then Ok Orders
    else if bytes_eq word (codes "3") then Ok Underused
    else if bytes_eq word (codes "4") then Ok Large
    else Err BadNumber

-- `thp-journal VERSION`, after its first word
unfoldable pub head_of : List Text → Result Line TextKind
head_of words = do
  word ← one_word words
  version ← parsed_version word
  Ok (Head version)

-- an operand, then this word, then others; the others are returned with it
abbrev pub before : Text → List Text → Result (Text × List Text) TextKind
before key (operand ∷ word ∷ words) = if bytes_eq word key then Ok (operand, words) else Err BadWord
before key _ = Err BadWord

-- a number within bounds
abbrev pub number_between : ℕ → ℕ → Text → Result ℕ TextKind
number_between least most word = do
  number ← number_up_to most word
  if nat_le least number then Ok number else Err BadNumber

-- `off`, or a number of subpages less than that of a page
unfoldable pub node_threshold_of : ℕ → Text → Result (Option ℕ) TextKind
node_threshold_of order word =
    if bytes_eq word (codes "off") then Ok None
    else (number_up_to (2 ^ order - 1) word >>= λ threshold. Ok (Some threshold))

-- node N, counted from 0, of this shape, which has at least one block; a version limits both numbers
abbrev pub node_with : Version → Text → Text → ℕ → Option ℕ → Result Line TextKind
node_with v number_word blocks_word order underused = do
  number ← number_up_to (version_limits v).last_node number_word
  blocks ← number_between 1 (version_limits v).most_blocks blocks_word
  Ok (Node number (record { blocks = blocks; order = order; underused = underused }))

-- `node N blocks B` of version 1, after its first word: the pages are of the greatest order
unfoldable pub plain_node : List Text → Result Line TextKind
plain_node words = do
  number ← before (codes "blocks") words
  blocks ← one_word number.1
  node_with Plain number.0 blocks max_order None

-- `node N blocks B order O` of version 2
unfoldable pub ordered_node : List Text → Result Line TextKind
ordered_node words = do
  number ← before (codes "blocks") words
  blocks ← before (codes "order") number.1
  order_word ← one_word blocks.1
  order ← number_between min_order max_order order_word
  node_with Orders number.0 blocks.0 order None

-- `node N blocks B order O underused T` of version 3 or 4; T may be `off`
unfoldable pub underused_node : Version → List Text → Result Line TextKind
underused_node v words = do
  number ← before (codes "blocks") words
  blocks ← before (codes "order") number.1
  order_word ← before (codes "underused") blocks.1
  threshold_word ← one_word order_word.1
  order ← number_between min_order max_order order_word.0
  threshold ← node_threshold_of order threshold_word
  node_with v number.0 blocks.0 order threshold

-- the line of a node, after its first word
abbrev pub node_of : Version → List Text → Result Line TextKind
node_of Plain words = plain_node words
node_of Orders words = ordered_node words
node_of Underused words = underused_node Underused words
node_of Large words = underused_node Large words

-- `end`, after its first word
abbrev pub end_line : List Text → Result Line TextKind
end_line words = no_words words >>= λ nothing. Ok End

-- an event, by its caller's word and the others
abbrev pub parsed_event_line : Version → Text → List Text → Result Line TextKind
parsed_event_line v caller words = event_of v caller words >>= λ event. Ok (Happened event)

-- a line by its first word and the others
unfoldable pub line_by : Version → Text → List Text → Result Line TextKind
line_by v name words =
    if bytes_eq name (codes "thp-journal") then head_of words
    else if bytes_eq name (codes "node") then node_of v words
    else if bytes_eq name (codes "end") then end_line words
    else parsed_event_line v name words

abbrev pub line_by_words : Version → List Text → Result Line TextKind
line_by_words v [] = Err BadWord
line_by_words v (name ∷ words) = line_by v name words

-- the content of a whole line in a version, regardless of its position; the errors are tested in their order
unfoldable pub line_of : Version → Text → Result Line TextKind
line_of v text =
    if not (list_all is_printable text) then Err BadByte
    else if list_any is_empty (words_in_line text) then Err BadWord
    else line_by_words v (words_in_line text)

-- before the first line with the version, lines are read as those of version 1
abbrev pub version_at : Place → Version
version_at (Start accepted) = Plain
version_at (Inside accepted version nodes) = version
version_at (Ended accepted version) = version

-- the journals that the reader of the text accepts
abbrev pub accepted_at : Place → Accepted
accepted_at (Start accepted) = accepted
accepted_at (Inside accepted version nodes) = accepted
accepted_at (Ended accepted version) = accepted

-- a reader accepts journals of this version
abbrev pub accepts_version : Accepted → Version → Bool
accepts_version UpToVersion3 version = includes Underused version
accepts_version accepted version = true

-- a reader accepts node N of this shape
abbrev pub accepts_node : Accepted → ℕ → Shape → Bool
accepts_node ForScripts number shape = nat_lt number max_nodes && nat_le shape.blocks max_blocks
accepts_node accepted number shape = true

-- a reader accepts the line
abbrev pub accepts : Accepted → Line → Bool
accepts accepted (Head version) = accepts_version accepted version
accepts accepted (Node number shape) = accepts_node accepted number shape
accepts accepted line = true

-- the text can be one of this version
abbrev pub may_have_version : Place → Version → Bool
may_have_version (Start accepted) v = accepts_version accepted v
may_have_version (Inside accepted version nodes) v = version_number v == version_number version
may_have_version (Ended accepted version) v = version_number v == version_number version

-- The version is the first line, and the only one of its kind. Nodes are numbered in order; events and the end follow a node;
-- nothing follows the end.
abbrev pub line_may_stand : Place → Line → Bool
line_may_stand (Start accepted) (Head version) = true
line_may_stand (Start accepted) _ = false
line_may_stand (Inside accepted version nodes) (Head again) = false
line_may_stand (Inside accepted version nodes) (Node number shape) = number == nodes
line_may_stand (Inside accepted version nodes) (Happened event) = nat_lt 0 nodes
line_may_stand (Inside accepted version nodes) End = nat_lt 0 nodes
line_may_stand (Ended accepted version) line = false

-- the position after an allowed line: after so many nodes, or at the end
abbrev pub place_after : Place → Line → Place
place_after place (Head version) = Inside (accepted_at place) version 0
place_after (Inside accepted version nodes) (Node number shape) = Inside accepted version (number + 1)
place_after place (Node number shape) = place
place_after place (Happened event) = place
place_after place End = Ended (accepted_at place) (version_at place)

-- the line, if the reader accepts it and its position is allowed
abbrev pub placed_line : Place → Line → Result Line TextKind
placed_line place line =
    if not (accepts (accepted_at place) line) then Err BadNumber
    else if line_may_stand place line then Ok line
    else Err BadOrder

-- the content of a whole line at its position
unfoldable pub line_in : Place → Text → Result Line TextKind
line_in place text = line_of (version_at place) text >>= placed_line place
