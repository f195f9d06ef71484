-- Journals as text: the events of each node, or the first error (this project's journal format).
use Rattle.std.specs.Prelude.{◌≤◌, ◌+◌, ℕ, nat_lt, All, List, [], ◌∷◌, length, Option, Some, None, Result, Ok, Err, if◌then◌else◌}
use Rattle.thp_history.specs.declared.shape.Shape.{Shape}
use Rattle.thp_history.specs.Prelude.{with_least_blocks, History, IsShape}
use Rattle.thp_script.specs.declared.fault.TextKind.{TextKind}
use Rattle.thp_script.specs.declared.fault.TextKind.TheVariants.{TooLong, Cut}
use Rattle.thp_script.specs.Prelude.{max_counted, max_input, fault_after, ◌>>=◌, Fault, on_line, Text, lines_of}
use Rattle.thp_journal_reader.specs.declared.journals.ReadJournals.{ReadJournals}
use Rattle.thp_journal_reader.specs.declared.journals.ReadNode.{ReadNode}
use Rattle.thp_journal_reader.specs.declared.line.Line.{Line}
use Rattle.thp_journal_reader.specs.declared.line.Line.TheVariants.{Node, Happened}
use Rattle.thp_journal_reader.specs.declared.line.Place.{Place}
use Rattle.thp_journal_reader.specs.declared.line.Place.TheVariants.{Start, Ended}
use Rattle.thp_journal_reader.specs.declared.line.Accepted.{Accepted}
use Rattle.thp_journal_reader.specs.declared.line.Accepted.TheVariants.{UpToVersion3, EveryVersion, ForScripts}
use Rattle.thp_journal_reader.specs.JournalLines.{line_in, place_after}

-- if nothing follows the last line, the journal has ended, or is cut there
abbrev pub end_at : ℕ → Place → Result (List Line) Fault
end_at number (Ended accepted version) = Ok []
end_at number _ = Err (number, Cut)

abbrev pub end_of_text : ℕ → Place → Option TextKind → Result (List Line) Fault
end_of_text number place None = end_at number place
end_of_text number place (Some kind) = Err (number, kind)

-- the content of the lines from number `number` on, from this position on
unfoldable pub lines_from : ℕ → Place → List Text → Result (List Line) Fault
lines_from number place [] = Ok []
lines_from number place (behind ∷ []) = end_of_text number place (fault_after behind)
lines_from number place (text ∷ next ∷ texts) = do
  line ← on_line number (line_in place text)
  lines ← lines_from (number + 1) (place_after place line) (next ∷ texts)
  Ok (line ∷ lines)

-- the events before the next node's line
abbrev pub node_events : List Line → History
node_events [] = []
node_events (Happened event ∷ lines) = event ∷ node_events lines
node_events (Node number shape ∷ lines) = []
node_events (_ ∷ lines) = node_events lines

-- a node whose events begin on this line; each new page has the least block that no page holds
abbrev pub node_journal : ℕ → Shape → History → ReadNode
node_journal first_line shape events = record { shape = shape; first_line = first_line; events = with_least_blocks shape events }

-- the nodes of the lines from number `number` on
abbrev pub nodes_of : ℕ → List Line → List ReadNode
nodes_of number [] = []
nodes_of number (Node n shape ∷ lines) = node_journal (number + 1) shape (node_events lines) ∷ nodes_of (number + 1) lines
nodes_of number (_ ∷ lines) = nodes_of (number + 1) lines

-- the journals in the lines
unfoldable pub journals_with : List Line → ReadJournals
journals_with lines = record { nodes = nodes_of 1 lines }

-- The journals in a text of at most so many bytes, as far as they are accepted, or its first error.
unfoldable pub journals_accepted : Accepted → ℕ → Text → Result ReadJournals Fault
journals_accepted accepted most text =
    if nat_lt most (length text) then Err (0, TooLong)
    else (lines_from 1 (Start accepted) (lines_of text) >>= λ lines. Ok (journals_with lines))

-- The journals of any version in a text of at most so many bytes, or its first error.
abbrev pub journals_within : ℕ → Text → Result ReadJournals Fault
journals_within = journals_accepted EveryVersion

-- The journals in an input, which are of version 1 to 3, or its first error.
abbrev pub journals_of : Text → Result ReadJournals Fault
journals_of = journals_accepted UpToVersion3 max_input

-- The journals of any version and length whose nodes a script can have, or the first error of the text.
abbrev pub journals_for_scripts : Text → Result ReadJournals Fault
journals_for_scripts = journals_accepted ForScripts max_counted

-- a node of version 1 to 3 can have this shape, and its lines have numbers below 2^32
pub record IsNodeJournal (node : ReadNode) : Type 0 where
  pub shape : IsShape node.shape
  pub lines : node.first_line + length node.events ≤ max_input + 1

-- the same for each node
abbrev pub AreJournals : ReadJournals → Type 0
AreJournals journals = All IsNodeJournal journals.nodes
