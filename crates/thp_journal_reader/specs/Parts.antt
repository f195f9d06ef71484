-- Journals whose text arrives in parts (this project's journal format).
use Rattle.std.specs.Prelude.{ℕ, ◌+◌, List, [], ◌∷◌, ◌++◌, Result, Ok}
use Rattle.thp_script.specs.Prelude.{◌>>=◌, Fault, result_after, TextSoFar, Text, lines_of}
use Rattle.thp_journal_reader.specs.declared.journals.ReadJournals.{ReadJournals}
use Rattle.thp_journal_reader.specs.declared.journals.ReadNode.{ReadNode}
use Rattle.thp_journal_reader.specs.declared.line.Line.{Line}
use Rattle.thp_journal_reader.specs.declared.line.Place.{Place}
use Rattle.thp_journal_reader.specs.Journals.{lines_from}
use Rattle.thp_journal_reader.specs.Reading.{with_line}

-- The state of reading a text of journals: the nodes; the position after the last line; and the text read so far.
pub record JournalReadSoFar : Type 0 where
  pub nodes : List ReadNode
  pub place : Place
  pub text : TextSoFar

abbrev pub so_far : List ReadNode → Place → TextSoFar → JournalReadSoFar
so_far nodes place text = record { nodes = nodes; place = place; text = text }

-- the nodes after further lines, the first of which has this number
abbrev pub with_lines : ℕ → List ReadNode → List Line → List ReadNode
with_lines number nodes [] = nodes
with_lines number nodes (line ∷ lines) = with_lines (number + 1) (with_line number nodes line) lines

-- the journals of these nodes
abbrev pub journals_in : List ReadNode → ReadJournals
journals_in nodes = record { nodes = nodes }

-- the journals of these nodes and of the lines of a text, from this position and this line on, or its first error
unfoldable pub result_of_lines : List ReadNode → Place → ℕ → Text → Result ReadJournals Fault
result_of_lines nodes place line text = lines_from line place (lines_of text) >>= λ lines. Ok (journals_in (with_lines line nodes lines))

-- the journals in the text so far and the following text, or its first error
abbrev pub result_with : JournalReadSoFar → Text → Result ReadJournals Fault
result_with r more = result_after r.text more (result_of_lines r.nodes r.place r.text.line (r.text.begun ++ more))
