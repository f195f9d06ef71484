-- Fast parsing of events at the beginning of a text, in one pass over its bytes. No public clause cites this module.
use Rattle.std.specs.Prelude.{◌≡◌, ◌<◌, ℕ, Bool, List, [], ◌∷◌, ◌++◌, length, Result, Ok}
use Rattle.thp_history.specs.declared.events.Event.{Event}
use Rattle.thp_history.specs.declared.events.Outcome.{Outcome}
use Rattle.thp_script.specs.declared.fault.TextKind.{TextKind}
use Rattle.thp_script.specs.Prelude.{Text, lines_of, words_in_line}
use Rattle.thp_journal_reader.specs.declared.event_line.EventWord.{EventWord}
use Rattle.thp_journal_reader.specs.declared.line.Line.TheVariants.{Happened}
use Rattle.thp_journal_writer.specs.declared.version.Version.{Version}
use Rattle.thp_journal_reader.specs.EventLines.{caller_number}
use Rattle.thp_journal_reader.specs.EventWords.{event_word, outcome_of}
use Rattle.thp_journal_reader.specs.JournalLines.{line_of}
use Rattle.thp_journal_reader.specs.SetTexts.{set_of_text}

-- the text's first line has these words, and `rest` follows it
pub record FastJournalLine (words : List Text) (text rest : Text) : Type 0 where
  pub line : Text
  pub words_are : words_in_line line ≡ words
  pub lines : lines_of text ≡ line ∷ lines_of rest
  pub shorter : length rest < length text

-- the text begins with the word of this event in a version and a space, and continues with `rest`
pub record FastWord (v : Version) (text : Text) (word : EventWord) (rest : Text) : Type 0 where
  pub name : Text
  pub one_word : words_in_line name ≡ name ∷ []
  pub one_line : lines_of name ≡ name ∷ []
  pub reads : event_word v name ≡ Ok word
  pub stands : text ≡ name ++ 32 ∷ rest

-- the text begins with the word of this outcome and a space, and continues with `rest`
pub record FastOutcome (text : Text) (outcome : Outcome) (rest : Text) : Type 0 where
  pub word : Text
  pub one_word : words_in_line word ≡ word ∷ []
  pub one_line : lines_of word ≡ word ∷ []
  pub reads : outcome_of word ≡ Ok outcome
  pub stands : text ≡ word ++ 32 ∷ rest

-- the text's first line is the text of this set, and `rest` follows it
pub record FastSet (set : List Bool) (text rest : Text) : Type 0 where
  pub word : Text
  pub line : FastJournalLine (word ∷ []) text rest
  pub reads : set_of_text word ≡ Ok set

-- the text's first line has words that parse as this event after each word of its caller
pub record FastEventOperands (v : Version) (reading : Text → List Text → Result Event TextKind) (caller : ℕ) (text : Text) (event : Event) (rest : Text) : Type 0 where
  pub words : List Text
  pub line : FastJournalLine words text rest
  pub reads : (w : Text) → caller_number v w ≡ Ok caller → reading w words ≡ Ok event

-- the text's first line is this event, and `rest` follows it
pub record FastEvent (v : Version) (text : Text) (event : Event) (rest : Text) : Type 0 where
  pub line : Text
  pub lines : lines_of text ≡ line ∷ lines_of rest
  pub shorter : length rest < length text
  pub says : Ok (Happened event) ≡ line_of v line
