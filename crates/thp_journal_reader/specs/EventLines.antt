-- Events from the words of a line: the caller, the event word, then operands (this project's journal format).
use Rattle.std.specs.Prelude.{ℕ, List, [], ◌∷◌, Result, Ok, Err}
use Rattle.thp_history.specs.declared.events.Event.{Event}
use Rattle.thp_history.specs.declared.events.Outcome.{Outcome}
use Rattle.thp_history.specs.declared.events.What.TheVariants as what
use Rattle.thp_history.specs.declared.page_call.Loss.{Loss}
use Rattle.thp_history.specs.Prelude.{by, loss_what}
use Rattle.thp_script.specs.declared.fault.TextKind.{TextKind}
use Rattle.thp_script.specs.declared.fault.TextKind.TheVariants.{BadWord, BadCount}
use Rattle.thp_script.specs.Prelude.{number_up_to, one_word, two_words, ◌>>=◌, Text}
use Rattle.thp_journal_reader.specs.declared.event_line.EventWord.{EventWord}
use Rattle.thp_journal_reader.specs.declared.event_line.EventWord.TheVariants.{OfPage, OfRange, OfLoss, UnmapSub, Split, Close}
use Rattle.thp_journal_reader.specs.declared.event_line.PageWord.{PageWord}
use Rattle.thp_journal_reader.specs.declared.event_line.RangeWord.{RangeWord}
use Rattle.thp_journal_writer.specs.declared.version.Version.{Version}
use Rattle.thp_journal_writer.specs.Prelude.{version_limits}
use Rattle.thp_journal_reader.specs.EventWords.{event_word, outcome_of, page_what, range_what}
use Rattle.thp_journal_reader.specs.SetTexts.{set_of_text}

-- a caller that a version allows
abbrev pub caller_number : Version → Text → Result ℕ TextKind
caller_number v = number_up_to (version_limits v).last_caller

-- a page by its number
abbrev pub page_number : Text → Result ℕ TextKind
page_number = number_up_to 18446744073709551615

-- the first of a range of subpages, or their number
abbrev pub range_number : Text → Result ℕ TextKind
range_number = number_up_to 65535

-- no word
abbrev pub no_words : List Text → Result Unit TextKind
no_words [] = Ok tt
no_words _ = Err BadCount

-- the three words, if there are exactly three
abbrev pub three_words : List Text → Result (Text × Text × Text) TextKind
three_words (a ∷ b ∷ c ∷ []) = Ok (a, b, c)
three_words _ = Err BadCount

-- an outcome's word and one more: the outcome is tested before the number of words
unfoldable pub outcome_and_word : List Text → Result (Outcome × Text) TextKind
outcome_and_word [] = Err BadCount
outcome_and_word (name ∷ words) = do
  outcome ← outcome_of name
  word ← one_word words
  Ok (outcome, word)

-- a page, an outcome and a word
abbrev pub loss_words : List Text → Result (Text × Outcome × Text) TextKind
loss_words [] = Err BadCount
loss_words (page ∷ words) = do
  ending ← outcome_and_word words
  Ok (page, ending.0, ending.1)

-- a page, a range, an outcome and a word
abbrev pub range_loss_words : List Text → Result (Text × Text × Text × Outcome × Text) TextKind
range_loss_words (page ∷ first ∷ count ∷ words) = do
  ending ← outcome_and_word words
  Ok (page, first, count, ending.0, ending.1)
range_loss_words _ = Err BadCount

-- `CALLER WORD PAGE`
unfoldable pub page_event : Version → PageWord → Text → List Text → Result Event TextKind
page_event v name caller_word words = do
  word ← one_word words
  caller ← caller_number v caller_word
  page ← page_number word
  Ok (by caller (page_what name page))

-- `CALLER WORD PAGE FIRST COUNT`
unfoldable pub range_event : Version → RangeWord → Text → List Text → Result Event TextKind
range_event v name caller_word words = do
  word ← three_words words
  caller ← caller_number v caller_word
  page ← page_number word.0
  first ← range_number word.1
  count ← range_number word.2
  Ok (by caller (range_what name page first count))

-- `CALLER WORD PAGE OUTCOME SET`
unfoldable pub loss_event : Version → Loss → Text → List Text → Result Event TextKind
loss_event v name caller_word words = do
  word ← loss_words words
  caller ← caller_number v caller_word
  page ← page_number word.0
  released ← set_of_text word.2
  Ok (by caller (loss_what name page word.1 released))

-- `CALLER unmapsub PAGE FIRST COUNT OUTCOME SET`
unfoldable pub unmap_event : Version → Text → List Text → Result Event TextKind
unmap_event v caller_word words = do
  word ← range_loss_words words
  caller ← caller_number v caller_word
  page ← page_number word.0
  first ← range_number word.1
  count ← range_number word.2
  released ← set_of_text word.4
  Ok (by caller (what.UnmapSub word.3 page first count released))

-- `CALLER split PAGE SET`
unfoldable pub split_event : Version → Text → List Text → Result Event TextKind
split_event v caller_word words = do
  word ← two_words words
  caller ← caller_number v caller_word
  page ← page_number word.0
  released ← set_of_text word.1
  Ok (by caller (what.Split page released))

-- `CALLER close`
unfoldable pub close_event : Version → Text → List Text → Result Event TextKind
close_event v caller_word words = do
  nothing ← no_words words
  caller ← caller_number v caller_word
  Ok (by caller what.Close)

-- an event by its word, its caller and its operands
abbrev pub event_by : Version → EventWord → Text → List Text → Result Event TextKind
event_by v (OfPage name) caller words = page_event v name caller words
event_by v (OfRange name) caller words = range_event v name caller words
event_by v (OfLoss name) caller words = loss_event v name caller words
event_by v UnmapSub caller words = unmap_event v caller words
event_by v Split caller words = split_event v caller words
event_by v Close caller words = close_event v caller words

-- an event after its caller: its word is the first
abbrev pub event_of : Version → Text → List Text → Result Event TextKind
event_of v caller [] = Err BadWord
event_of v caller (name ∷ words) = event_word v name >>= λ word. event_by v word caller words
