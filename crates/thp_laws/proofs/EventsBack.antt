-- The line of an event is read back as that event, but for a new page's block.
use Rattle.std.proofs.Common.{◌≡◌, ◌<◌, ◌≤◌, ◌^◌, ℕ, Bool, true, false, cond, not, List, [], ◌∷◌, length, Ok, Err, refl, ap, ◌∙◌, arith, codes, ok_or, decimal}
use Rattle.std.specs.List.{list_all, list_any}
use Rattle.std.proofs.lemmas.Bool.{and_from}
use Rattle.thp_history.specs.declared.events.Event.{Event}
use Rattle.thp_history.specs.declared.events.Outcome.{Outcome}
use Rattle.thp_history.specs.declared.events.What.{What}
use Rattle.thp_history.specs.declared.events.What.TheVariants.{Alloc, MapWhole, UnmapWhole, MapSub, UnmapSub, SplitPmd, Pin, Unpin, Write, Zero, Taken, Split, Pinned, Used, Back, Dropped, Close}
use Rattle.thp_history.specs.Prelude.{event_with, with_block, by, loss_what}
use Rattle.thp_script.specs.declared.fault.TextKind.TheVariants.{BadByte, BadNumber, BadWord}
use Rattle.thp_script.specs.Prelude.{number_up_to, is_empty, is_printable, ◌>>=◌, Text, words_in_line}
use Rattle.thp_script.proofs.NumberLaws.{number_of-decimal}
use Rattle.thp_journal_writer.specs.EventLines as written
use Rattle.thp_journal_writer.specs.Prelude.{event_words, outcome_word, what_words, HasSmallNumbers, set_text, version_limits}
use Rattle.thp_journal_reader.specs.declared.event_line.EventWord.{EventWord}
use Rattle.thp_journal_reader.specs.declared.event_line.EventWord.TheVariants as word
use Rattle.thp_history.specs.declared.page_call.Loss.{Loss}
use Rattle.thp_journal_reader.specs.declared.event_line.PageWord.{PageWord}
use Rattle.thp_journal_reader.specs.declared.event_line.RangeWord.{RangeWord}
use Rattle.thp_journal_reader.specs.declared.line.Line.TheVariants.{Happened}
use Rattle.thp_journal_writer.specs.declared.version.Version.{Version}
use Rattle.thp_journal_reader.specs.Prelude.{caller_number, page_number, range_number, page_event, range_event, loss_event, unmap_event, split_event, close_event, outcome_and_word, event_by, event_of, common_word, later_word, event_word, outcome_of, page_what, range_what, line_by, line_by_words}
use Rattle.thp_journal_reader.specs.JournalLines as read
use Rattle.thp_laws.specs.Reportable.{IsOfVersion, IsReportable}
use Rattle.thp_laws.proofs.PlainWords.{decimal_plain, is_plain, line_printable, no_number, none_empty, words_back}
use Rattle.thp_laws.proofs.SetsBack.{set_back, set_plain}

-- a line of plain words says what its words say
pub line_of_words : (v : Version) (name : Text) (words : List Text) → list_all is_plain (name ∷ words) ≡ true → read.line_of v (written.spaced_line (name ∷ words)) ≡ line_by v name words
unfolding read.line_of
line_of_words v name words plain =
    let line : Text = written.spaced_line (name ∷ words) in
    let printable : list_all is_printable line ≡ true = line_printable (name ∷ words) plain in
    let back : words_in_line line ≡ name ∷ words = words_back name words plain in
    let some : list_any is_empty (words_in_line line) ≡ false = ap (list_any is_empty) back ∙ none_empty (name ∷ words) plain in
    ap (λ b. cond (not b) (Err BadByte) (cond (list_any is_empty (words_in_line line)) (Err BadWord) (line_by_words v (words_in_line line)))) printable
    ∙ ap (λ b. cond b (Err BadWord) (line_by_words v (words_in_line line))) some
    ∙ ap (line_by_words v) back

-- a line that begins with a number reports an event
line_by_number : (v : Version) (n : ℕ) (words : List Text) → n < 2 ^ 64 → line_by v (decimal n) words ≡ read.parsed_event_line v (decimal n) words
unfolding line_by
line_by_number v n words lt = grind (arith, no_number)

-- ---- operands

-- a number within a bound
pub number_back : (most n : ℕ) → n ≤ most → most < 2 ^ 64 → number_up_to most (decimal n) ≡ Ok n
number_back most n le lt = ap (λ o. ok_or o BadNumber) (number_of-decimal most n le lt)

-- a caller
few_callers : (v : Version) → (version_limits v).last_caller < 2 ^ 16
few_callers x = grind arith

caller_back : (v : Version) (c : ℕ) → c ≤ (version_limits v).last_caller → caller_number v (decimal c) ≡ Ok c
caller_back v c le = number_back (version_limits v).last_caller c le (let few = few_callers v in omega arith)

-- a page
page_back : (p : ℕ) → p < 2 ^ 64 → page_number (decimal p) ≡ Ok p
page_back p lt = number_back 18446744073709551615 p (omega arith) (omega arith)

-- the first of a range of subpages, or how many they are
range_back : (n : ℕ) → n < 2 ^ 16 → range_number (decimal n) ≡ Ok n
range_back n lt = number_back 65535 n (omega arith) (omega arith)

-- an outcome's word is read as that outcome
outcome_back : (o : Outcome) → outcome_of (outcome_word o) ≡ Ok o
unfolding outcome_of
outcome_back x = grind arith

-- and is a plain word
outcome_plain : (o : Outcome) → is_plain (outcome_word o) ≡ true
outcome_plain x = grind arith

-- an outcome, and a word behind it
ending_back : (o : Outcome) (word : Text) → outcome_and_word (outcome_word o ∷ word ∷ []) ≡ Ok (o, word)
unfolding outcome_and_word
ending_back o word = rw (outcome_back o) refl

-- ---- events, by the words behind their name

-- an event that names a page alone
page_event_back : (v : Version) (name : PageWord) (c p : ℕ) → c ≤ (version_limits v).last_caller → p < 2 ^ 64 → page_event v name (decimal c) (decimal p ∷ []) ≡ Ok (by c (page_what name p))
unfolding page_event
page_event_back v name c p small lt = rw (caller_back v c small, page_back p lt) refl

-- one that names a range of its subpages
range_event_back : (v : Version) (name : RangeWord) (c p first count : ℕ) → c ≤ (version_limits v).last_caller → p < 2 ^ 64 → first < 2 ^ 16 → count < 2 ^ 16 → range_event v name (decimal c) (decimal p ∷ decimal first ∷ decimal count ∷ []) ≡ Ok (by c (range_what name p first count))
unfolding range_event
range_event_back v name c p first count small lt low high = rw (caller_back v c small, page_back p lt, range_back first low, range_back count high) refl

-- one that states what became of the page and what it gave back
loss_event_back : (v : Version) (name : Loss) (o : Outcome) (c p : ℕ) (set : List Bool) → c ≤ (version_limits v).last_caller → p < 2 ^ 64 → length set ≡ 512 → loss_event v name (decimal c) (decimal p ∷ outcome_word o ∷ set_text set ∷ []) ≡ Ok (by c (loss_what name p o set))
unfolding loss_event
loss_event_back v name o c p set small lt full = rw (ending_back o (set_text set), caller_back v c small, page_back p lt, set_back set full) refl

-- an unmap of a range
unmap_event_back : (v : Version) (o : Outcome) (c p first count : ℕ) (set : List Bool) → c ≤ (version_limits v).last_caller → p < 2 ^ 64 → first < 2 ^ 16 → count < 2 ^ 16 → length set ≡ 512 → unmap_event v (decimal c) (decimal p ∷ decimal first ∷ decimal count ∷ outcome_word o ∷ set_text set ∷ []) ≡ Ok (by c (UnmapSub o p first count set))
unfolding unmap_event
unmap_event_back v o c p first count set small lt low high full = rw (ending_back o (set_text set), caller_back v c small, page_back p lt, range_back first low, range_back count high, set_back set full) refl

-- a split
split_event_back : (v : Version) (c p : ℕ) (set : List Bool) → c ≤ (version_limits v).last_caller → p < 2 ^ 64 → length set ≡ 512 → split_event v (decimal c) (decimal p ∷ set_text set ∷ []) ≡ Ok (by c (Split p set))
unfolding split_event
split_event_back v c p set small lt full = rw (caller_back v c small, page_back p lt, set_back set full) refl

-- a close
close_event_back : (v : Version) (c : ℕ) → c ≤ (version_limits v).last_caller → close_event v (decimal c) [] ≡ Ok (by c Close)
unfolding close_event
close_event_back v c small = rw (caller_back v c small) refl

-- ---- event words

-- a word of every version
known : (v : Version) (name : Text) (word : EventWord) → common_word name ≡ Ok word → later_word name ≡ Ok word → event_word v name ≡ Ok word
known x name word common later = grind arith

-- the event by its word
event_by_word : (v : Version) (name caller : Text) (words : List Text) (word : EventWord) (e : Event) → event_word v name ≡ Ok word → event_by v word caller words ≡ Ok e → event_of v caller (name ∷ words) ≡ Ok e
event_by_word v name caller words word e is said = ap (λ r. r >>= λ w. event_by v w caller words) is ∙ said

-- what happened, behind the caller's number
what_back : (v : Version) (c : ℕ) (w : What) → c ≤ (version_limits v).last_caller → IsOfVersion v w → HasSmallNumbers w → event_of v (decimal c) (what_words w) ≡ Ok (by c (with_block 0 w))
unfolding common_word later_word
what_back v c x small of fit = grind (arith, event_by_word, known, page_event_back, loss_event_back, range_event_back, unmap_event_back, split_event_back, close_event_back)

-- ---- its words are plain

-- the name of an event and its page
page_plain : (name : Text) (p : ℕ) → is_plain name ≡ true → p < 2 ^ 64 → list_all is_plain (name ∷ decimal p ∷ []) ≡ true
page_plain name p is lt = rw (is, decimal_plain p lt) refl

-- and a range
range_plain : (name : Text) (p first count : ℕ) → is_plain name ≡ true → p < 2 ^ 64 → first < 2 ^ 16 → count < 2 ^ 16 → list_all is_plain (name ∷ decimal p ∷ decimal first ∷ decimal count ∷ []) ≡ true
range_plain name p first count is lt low high = rw (is, decimal_plain p lt, decimal_plain first (omega arith), decimal_plain count (omega arith)) refl

-- and an outcome and a set
loss_plain : (name : Text) (p : ℕ) (o : Outcome) (set : List Bool) → is_plain name ≡ true → p < 2 ^ 64 → length set ≡ 512 → list_all is_plain (name ∷ decimal p ∷ outcome_word o ∷ set_text set ∷ []) ≡ true
loss_plain name p o set is lt full = rw (is, decimal_plain p lt, outcome_plain o, set_plain set full) refl

-- and a range, an outcome and a set
unmap_plain : (name : Text) (p first count : ℕ) (o : Outcome) (set : List Bool) → is_plain name ≡ true → p < 2 ^ 64 → first < 2 ^ 16 → count < 2 ^ 16 → length set ≡ 512 → list_all is_plain (name ∷ decimal p ∷ decimal first ∷ decimal count ∷ outcome_word o ∷ set_text set ∷ []) ≡ true
unmap_plain name p first count o set is lt low high full = rw (is, decimal_plain p lt, decimal_plain first (omega arith), decimal_plain count (omega arith), outcome_plain o, set_plain set full) refl

-- and a set
split_plain : (name : Text) (p : ℕ) (set : List Bool) → is_plain name ≡ true → p < 2 ^ 64 → length set ≡ 512 → list_all is_plain (name ∷ decimal p ∷ set_text set ∷ []) ≡ true
split_plain name p set is lt full = rw (is, decimal_plain p lt, set_plain set full) refl

-- those of what happened
what_plain : (w : What) → HasSmallNumbers w → list_all is_plain (what_words w) ≡ true
what_plain (Alloc p b) fit = page_plain (codes "alloc") p refl fit
what_plain (MapWhole p) fit = page_plain (codes "mapwhole") p refl fit
what_plain (UnmapWhole o p set) fit = loss_plain (codes "unmapwhole") p o set refl fit.0 fit.1
what_plain (MapSub p first count) fit = range_plain (codes "mapsub") p first count refl fit.0 fit.1 fit.2
what_plain (UnmapSub o p first count set) fit = unmap_plain (codes "unmapsub") p first count o set refl fit.0 fit.1 fit.2 fit.3
what_plain (SplitPmd p) fit = page_plain (codes "splitpmd") p refl fit
what_plain (Pin p) fit = page_plain (codes "pin") p refl fit
what_plain (Unpin o p set) fit = loss_plain (codes "unpin") p o set refl fit.0 fit.1
what_plain (Write p first count) fit = range_plain (codes "write") p first count refl fit.0 fit.1 fit.2
what_plain (Zero p first count) fit = range_plain (codes "zero") p first count refl fit.0 fit.1 fit.2
what_plain (Taken p) fit = page_plain (codes "taken") p refl fit
what_plain (Split p set) fit = split_plain (codes "split") p set refl fit.0 fit.1
what_plain (Pinned p) fit = page_plain (codes "pinned") p refl fit
what_plain (Used p) fit = page_plain (codes "used") p refl fit
what_plain (Back p) fit = page_plain (codes "back") p refl fit
what_plain (Dropped p) fit = page_plain (codes "dropped") p refl fit
what_plain Close fit = refl

-- those of an event
pub event_plain : (v : Version) (e : Event) → IsReportable v e → list_all is_plain (event_words e) ≡ true
unfolding event_words
event_plain v e t = let small = t.caller in let few = few_callers v in and_from _ _ (decimal_plain e.caller (omega arith)) (what_plain e.what t.numbers)

-- an event's line reports that event, but for its block
pub event_line_back : (v : Version) (e : Event) → IsReportable v e → read.line_of v (written.event_line e) ≡ Ok (Happened (event_with 0 e))
unfolding written.event_line event_words
event_line_back v e t =
    let small = t.caller in
    let few = few_callers v in
    line_of_words v (decimal e.caller) (what_words e.what) (event_plain v e t)
    ∙ line_by_number v e.caller (what_words e.what) (omega arith)
    ∙ ap (λ r. r >>= λ event. Ok (Happened event)) (what_back v e.caller e.what small t.version t.numbers)
