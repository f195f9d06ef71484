-- Journals whose text comes in parts: what was read, with what the text to come says, is what the whole text says.
use Rattle.std.proofs.Common.{◌≡◌, ◌∙◌, ◌+◌, ◌<◌, ℕ, List, [], ◌∷◌, ◌++◌, length, Some, None, Result, Ok, Err, refl, ap, append_assoc, length-append, arith, lt-ltb, append-nil}
use Rattle.thp_history.specs.declared.events.Event.{Event}
use Rattle.thp_script.specs.declared.fault.TextKind.{TextKind}
use Rattle.thp_script.specs.Prelude.{fault_after, ◌>>=◌, Fault, nothing_of, Text, lines_of}
use Rattle.thp_script.proofs.TextLaws.{first_line, whole_comes}
use Rattle.thp_journal_reader.specs.Prelude.{ReadNode, Line, Happened, Place, Start, Inside, Accepted, Version, FastEvent, line_in, place_after, journals_with, journals_accepted, lines_from, nodes_of, journals_in, result_of_lines, result_with, with_lines, fault_at, with_line}
use Rattle.thp_journal_reader.proofs.JournalLaws.{behind, ends_none, ends_some, line_ends, line_fails, line_says}
use Rattle.thp_journal_reader.proofs.NodeLaws.{nodes_of-push}

-- ---- the nodes of further lines

from_lines : (before lines : List Line) → with_lines (1 + length before) (nodes_of 1 before) lines ≡ nodes_of 1 (before ++ lines)
from_lines before [] = rw (append-nil before) refl
from_lines before (line ∷ lines) =
    let longer : 1 + length (before ++ line ∷ []) ≡ 1 + length before + 1 = omega (arith, length-append before (line ∷ [])) in
    rw (← nodes_of-push 1 before line, ← longer) (from_lines (before ++ line ∷ []) lines ∙ ap (nodes_of 1) (append_assoc before (line ∷ []) lines))

from_none : (lines : List Line) → with_lines 1 [] lines ≡ nodes_of 1 lines
from_none lines = from_lines [] lines

-- ---- what the lines of a text report

all_report : (read : Result (List Line) Fault) → (read >>= λ lines. Ok (journals_in (with_lines 1 [] lines))) ≡ (read >>= λ lines. Ok (journals_with lines))
unfolding journals_with
all_report x = grind (arith, from_none)

-- nothing has come: the text to come is the whole
pub reports_all : (v : Accepted) (most : ℕ) (text : Text) → result_with (record { nodes = []; place = Start v; text = nothing_of most }) text ≡ journals_accepted v most text
unfolding journals_accepted result_of_lines
reports_all v most text = rw (all_report (lines_from 1 (Start v) (lines_of text))) (whole_comes most text (lines_from 1 (Start v) (lines_of text) >>= λ lines. Ok (journals_with lines)))

-- a line before those behind it
after_reports : (n : ℕ) (nodes : List ReadNode) (line : Line) (read : Result (List Line) Fault)
    → (behind (line ∷ []) read >>= λ lines. Ok (journals_in (with_lines n nodes lines))) ≡ (read >>= λ lines. Ok (journals_in (with_lines (n + 1) (with_line n nodes line) lines)))
after_reports n nodes line x = grind arith

-- a line that says something in its place, and the lines behind it
pub line_reports : (nodes : List ReadNode) (place : Place) (n : ℕ) (text bytes after : Text) (line : Line) → lines_of text ≡ bytes ∷ lines_of after → Ok line ≡ line_in place bytes
    → result_of_lines nodes place n text ≡ result_of_lines (with_line n nodes line) (place_after place line) (n + 1) after
unfolding result_of_lines
line_reports nodes place n text bytes after line texts says =
    rw (line_says n place (lines_of text) bytes after line texts says) (after_reports n nodes line (lines_from (n + 1) (place_after place line) (lines_of after)))

-- an event read ahead, behind the line of a node
event_says : (accepted : Accepted) (v : Version) (reported : ℕ) (text after : Text) (event : Event) (a : FastEvent v text event after) → 0 < reported → Ok (Happened event) ≡ line_in (Inside accepted v reported) a.line
unfolding line_in
event_says accepted v reported text after event a some = rw (← a.says, lt-ltb 0 reported some) refl

pub event_reports : (nodes : List ReadNode) (accepted : Accepted) (v : Version) (reported n : ℕ) (begun rest more after : Text) (event : Event) → FastEvent v rest event after → 0 < reported → begun ≡ []
    → result_of_lines nodes (Inside accepted v reported) n (begun ++ (rest ++ more)) ≡ result_of_lines (with_line n nodes (Happened event)) (Inside accepted v reported) (n + 1) (after ++ more)
event_reports nodes accepted v reported n begun rest more after event a some begins =
    line_reports nodes (Inside accepted v reported) n (begun ++ (rest ++ more)) a.line (after ++ more) (Happened event) (rw begins (first_line rest more a.line after a.lines)) (event_says accepted v reported rest after event a some)

-- a line that is at fault
pub line_is_wrong : (nodes : List ReadNode) (place : Place) (n : ℕ) (text bytes after : Text) (kind : TextKind) → lines_of text ≡ bytes ∷ lines_of after → Err kind ≡ line_in place bytes
    → result_of_lines nodes place n text ≡ Err (n, kind)
unfolding result_of_lines
line_is_wrong nodes place n text bytes after kind texts says = rw (line_fails n place (lines_of text) bytes after kind texts says) refl

-- all has come, and the journals are at their end or not
pub end_reports : (nodes : List ReadNode) (place : Place) (n : ℕ) (begun : Text) → lines_of begun ≡ begun ∷ [] → None ≡ fault_at (fault_after begun) place
    → result_of_lines nodes place n (begun ++ []) ≡ Ok (journals_in nodes)
unfolding result_of_lines
end_reports nodes place n begun one none = rw (append-nil begun, line_ends n place (lines_of begun) begun one, ends_none n place (fault_after begun) none) refl

pub end_is_wrong : (nodes : List ReadNode) (place : Place) (n : ℕ) (begun : Text) (kind : TextKind) → lines_of begun ≡ begun ∷ [] → Some kind ≡ fault_at (fault_after begun) place
    → result_of_lines nodes place n (begun ++ []) ≡ Err (n, kind)
unfolding result_of_lines
end_is_wrong nodes place n begun kind one some = rw (append-nil begun, line_ends n place (lines_of begun) begun one, ends_some n place (fault_after begun) kind some) refl
