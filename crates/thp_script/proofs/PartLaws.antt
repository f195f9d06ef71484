-- A script whose text comes in parts: what was read, with what the text to come says, is what the whole text says.
use Rattle.std.proofs.Common.{◌≡◌, ◌∙◌, ◌+◌, ◌<◌, ℕ, List, [], ◌∷◌, ◌++◌, length, get_or, set, Option, Some, None, Result, Ok, Err, refl, ap, append_assoc, arith, IfSome, All, replicate, append-nil, length-set}
use Rattle.std.proofs.lemmas.Bool.{cases_lt}
use Rattle.std.proofs.lemmas.List.Elements.{All-get_or, All-head, All-push, All-set, All-tail}
use Rattle.thp_script.specs.Prelude.{TextKind, Command, Settings, Statement, Nothing, Section, Call, IsCommandFor, max_input, fault_after, lines_spell, script_in, spelled_with, with_commands, ◌>>=◌, Fault, IsScriptFor, Placed, commands_from, placed, script_of, script_with, IsInRange, section_after, statement_in, nothing_of, Text, lines_of}
pub use Rattle.thp_history.proofs.Options.{not_there}
use Rattle.thp_script.proofs.TextLaws.{whole_comes}
use Rattle.thp_script.proofs.ScriptLaws.{behind, line_ends, line_fails, line_says}
use Rattle.thp_script.proofs.SectionLaws.{sections_with, sections_with-none, sections_with-push, sections_with-push_beyond, sections_with-script}

-- ---- the commands of each section

with_commands-append : (sections : List (List Command)) (ps qs : List Placed) → with_commands sections (ps ++ qs) ≡ with_commands (with_commands sections ps) qs
with_commands-append sections [] qs = refl
with_commands-append sections (p ∷ ps) qs = with_commands-append (set sections p.0 (get_or sections p.0 [] ++ p.1 ∷ [])) ps qs

one_more : (workers : ℕ) (before : List Placed) (p : Placed) → set (sections_with workers before) p.0 (get_or (sections_with workers before) p.0 [] ++ p.1 ∷ []) ≡ sections_with workers (before ++ p ∷ [])
one_more workers before p = grind (arith, cases_lt, sections_with-push, sections_with-push_beyond, get_or, sections_with)

from_sections : (workers : ℕ) (before ps : List Placed) → with_commands (sections_with workers before) ps ≡ sections_with workers (before ++ ps)
from_sections workers before [] = rw (append-nil before) refl
from_sections workers before (p ∷ ps) =
    rw (one_more workers before p) (from_sections workers (before ++ p ∷ []) ps ∙ ap (sections_with workers) (append_assoc before (p ∷ []) ps))

from_none : (workers : ℕ) (ps : List Placed) → script_in (with_commands (replicate (workers + 1) []) ps) ≡ script_with workers ps
from_none workers ps = rw (← sections_with-none workers, from_sections workers [] ps, sections_with-script workers ps) refl

-- ---- what the lines of a text spell

bind_same : {A B F : Type 0} (read : Result A F) (f g : A → Result B F) → ((x : A) → f x ≡ g x) → (read >>= f) ≡ (read >>= g)
bind_same x f g same = grind arith

-- nothing has come: the text to come is the whole
pub spells_all : (s : Settings) (sections : List (List Command)) (text : Text) → sections ≡ replicate (s.workers + 1) []
    → spelled_with (record { settings = s; sections = sections; section = None; text = nothing_of max_input }) text ≡ script_of s text
unfolding script_of lines_spell
spells_all s sections text none = grind (arith, bind_same, from_none, whole_comes)

-- the commands of a line before those of the lines behind it
after_spells : (s : Settings) (sections : List (List Command)) (before : List Placed) (read : Result (List Placed) Fault)
    → (behind before read >>= λ ps. Ok (script_in (with_commands sections ps))) ≡ (read >>= λ ps. Ok (script_in (with_commands (with_commands sections before) ps)))
after_spells s sections before x = grind (arith, with_commands-append)

-- a line that says something in its place, and the lines behind it
pub line_spells : (s : Settings) (sections : List (List Command)) (section : Option ℕ) (n : ℕ) (text line after : Text) (statement : Statement) → lines_of text ≡ line ∷ lines_of after → Ok statement ≡ statement_in s section line
    → lines_spell s sections section n text ≡ lines_spell s (with_commands sections (placed section statement)) (section_after section statement) (n + 1) after
unfolding lines_spell
line_spells s sections section n text line after statement texts says =
    rw (line_says s n section (lines_of text) line after statement texts says)
    (after_spells s sections (placed section statement) (commands_from s (n + 1) (section_after section statement) (lines_of after)))

-- a line that is at fault
pub line_is_wrong : (s : Settings) (sections : List (List Command)) (section : Option ℕ) (n : ℕ) (text line after : Text) (kind : TextKind) → lines_of text ≡ line ∷ lines_of after → Err kind ≡ statement_in s section line
    → lines_spell s sections section n text ≡ Err (n, kind)
unfolding lines_spell
line_is_wrong s sections section n text line after kind texts says = rw (line_fails s n section (lines_of text) line after kind texts says) refl

-- all has come, and a line has begun behind the last line feed or none
pub end_spells : (s : Settings) (sections : List (List Command)) (section : Option ℕ) (n : ℕ) (begun : Text) → lines_of begun ≡ begun ∷ [] → None ≡ fault_after begun
    → lines_spell s sections section n (begun ++ []) ≡ Ok (script_in sections)
unfolding lines_spell
end_spells s sections section n begun one none = rw (append-nil begun, line_ends s n section (lines_of begun) begun one, ← none) refl

pub end_is_wrong : (s : Settings) (sections : List (List Command)) (section : Option ℕ) (n : ℕ) (begun : Text) (kind : TextKind) → lines_of begun ≡ begun ∷ [] → Some kind ≡ fault_after begun
    → lines_spell s sections section n (begun ++ []) ≡ Err (n, kind)
unfolding lines_spell
end_is_wrong s sections section n begun kind one some = rw (append-nil begun, line_ends s n section (lines_of begun) begun one, ← some) refl

-- ---- what stays true of a script that is being read

-- a command in range is added to sections of commands in range
pub added_in_range : (s : Settings) (sections : List (List Command)) (section : Option ℕ) (statement : Statement) → IfSome section (λ k. k < length sections) → IsInRange s statement → All (λ (commands : List Command). All (IsCommandFor s.nodes) commands) sections
    → All (λ (commands : List Command). All (IsCommandFor s.nodes) commands) (with_commands sections (placed section statement))
added_in_range s sections section Nothing place now all = all
added_in_range s sections section (Section k) place now all = all
added_in_range s sections None (Call command) place now all = all
added_in_range s sections (Some k) (Call command) place now all =
    let before = All-get_or (λ (commands : List Command). All (IsCommandFor s.nodes) commands) sections k [] place all in
    All-set (λ (commands : List Command). All (IsCommandFor s.nodes) commands) sections k (get_or sections k [] ++ command ∷ []) (All-push (IsCommandFor s.nodes) (get_or sections k []) command before now) all

pub count_stays : (sections : List (List Command)) (section : Option ℕ) (statement : Statement) → length (with_commands sections (placed section statement)) ≡ length sections
count_stays sections section x = grind (arith, length-set, get_or)

-- sections of commands in range, one for each worker and `setup`, are a script in range
pub script_in_range : (s : Settings) (sections : List (List Command)) → length sections ≡ s.workers + 1 → All (λ (commands : List Command). All (IsCommandFor s.nodes) commands) sections → IsScriptFor s (script_in sections)
script_in_range s [] count all = absurd (omega arith)
script_in_range s (setup ∷ workers) count all = record {
  setup_commands = All-head (λ (commands : List Command). All (IsCommandFor s.nodes) commands) setup workers all;
  worker_commands = All-tail (λ (commands : List Command). All (IsCommandFor s.nodes) commands) setup workers all;
  sections = omega arith;
}
