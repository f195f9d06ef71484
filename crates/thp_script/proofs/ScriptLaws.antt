-- The lines of a script one by one: what the first says, with what the others say, is what all say.
use Rattle.std.proofs.Common.{◌≡◌, ℕ, ◌+◌, ◌<◌, List, [], ◌∷◌, ◌++◌, Option, Result, Ok, Err, refl, length, arith, IfSome, lt-ltb}
use Rattle.thp_script.specs.Prelude.{TextKind, TooLong, Settings, Statement, max_input, ◌>>=◌, Text, lines_of, fault_after, statement_in, section_after, IsInRange, IsSectionFor, Fault, Placed, placed, commands_from, end_of, script_of}
use Rattle.thp_script.proofs.PieceLaws.{has_first}

abbrev pub Read : Type 0
Read = Result (List Placed) Fault

-- the commands read before, in front of those that are still read
abbrev pub behind : List Placed → Read → Read
behind before read = read >>= λ ps. Ok (before ++ ps)

-- the first line of what is left, where it says something in its place, where it is a fault, and where it is the end
pub line_says : (s : Settings) (n : ℕ) (section : Option ℕ) (texts : List Text) (line after : Text) (statement : Statement) → texts ≡ line ∷ lines_of after → Ok statement ≡ statement_in s section line
    → commands_from s n section texts ≡ behind (placed section statement) (commands_from s (n + 1) (section_after section statement) (lines_of after))
unfolding commands_from
line_says s n section texts line after statement e says = let f = has_first 10 after in rw (e, f.2, ← says) refl

pub line_fails : (s : Settings) (n : ℕ) (section : Option ℕ) (texts : List Text) (line after : Text) (kind : TextKind) → texts ≡ line ∷ lines_of after → Err kind ≡ statement_in s section line
    → commands_from s n section texts ≡ Err (n, kind)
unfolding commands_from
line_fails s n section texts line after kind e says = let f = has_first 10 after in rw (e, f.2, ← says) refl

pub line_ends : (s : Settings) (n : ℕ) (section : Option ℕ) (texts : List Text) (line : Text) → texts ≡ line ∷ [] → commands_from s n section texts ≡ end_of n (fault_after line)
unfolding commands_from
line_ends s n section texts line e = rw e refl

pub too_long : (s : Settings) (text : Text) → max_input < length text → script_of s text ≡ Err (0, TooLong)
unfolding script_of
too_long s text lt = rw (lt-ltb max_input (length text) lt) refl

-- ---- what stays in range

pub section_in_range : (s : Settings) (section : Option ℕ) (statement : Statement) → IfSome section (IsSectionFor s) → IsInRange s statement → IfSome (section_after section statement) (IsSectionFor s)
section_in_range s section x before now = grind arith

-- a section that there is has its place among the sections
section_below : (s : Settings) (k count : ℕ) → IsSectionFor s k → count ≡ s.workers + 1 → k < count
section_below s k count is e = omega arith

pub section_has_place : (s : Settings) (section : Option ℕ) (count : ℕ) → IfSome section (IsSectionFor s) → count ≡ s.workers + 1 → IfSome section (λ k. k < count)
section_has_place s x count h e = grind (arith, section_below)
