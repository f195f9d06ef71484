-- The lines of a journal one by one: what the first says, with what the others say, is what all say.
use Rattle.std.proofs.Common.{◌≡◌, ℕ, ◌+◌, List, [], ◌∷◌, ◌++◌, Option, Some, None, Result, Ok, Err, refl}
use Rattle.thp_script.specs.declared.fault.TextKind.{TextKind}
use Rattle.thp_script.specs.declared.fault.TextKind.TheVariants.{Cut}
use Rattle.thp_script.specs.Prelude.{fault_after, ◌>>=◌, Fault, Text, lines_of}
use Rattle.thp_script.proofs.PieceLaws.{has_first}
use Rattle.thp_journal_reader.specs.Prelude.{Line, Place, Start, Inside, Ended, UpToVersion3, line_in, place_after, end_of_text, lines_from, fault_at}

abbrev pub Read : Type 0
Read = Result (List Line) Fault

-- the lines read before, in front of those that are still read
abbrev pub behind : List Line → Read → Read
behind before read = read >>= λ lines. Ok (before ++ lines)

-- the first line of what is left, where it says something in its place, where it is a fault, and where it is the end
pub line_says : (n : ℕ) (place : Place) (texts : List Text) (text after : Text) (line : Line) → texts ≡ text ∷ lines_of after → Ok line ≡ line_in place text
    → lines_from n place texts ≡ behind (line ∷ []) (lines_from (n + 1) (place_after place line) (lines_of after))
unfolding lines_from
line_says n place texts text after line e says = let f = has_first 10 after in rw (e, f.2, ← says) refl

pub line_fails : (n : ℕ) (place : Place) (texts : List Text) (text after : Text) (kind : TextKind) → texts ≡ text ∷ lines_of after → Err kind ≡ line_in place text → lines_from n place texts ≡ Err (n, kind)
unfolding lines_from
line_fails n place texts text after kind e says = let f = has_first 10 after in rw (e, f.2, ← says) refl

pub line_ends : (n : ℕ) (place : Place) (texts : List Text) (text : Text) → texts ≡ text ∷ [] → lines_from n place texts ≡ end_of_text n place (fault_after text)
unfolding lines_from
line_ends n place texts text e = rw e refl

-- ---- the end of the text

pub ends_none : (n : ℕ) (place : Place) (o : Option TextKind) → None ≡ fault_at o place → end_of_text n place o ≡ Ok []
ends_none n (Ended accepted version) None e = refl
ends_none n (Start accepted) None e = absurd cc
ends_none n (Inside accepted version nodes) None e = absurd cc
ends_none n place (Some kind) e = absurd cc

kind_of : (n : ℕ) (first second : TextKind) → Some first ≡ Some second → end_of_text n (Start UpToVersion3) (Some second) ≡ Err (n, first)
kind_of n first second e = cc

pub ends_some : (n : ℕ) (place : Place) (o : Option TextKind) (kind : TextKind) → Some kind ≡ fault_at o place → end_of_text n place o ≡ Err (n, kind)
ends_some n (Ended accepted version) None kind e = absurd cc
ends_some n (Start accepted) None kind e = kind_of n kind Cut e
ends_some n (Inside accepted version nodes) None kind e = kind_of n kind Cut e
ends_some n place (Some other) kind e = kind_of n kind other e
