-- Texts that arrive in parts.
use Rattle.std.specs.Prelude.{◌≡◌, ◌≤◌, ◌+◌, ◌-◌, ◌^◌, nat_lt, min, ℕ, [], ◌∷◌, ◌++◌, length, IfSome, Option, Some, None, Result, Err, if◌then◌else◌}
use Rattle.thp_script.specs.declared.fault.TextKind.TheVariants.{TooLong}
use Rattle.thp_script.specs.Limits.{max_counted}
use Rattle.thp_script.specs.Scripts.{Fault}
use Rattle.thp_script.specs.Words.{Text, lines_of}

-- The state of reading a text: the bytes of the line in progress, and its number; the number of bytes read, and the greatest
-- number allowed; and the first error.
pub record TextSoFar : Type 0 where
  pub begun : Text
  pub line : ℕ
  pub given : ℕ
  pub most : ℕ
  pub fault : Option Fault

-- a text of at most so many bytes, of which nothing was read
abbrev pub nothing_of : ℕ → TextSoFar
nothing_of most = record { begun = []; line = 1; given = 0; most = most; fault = None }

-- the state after counting a further part, before reading it
abbrev pub with_part : TextSoFar → Text → TextSoFar
with_part t part = record { begun = t.begun; line = t.line; given = min (t.given + length part) (2 ^ 64 - 1); most = t.most; fault = t.fault }

-- the state with these bytes added to the line in progress
abbrev pub with_begun : TextSoFar → Text → TextSoFar
with_begun t bytes = record { begun = t.begun ++ bytes; line = t.line; given = t.given; most = t.most; fault = t.fault }

-- the state after a whole line
abbrev pub after_line : TextSoFar → TextSoFar
after_line t = record { begun = []; line = t.line + 1; given = t.given; most = t.most; fault = t.fault }

-- an earlier error takes precedence over a later one
abbrev pub first_fault : Option Fault → Fault → Fault
first_fault (Some earlier) fault = earlier
first_fault None fault = fault

abbrev pub with_fault : TextSoFar → Fault → TextSoFar
with_fault t fault = record { begun = t.begun; line = t.line; given = t.given; most = t.most; fault = Some (first_fault t.fault fault) }

-- the error after this text, whatever further lines contain: too many bytes, or an error found
abbrev pub fault_with : TextSoFar → Text → Option Fault
fault_with t more = if nat_lt t.most (t.given + length more) then Some (0, TooLong) else t.fault

-- an error found before takes precedence
abbrev pub unless : {A : Type 0} → Option Fault → Result A Fault → Result A Fault
unless (Some fault) read = Err fault
unless None read = read

-- the result after this text follows the text so far: an earlier error, or what is parsed
abbrev pub result_after : {A : Type 0} → TextSoFar → Text → Result A Fault → Result A Fault
result_after t more read = unless (fault_with t more) read

-- nothing of a part is parsed after an error
abbrev pub read_unless : Option Fault → Text → Text
read_unless (Some fault) part = []
read_unless None part = part

-- the rest of a part was counted: each further line ends with a byte of it
pub record IsCounted (rest : Text) (t : TextSoFar) : Type 0 where
  pub lines : t.line + length rest ≤ t.given + 1
  pub most : t.line + length rest ≤ t.most + 1

-- the invariant of a text in parts
pub record HasCome (t : TextSoFar) : Type 0 where
  pub one_line : lines_of t.begun ≡ t.begun ∷ []
  pub first : 1 ≤ t.line
  pub lines : t.line ≤ t.given + 1
  pub most : t.line ≤ t.most + 1
  pub counted : t.most ≤ max_counted
  pub fault_inside : IfSome t.fault (λ f. f.0 ≤ t.most)
