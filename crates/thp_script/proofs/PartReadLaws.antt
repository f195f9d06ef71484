-- A script of which a part is being read: what stays true of it behind each line.
use Rattle.std.proofs.Common.{◌≡◌, ◌+◌, ◌-◌, ◌^◌, ◌<◌, ◌≤◌, ℕ, List, [], ◌∷◌, ◌++◌, length, Option, Some, Result, Ok, arith, refl, min, nat_lt, length-append}
use Rattle.std.proofs.lemmas.Bool.{cases_lt, le-ltb, lt-ltb}
use Rattle.thp_script.specs.Prelude.{Command, Settings, Statement, Call, spelled_after, FastCommand, IsPartRead, with_commands, placed, Fault, section_after, statement_in, after_line, fault_with, read_unless, result_after, with_part, IsCounted, TextSoFar, Text, lines_of}
use Rattle.thp_script.proofs.GrammarLaws.{statement_in_range}
use Rattle.thp_script.proofs.PartLaws.{added_in_range, count_stays, line_spells}
use Rattle.thp_script.proofs.ScriptLaws.{section_has_place, section_in_range}
use Rattle.thp_script.proofs.TextLaws.{first_line}

-- a whole line that says something in its place, of which what was read is reported
module _ (s : Settings) (sections added : List (List Command)) (section next : Option ℕ) (t new : TextSoFar) (rest after line : Text) (statement : Statement) where
  pub line_spelled : ((more : Text) → lines_of (t.begun ++ (rest ++ more)) ≡ line ∷ lines_of (after ++ more)) → Ok statement ≡ statement_in s section line
      → added ≡ with_commands sections (placed section statement) → next ≡ section_after section statement → new ≡ after_line t
      → (more : Text) → spelled_after s added next new after more ≡ spelled_after s sections section t rest more
  line_spelled lines says is-added is-next is-new more = grind (arith, line_spells)

  pub line_inside : IsPartRead s sections section t rest → Ok statement ≡ statement_in s section line
      → added ≡ with_commands sections (placed section statement) → next ≡ section_after section statement → new ≡ after_line t → IsCounted after new
      → IsPartRead s added next new after
  line_inside r says is-added is-next is-new counted = grind (arith, statement_in_range, section_has_place, count_stays, section_in_range, added_in_range)

-- a command read ahead, in a section that has begun
says_in_place : (s : Settings) (section : Option ℕ) (k : ℕ) (text rest : Text) (command : Command) (a : FastCommand s text command rest) → section ≡ Some k → Ok (Call command) ≡ statement_in s section a.line
unfolding statement_in
says_in_place s section k text rest command a is = rw (is, ← a.says) refl

still_counted : (t new : TextSoFar) (rest after : Text) → length after < length rest → IsCounted rest t → new ≡ after_line t → IsCounted after new
still_counted t new rest after shorter counted is = rw is (record { lines = omega (arith, counted.lines); most = omega (arith, counted.most) })

module _ (s : Settings) (sections added : List (List Command)) (section : Option ℕ) (k : ℕ) (t new : TextSoFar) (rest after : Text) (command : Command) where
  pub ahead_spelled : FastCommand s rest command after → section ≡ Some k → t.begun ≡ [] → added ≡ with_commands sections (placed section (Call command)) → new ≡ after_line t
      → (more : Text) → spelled_after s added section new after more ≡ spelled_after s sections section t rest more
  ahead_spelled a is begins is-added is-new =
      line_spelled s sections added section section t new rest after a.line (Call command) (λ more. rw begins (first_line rest more a.line after a.lines)) (says_in_place s section k rest after command a is) is-added refl is-new

  pub ahead_inside : FastCommand s rest command after → section ≡ Some k → IsPartRead s sections section t rest → added ≡ with_commands sections (placed section (Call command)) → new ≡ after_line t → IsPartRead s added section new after
  ahead_inside a is r is-added is-new =
      line_inside s sections added section section t new rest after a.line (Call command) r (says_in_place s section k rest after command a is) is-added refl is-new (still_counted t new rest after a.shorter r.counted is-new)

-- ---- a part that comes

-- where the bytes that have come are counted in 64 bits, none of them is too many for the count alone
count_fits : (most given part : ℕ) → most ≤ 2 ^ 64 - 2 → min (given + part) (2 ^ 64 - 1) ≤ most → min (given + part) (2 ^ 64 - 1) ≡ given + part
count_fits most given part counted le = omega arith

-- the text so far with a part that is still to be read, and the part behind the text so far, give the same result
pub part_begins : {A : Type 0} (t new : TextSoFar) (part rest more : Text) (reads : ℕ → Text → Result A Fault) → t.most ≤ 2 ^ 64 - 2 → new ≡ with_part t part → rest ≡ read_unless (fault_with new []) part
    → result_after new more (reads new.line (new.begun ++ (rest ++ more))) ≡ result_after t (part ++ more) (reads t.line (t.begun ++ (part ++ more)))
part_begins {A} t new part rest more reads counted is-new is-rest = grind (arith, cases_lt, length-append, lt-ltb, count_fits, nat_lt, le-ltb)
