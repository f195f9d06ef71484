-- The verdict on a journal.
use Rattle.std.specs.Prelude.{◌≡◌, ◌++◌, ℕ, Bool, true, false, All, List, [], ◌∷◌, Option, Some, None, Ok, codes, decimal}
use Rattle.thp_script.specs.Prelude.{max_input}
use Rattle.thp_journal_reader.specs.declared.journals.ReadJournals.{ReadJournals}
use Rattle.thp_journal_reader.specs.Answers.{CanBeLegal, ReportsIllegal}
use Rattle.thp_journal_reader.specs.Journals.{journals_accepted}
use Rattle.thp_journal_reader.specs.declared.line.Accepted.{Accepted}
use Rattle.thp_journal_reader.specs.declared.line.Accepted.TheVariants.{UpToVersion3, EveryVersion}

-- the line that states whether a journal is legal, or the line of its first illegal event
unfoldable pub verdict_text : Option ℕ → List ℕ
verdict_text None = codes "legal" ++ (10 ∷ [])
verdict_text (Some line) = codes "illegal line " ++ decimal line ++ (10 ∷ [])

-- no line is illegal
abbrev pub is_legal : Option ℕ → Bool
is_legal None = true
is_legal (Some line) = false

-- the text states whether an accepted journal of at most so many bytes is legal
pub record IsVerdictAccepted (accepted : Accepted) (most : ℕ) (input : List ℕ) (legal : Bool) (text : List ℕ) : Type 0 where
  pub journals : ReadJournals
  pub spelled : journals_accepted accepted most input ≡ Ok journals
  pub illegal : Option ℕ
  pub reported : ReportsIllegal journals.nodes illegal
  -- if some choice of blocks makes all events legal, none is reported as illegal
  pub free_choice : All CanBeLegal journals.nodes → illegal ≡ None
  pub answer : legal ≡ is_legal illegal
  pub written : text ≡ verdict_text illegal

-- the same of a journal of any version
abbrev pub IsVerdictWithin : ℕ → List ℕ → Bool → List ℕ → Type 0
IsVerdictWithin = IsVerdictAccepted EveryVersion

-- the text states whether the journal in the input is legal
abbrev pub IsVerdict : List ℕ → Bool → List ℕ → Type 0
IsVerdict = IsVerdictAccepted UpToVersion3 max_input
