-- How the check of a journal ends.
use Rattle.std.specs.Prelude.{◌≡◌, ℕ, Bool, List, Option, Result, Err}
use Rattle.thp_journal_reader.specs.Prelude.{IsVerdict, journals_of}
use Rattle.thp_cli.specs.declared.fault.RunFault.{RunFault}
use Rattle.thp_cli.specs.Prelude.{PassageEnds}

-- with its verdict, or with the first error of the journal
abbrev pub CheckEnds : Option (List ℕ) → Option (List ℕ) → Option (List ℕ) → Bool → Bool → Result Bool (RunFault ℕ) → Type 0
CheckEnds = PassageEnds IsVerdict (λ input fault. journals_of input ≡ Err fault)
