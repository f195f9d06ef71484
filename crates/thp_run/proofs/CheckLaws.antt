-- How the check of a journal ends, from what its parts did.
use Rattle.std.proofs.Common.{◌≡◌, ℕ, Bool, true, false, List, Option, None, Ok, Err, arith, is_some, not, IfNone, IfSome, Result, ok_or}
use Rattle.std.specs.Io.KnownBytes.{Appends}
use Rattle.thp_script.specs.declared.fault.ReadFault.{ReadFault}
use Rattle.thp_script.specs.Prelude.{IsInputOf, ReportsFault, max_input}
use Rattle.thp_journal_reader.specs.Prelude.{IsVerdict, is_legal, journals_of}
use Rattle.thp_journal_reader.specs.declared.line.Accepted.TheVariants.{UpToVersion3}
use Rattle.thp_journal_reader.proofs.VerdictLaws.{fault_of_journal, verdict_of_input}
use Rattle.thp_cli.specs.declared.fault.RunFault.{RunFault}
use Rattle.thp_cli.specs.declared.fault.RunFault.TheVariants.{Write}
use Rattle.thp_cli.specs.Prelude.{WritesFront, run_fault}
use Rattle.thp_cli.proofs.PassageLaws.{ends_cut, ends_early, ends_written, reports_of}
use Rattle.thp_run.specs.Checks.{CheckEnds}

-- why a run ended at the writer
abbrev pub at_writer : RunFault ℕ
at_writer = Write

-- a writer that failed is reported as that
pub cut_from : (o : Option (Unit {0})) (fault : RunFault ℕ) → ok_or o Write ≡ Err fault → (o ≡ None) × (Write ≡ fault)
cut_from x fault e = grind arith

-- the writer took a front of the verdict
pub check_ends_cut : (known old new : Option (List ℕ)) (bytes text : List ℕ) (reader_failed writer_failed : Bool) (illegal : Option ℕ) (o : Option (Unit {0})) (r : Result Bool (RunFault ℕ)) → IfSome known (IsInputOf bytes) → IsVerdict bytes (is_legal illegal) text
    → o ≡ None → IfNone o (WritesFront old new text) → IfNone o (writer_failed ≡ true) → reader_failed ≡ false → r ≡ Err Write → CheckEnds known old new reader_failed writer_failed r
check_ends_cut known old new bytes text rf wf illegal o r read v none cut failed e is =
    ends_cut max_input IsVerdict (λ input f. journals_of input ≡ Err f) (verdict_of_input UpToVersion3 max_input) (fault_of_journal UpToVersion3 max_input) known bytes read old new rf wf (is_legal illegal) text r v (rw none at cut) e (rw none at failed) is

-- what isn't there is no line
pub legal_is : (illegal : Option ℕ) (legal : Bool) → is_some illegal ≡ not legal → legal ≡ is_legal illegal
legal_is x y e = grind arith

-- the verdict was written
pub check_ends_written : (known old new : Option (List ℕ)) (bytes text : List ℕ) (reader_failed writer_failed : Bool) (illegal : Option ℕ) (o : Option (Unit {0})) (u : Unit {0}) (legal : Bool) → IfSome known (IsInputOf bytes) → IsVerdict bytes (is_legal illegal) text
    → ok_or o at_writer ≡ Ok u → IfSome o (λ _. Appends old new text) → IfSome o (λ _. writer_failed ≡ false) → reader_failed ≡ false → legal ≡ is_legal illegal → CheckEnds known old new reader_failed writer_failed (Ok legal)
check_ends_written known old new bytes text rf wf illegal x u legal read verdict some done flag e is = grind (arith, ends_written, verdict_of_input, fault_of_journal)

-- the journal was at fault, or memory was refused
pub check_ends_early : (known old : Option (List ℕ)) (bytes : List ℕ) (reader_failed writer_failed : Bool) (fault : ReadFault) (r : Result Bool (RunFault ℕ)) → IfSome known (IsInputOf bytes) → ReportsFault (journals_of bytes) fault
    → reader_failed ≡ false → writer_failed ≡ false → r ≡ Err (run_fault fault) → CheckEnds known old old reader_failed writer_failed r
check_ends_early known old bytes rf wf fault r read reported e f is = grind (arith, ends_early, verdict_of_input, fault_of_journal, reports_of)
