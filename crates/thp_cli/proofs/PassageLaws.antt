-- How the program's passages end, from what their parts did.
use Rattle.std.proofs.Common.{◌≡◌, ℕ, Bool, true, false, List, Option, Some, None, Ok, Err, arith, IfSome, Result, ok_or}
use Rattle.std.specs.Io.KnownBytes.{Keeps, Appends}
use Rattle.thp_script.specs.declared.fault.ReadFault.{ReadFault}
use Rattle.thp_script.specs.declared.fault.ReadFault.TheVariants as reading
use Rattle.thp_script.specs.Prelude.{Fault, ReportsFault, IsFrontOf}
use Rattle.thp_cli.specs.Prelude.{RunFault, Write, WritesFront, WritesOn, DeviceCall, PassageEnds, WritesAnswer, run_fault}

pub keeps_same : (known : Option (List ℕ)) → Keeps known known
keeps_same x = grind arith

-- what is at fault with the bytes that a reading reports
abbrev pub ReportsOf : (Fault → Type 0) → ReadFault → Type 0
ReportsOf HasFault (reading.Text line kind) = HasFault (line, kind)
ReportsOf HasFault reading.OutOfMemory = Unit {0}

-- an answer, and a fault, that goes for what was read goes for the whole input
module _ (most : ℕ) {A : Type 0} (IsAnswer : List ℕ → A → List ℕ → Type 0) (HasFault : List ℕ → Fault → Type 0)
    (answers : (input bytes text : List ℕ) (x : A) → IsFrontOf most bytes input → IsAnswer bytes x text → IsAnswer input x text)
    (faults : (input bytes : List ℕ) (fault : Fault) → IsFrontOf most bytes input → HasFault bytes fault → HasFault input fault)
    (known : Option (List ℕ)) (bytes : List ℕ) (read : IfSome known (IsFrontOf most bytes)) where
  fault_of_input : (o : Option (List ℕ)) → IfSome o (IsFrontOf most bytes) → (fault : Fault) → HasFault bytes fault → IfSome o (λ input. HasFault input fault)
  fault_of_input x read fault reported = grind arith

  -- the text was at fault, or memory was refused
  pub ends_early : (old : Option (List ℕ)) (reader_failed writer_failed : Bool) (fault : ReadFault) (r : Result A (RunFault ℕ)) → ReportsOf (HasFault bytes) fault → reader_failed ≡ false → writer_failed ≡ false → r ≡ Err (run_fault fault)
      → PassageEnds IsAnswer HasFault known old old reader_failed writer_failed r
  ends_early old rf wf x r reported e f is = grind (arith, fault_of_input, keeps_same)

  written_of_input : (o : Option (List ℕ)) → IfSome o (IsFrontOf most bytes) → (x : A) (text : List ℕ) (P : List ℕ → Type 0) → IsAnswer bytes x text → P text → IfSome o (λ input. (t : List ℕ) × IsAnswer input x t × P t)
  written_of_input y read x text z answer p = grind arith

  front_of_input : (o : Option (List ℕ)) → IfSome o (IsFrontOf most bytes) → (x : A) (text : List ℕ) (P : List ℕ → Type 0) → IsAnswer bytes x text → P text → IfSome o (λ input. (y : A) × (t : List ℕ) × IsAnswer input y t × P t)
  front_of_input None read x text P answer p = tt
  front_of_input (Some input) read x text P answer p = (x, text, answers input bytes text x read answer, p)

  -- the answer was written
  pub ends_written : (old new : Option (List ℕ)) (reader_failed writer_failed : Bool) (x : A) (text : List ℕ) (r : Result A (RunFault ℕ)) → IsAnswer bytes x text → Appends old new text → reader_failed ≡ false → writer_failed ≡ false → r ≡ Ok x
      → PassageEnds IsAnswer HasFault known old new reader_failed writer_failed r
  ends_written old new rf wf x text r answer done e f is = rw is (written_of_input known read x text (λ t. Appends old new t) answer done, e, f)

  -- the writer failed, and took a front of the answer
  pub ends_cut : (old new : Option (List ℕ)) (reader_failed writer_failed : Bool) (x : A) (text : List ℕ) (r : Result A (RunFault ℕ)) → IsAnswer bytes x text → WritesFront old new text → reader_failed ≡ false → writer_failed ≡ true → r ≡ Err Write
      → PassageEnds IsAnswer HasFault known old new reader_failed writer_failed r
  ends_cut old new rf wf x text r answer cut e f is = rw is (front_of_input known read x text (λ t. WritesFront old new t) answer cut, e, f)

-- ---- calls of the writer

-- none was made where the text was at fault
pub none_at_fault : {A : Type 0} (r : Result A (RunFault ℕ)) (writer_failed : Bool) (fault : ReadFault) (calls : List DeviceCall) → r ≡ Err (run_fault fault) → WritesAnswer r writer_failed calls calls
none_at_fault r wf x calls is = grind arith

-- those of the answer, whether or not the writer failed
pub of_answer : (o : Option (Unit {0})) (failed : Bool) (old new : List DeviceCall) → WritesOn failed old new → WritesAnswer (ok_or o Write) failed old new
of_answer x failed old new w = grind arith

-- a fault of reading, as a fault that the bytes have
pub reports_of : {A : Type 0} (read : Result A Fault) (fault : ReadFault) → ReportsFault read fault → ReportsOf (λ f. read ≡ Err f) fault
reports_of read x reported = grind arith
