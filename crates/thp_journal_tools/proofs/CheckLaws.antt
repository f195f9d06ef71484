-- How the check of a journal ends, from what its parts did.
use Rattle.std.proofs.Common.{◌≡◌, ◌∙◌, ◌++◌, ℕ, Bool, true, false, List, Option, Some, None, Ok, Err, refl, subst, sym, IfErr, IfNone, IfSome, IsErrAnd, Result, ok_or}
use Rattle.std.specs.Io.KnownBytes.{Appends}
use Rattle.thp_script.specs.Prelude.{max_counted, Fault, IsFrontOf}
use Rattle.thp_script.specs.declared.fault.ReadFault.TheVariants as reading
use Rattle.thp_script.specs.declared.fault.TextKind.{TextKind}
use Rattle.thp_journal_writer.specs.Totals.{totals_lines_from}
use Rattle.thp_journal_reader.specs.declared.long_check.Illegal.{Illegal}
use Rattle.thp_journal_reader.specs.declared.journals.ReadNode.{ReadNode}
use Rattle.thp_journal_tools.specs.declared.checking.Summed.{Summed}
use Rattle.thp_script.specs.declared.fault.LongReadFault.{LongReadFault}
use Rattle.thp_script.specs.declared.fault.LongReadFault.TheVariants as summary
use Rattle.thp_journal_reader.specs.Prelude.{ReportsFirst, ReportsIllegal, ReportsLongReadFault, journals_within, verdict_text}
use Rattle.thp_journal_reader.specs.declared.line.Accepted.TheVariants.{EveryVersion}
use Rattle.thp_journal_reader.proofs.AnswerLaws.{free_choice}
use Rattle.thp_journal_reader.proofs.VerdictLaws.{fault_of_journal, same_journals}
use Rattle.thp_cli.specs.declared.calls.DeviceCall.{DeviceCall}
use Rattle.thp_cli.specs.declared.fault.RunFault.{RunFault}
use Rattle.thp_cli.specs.declared.fault.RunFault.TheVariants.{Text, OutOfMemory, Read, Write}
use Rattle.thp_cli.specs.Prelude.{WritesFront, WritesAnswer, fault_of_long_read, IsReadingFault}
use Rattle.thp_cli.proofs.PassageLaws.{ends_cut, ends_early, ends_written, keeps_same}
use Rattle.thp_journal_tools.specs.Checks.{line_of_illegal, IsCheckOf, IsFindFault, IsFound, LongEnds}
use Rattle.thp_journal_tools.specs.declared.program.CheckOptions.{CheckOptions}

-- ---- what is found

-- why a check ended at the writer
abbrev pub at_writer : RunFault ℕ
at_writer = Write

-- nothing was found, since the reading failed
at_reading : (known : Option (List ℕ)) (failed : Bool) (fault : RunFault ℕ) → IsReadingFault failed fault → IsFindFault known failed fault
at_reading known failed Read reading = reading
at_reading known failed OutOfMemory reading = reading
at_reading known failed Write reading = absurd reading
at_reading known failed (Text line kind) reading = absurd reading

pub err_at_reading : {A : Type 0} (known : Option (List ℕ)) (failed : Bool) (fault : RunFault ℕ) (r : Result A (RunFault ℕ)) → IsErrAnd r (λ e. e ≡ fault) → IsReadingFault failed fault → IfErr r (λ e. IsFindFault known failed e)
err_at_reading known failed fault (Ok found) is reading = absurd is
err_at_reading known failed fault (Err e) is reading =
    let P : RunFault ℕ → Type 0 = λ f. IsFindFault known failed f in
    subst P (sym is) (at_reading known failed fault reading)

module _ (known : Option (List ℕ)) (bytes : List ℕ) (read : IfSome known (IsFrontOf max_counted bytes)) (failed : Bool) (same : failed ≡ false) where
  -- the text is at fault
  pub err_at_text : {A : Type 0} (line : ℕ) (kind : TextKind) (r : Result A (RunFault ℕ)) → IsErrAnd r (λ e. e ≡ Text line kind) → journals_within max_counted bytes ≡ Err (line, kind) → IfErr r (λ e. IsFindFault known failed e)
  err_at_text line kind (Ok found) is reported = absurd is
  err_at_text line kind (Err e) is reported =
      let P : RunFault ℕ → Type 0 = λ f. IsFindFault known failed f in
      subst P (sym is) (bytes, read, reported, same)

  -- or memory for the last totals was refused
  pub err_at_summary : {A : Type 0} (fault : LongReadFault) (r : Result A (RunFault ℕ)) → IsErrAnd r (λ e. e ≡ fault_of_long_read fault) → ReportsLongReadFault (journals_within max_counted bytes) fault → IfErr r (λ e. IsFindFault known failed e)
  err_at_summary (summary.Text fault) r is reported = err_at_text fault.line fault.kind r is reported
  err_at_summary summary.OutOfMemory (Ok found) is reported = absurd is
  err_at_summary summary.OutOfMemory (Err e) is reported =
      let P : RunFault ℕ → Type 0 = λ f. IsFindFault known failed f in
      subst P (sym is) same

-- ---- the verdict

-- what the first illegal event reports, its line reports
line_reported : (nodes : List ReadNode) (illegal : Option Illegal) → ReportsFirst nodes illegal → ReportsIllegal nodes (line_of_illegal illegal)
line_reported nodes None first = first
line_reported nodes (Some illegal) first = first.line

-- the verdict is that of the journals that were found, and their totals stand behind it
pub check_of : (options : CheckOptions) (bytes text : List ℕ) (found : Summed) → IsFound options.summary bytes found → text ≡ verdict_text (line_of_illegal found.illegal) ++ totals_lines_from 0 found.totals.items → IsCheckOf options bytes found.illegal text
check_of options bytes text found is written =
    let reported = line_reported is.journals.nodes found.illegal is.first in
    record {
      front = verdict_text (line_of_illegal found.illegal);
      verdict = record {
        journals = is.journals;
        spelled = is.spelled;
        illegal = line_of_illegal found.illegal;
        reported = reported;
        free_choice = λ can. free_choice EveryVersion max_counted bytes is.journals (line_of_illegal found.illegal) is.spelled reported is.journals is.spelled can;
        answer = refl;
        written = refl;
      };
      first = is.first;
      totals = found.totals.items;
      totals_are = is.totals_are;
      text_is = written;
    }

pub check_of_input : (options : CheckOptions) (input bytes text : List ℕ) (illegal : Option Illegal) → IsFrontOf max_counted bytes input → IsCheckOf options bytes illegal text → IsCheckOf options input illegal text
check_of_input options input bytes text illegal read c =
    let v = c.verdict in
    record {
      front = c.front;
      verdict = record { journals = v.journals; spelled = sym (same_journals EveryVersion max_counted input bytes read) ∙ v.spelled; illegal = v.illegal; reported = v.reported; free_choice = v.free_choice; answer = v.answer; written = v.written };
      first = c.first;
      totals = c.totals;
      totals_are = c.totals_are;
      text_is = c.text_is;
    }

-- ---- how it ends

-- a reading of any length, whose answer to what was read is one to the whole input
module _ {A : Type 0} (IsAnswer : List ℕ → A → List ℕ → Type 0) (of_input : (input bytes text : List ℕ) (x : A) → IsFrontOf max_counted bytes input → IsAnswer bytes x text → IsAnswer input x text) (known : Option (List ℕ)) where
  abbrev HasFault : List ℕ → Fault → Type 0
  HasFault bytes fault = journals_within max_counted bytes ≡ Err fault

  -- nothing was found
  pub ends_at_find : (old : Option (List ℕ)) (reader_failed writer_failed : Bool) (fault : RunFault ℕ) (r : Result A (RunFault ℕ)) → IsFindFault known reader_failed fault → writer_failed ≡ false → r ≡ Err fault
      → LongEnds IsAnswer known old old reader_failed writer_failed r
  ends_at_find old rf wf (Text line kind) r why f is =
      ends_early max_counted IsAnswer HasFault of_input (fault_of_journal EveryVersion max_counted) known why.0 why.1 old rf wf (reading.Text line kind) r why.2 why.3 f is
  ends_at_find old rf wf OutOfMemory r why f is = rw is (keeps_same old, why, f)
  ends_at_find old rf wf Read r why f is = rw is (keeps_same old, why, f)
  ends_at_find old rf wf Write r why f is = absurd why

  module _ (bytes : List ℕ) (read : IfSome known (IsFrontOf max_counted bytes)) where
    -- the writer took a front of the text
    pub ends_at_write : (old new : Option (List ℕ)) (reader_failed writer_failed : Bool) (x : A) (text : List ℕ) (o : Option (Unit {0})) (r : Result A (RunFault ℕ)) → IsAnswer bytes x text → o ≡ None
        → IfNone o (WritesFront old new text) → IfNone o (writer_failed ≡ true) → reader_failed ≡ false → r ≡ Err Write → LongEnds IsAnswer known old new reader_failed writer_failed r
    ends_at_write old new rf wf x text o r answer none cut failed e is =
        ends_cut max_counted IsAnswer HasFault of_input (fault_of_journal EveryVersion max_counted) known bytes read old new rf wf x text r answer (rw none at cut) e (rw none at failed) is

    -- the text was written
    pub ends_reported : (old new : Option (List ℕ)) (reader_failed writer_failed : Bool) (x : A) (text : List ℕ) (o : Option (Unit {0})) (u : Unit {0}) → IsAnswer bytes x text → ok_or o at_writer ≡ Ok u
        → IfSome o (λ _. Appends old new text) → IfSome o (λ _. writer_failed ≡ false) → reader_failed ≡ false → LongEnds IsAnswer known old new reader_failed writer_failed (Ok x)
    ends_reported old new rf wf x text (Some v) u answer some done flag e =
        ends_written max_counted IsAnswer HasFault of_input (fault_of_journal EveryVersion max_counted) known bytes read old new rf wf x text (Ok x) answer done e flag refl
    ends_reported old new rf wf x text None u answer some done flag e = absurd cc

-- no call of the writer was made
pub none_at_find : {A : Type 0} (known : Option (List ℕ)) (r : Result A (RunFault ℕ)) (reader_failed writer_failed : Bool) (fault : RunFault ℕ) (calls : List DeviceCall) → IsFindFault known reader_failed fault → r ≡ Err fault → WritesAnswer r writer_failed calls calls
none_at_find known r rf wf (Text line kind) calls why is = rw is refl
none_at_find known r rf wf OutOfMemory calls why is = rw is refl
none_at_find known r rf wf Read calls why is = rw is refl
none_at_find known r rf wf Write calls why is = absurd why

-- a writer that failed is reported as that
pub cut_from : (o : Option (Unit {0})) (fault : RunFault ℕ) → ok_or o Write ≡ Err fault → (o ≡ None) × (Write ≡ fault)
cut_from (Some u) fault e = absurd cc
cut_from None fault e = (refl, cc)
