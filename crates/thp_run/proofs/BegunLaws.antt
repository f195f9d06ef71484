-- Scripts that are run as they are read: how such a run begins and ends.
use Rattle.std.proofs.Common.{◌≡◌, ◌∙◌, ℕ, Bool, false, List, [], Err, Ok, Option, ap, arith, inl, refl, sym, IfErr, IfSome, Result, append-nil}
use Rattle.atomic_table.specs.Seated.{TableId}
use Rattle.thp_cell.specs.Prelude.{PassState}
use Rattle.thp_cli.specs.Prelude.{ReadsOn, run_fault}
use Rattle.thp_cli.proofs.CallLaws.{reading_ended, reading_none}
use Rattle.thp_script.specs.Prelude.{max_input, after_setup, spelled_with, ReadSoFar, script_of, Fault, ReportsFault, IsInputOf}
use Rattle.thp_cli.specs.declared.calls.DeviceCall.{DeviceCall}
use Rattle.thp_run.specs.InParts.{HasBegun}
use Rattle.thp_run.proofs.BegunRunLaws.{begun_all, begun_nodes, starts_new}
use Rattle.thp_worker.specs.declared.reply.SectionOutcome.{SectionOutcome}
use Rattle.thp_run.specs.Passes.{fronts_in, Passes}
use Rattle.thp_worker.proofs.StepLaws.{goes_trans}
use Rattle.thp_script.specs.declared.script.ScriptSections.{ScriptSections}
use Rattle.thp_script.specs.declared.settings.Settings.{Settings}
use Rattle.thp_script.specs.declared.fault.ReadFault.{ReadFault}
use Rattle.thp_script.specs.declared.fault.ReadFault.TheVariants as reading
use Rattle.thp_cli.specs.declared.fault.RunFault.{RunFault}
use Rattle.thp_run.specs.ScriptInProgress.{EndsBeforeRun, HasRead, IsScriptInProgress}

-- a run that has just begun, and a script of which nothing has come
pub is_script_in_progress : (s : Settings) (cells : List TableId) (old : List PassState) (q : Passes) (setup : SectionOutcome) (script : ReadSoFar) → HasBegun s cells old (fronts_in q) [] (fronts_in q) setup → script.settings ≡ s → IsScriptInProgress script q setup
is_script_in_progress s cells old q setup script b is =
    let new = starts_new s cells old b.new (fronts_in q) b.starts s.workers refl in
    record {
      nodes = begun_nodes s cells old (fronts_in q) [] (fronts_in q) setup b ∙ sym (ap (λ (t : Settings). t.nodes) is);
      all = begun_all s cells old (fronts_in q) [] (fronts_in q) setup b;
      some = record { low = omega (arith, new.first); high = omega (arith, new.end) };
      opened = b.did.begins.known.count;
    }

-- a run is begun still once more has been read
pub begun_read : (s : Settings) (cells : List TableId) (old : List PassState) (script script' : ReadSoFar) (q q' : Passes) (setup setup' : SectionOutcome) (bytes : List ℕ)
    → HasBegun s cells old (fronts_in q) [] (fronts_in q) setup → (r : HasRead script q setup bytes script' q' setup') → HasBegun s cells old (fronts_in q) r.commands (fronts_in q') setup'
begun_read s cells old script script' q q' setup setup' bytes b r = record {
  new = b.new;
  starts = b.starts;
  goes = goes_trans 0 (fronts_in q) (fronts_in q) (fronts_in q') b.goes r.goes;
  did = r.did (fronts_in q) [] b.did;
}

-- no read was made
pub reads_none : (failed : Bool) (calls : List DeviceCall) → failed ≡ false → ReadsOn max_input failed calls calls
reads_none failed calls is = rw is (reading_ended max_input max_input false calls calls [] calls (reading_none max_input calls) (inl refl) (omega arith) (sym (append-nil calls)))

-- all that was read, and what was read behind the commands that are done
pub read_whole : (s : Settings) (script script' : ReadSoFar) (q q' : Passes) (setup setup' : SectionOutcome) (bytes : List ℕ) (rest : ScriptSections) → (r : HasRead script q setup bytes script' q' setup') → spelled_with script bytes ≡ script_of s bytes
    → spelled_with script' [] ≡ Ok rest → script_of s bytes ≡ Ok (after_setup r.commands rest)
read_whole s script script' q q' setup setup' bytes rest r begins is = grind (arith, append-nil)

-- the first error of what was read after the commands that are done
read_faulty : (s : Settings) (script script' : ReadSoFar) (q q' : Passes) (setup setup' : SectionOutcome) (bytes : List ℕ) (fault : Fault) → (r : HasRead script q setup bytes script' q' setup') → spelled_with script bytes ≡ script_of s bytes
    → spelled_with script' [] ≡ Err fault → script_of s bytes ≡ Err fault
read_faulty s script script' q q' setup setup' bytes fault r begins is = grind (arith, append-nil)

-- a script with an error, or too little memory for it, ends before its run
pub ends_at_fault : {A : Type 0} (s : Settings) (known : Option (List ℕ)) (failed : Bool) (script script' : ReadSoFar) (q q' : Passes) (setup setup' : SectionOutcome) (bytes : List ℕ) → IfSome known (IsInputOf bytes) → (r : HasRead script q setup bytes script' q' setup')
    → spelled_with script bytes ≡ script_of s bytes → failed ≡ false → (fault : ReadFault) → ReportsFault (spelled_with script' []) fault → (result : Result A (RunFault ℕ)) → result ≡ Err (run_fault fault) → IfErr result (EndsBeforeRun s known failed)
ends_at_fault s known failed script script' q q' setup setup' bytes read r begins flag (reading.Text line kind) reported result is =
    rw is (flag, record { bytes = bytes; read = read; reported = read_faulty s script script' q q' setup setup' bytes (line, kind) r begins reported })
ends_at_fault s known failed script script' q q' setup setup' bytes read r begins flag reading.OutOfMemory reported result is = rw is flag
