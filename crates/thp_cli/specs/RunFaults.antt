-- The errors of a run.
use Rattle.std.specs.Prelude.{◌≡◌, ◌++◌, ℕ, Bool, true, false, List, codes, decimal}
use Rattle.thp_script.specs.Prelude.{kind_word}
use Rattle.thp_script.specs.declared.fault.ReadFault.{ReadFault}
use Rattle.thp_script.specs.declared.fault.ReadFault.TheVariants as reading
use Rattle.thp_script.specs.declared.fault.LongReadFault.{LongReadFault}
use Rattle.thp_script.specs.declared.fault.LongReadFault.TheVariants as summary
use Rattle.thp_cli.specs.declared.fault.RunFault.{RunFault}
use Rattle.thp_cli.specs.declared.fault.RunFault.TheVariants.{Text, OutOfMemory, Read, Write}

-- the text that a fault of a run displays: for a text's first error its line and the word of its kind
abbrev pub fault_text : RunFault ℕ → List ℕ
fault_text (Text line kind) = codes "line " ++ decimal line ++ codes ": " ++ kind_word kind
fault_text OutOfMemory = codes "out of memory"
fault_text Read = codes "read failed"
fault_text Write = codes "write failed"

-- why there is no summary, as a fault of a check
abbrev pub fault_of_long_read : LongReadFault → RunFault ℕ
fault_of_long_read (summary.Text fault) = Text fault.line fault.kind
fault_of_long_read summary.OutOfMemory = OutOfMemory

-- a failed read sets the reader's flag, and lack of memory does not
abbrev pub IsReadingFault : Bool → RunFault ℕ → Type 0
IsReadingFault failed Read = failed ≡ true
IsReadingFault failed OutOfMemory = failed ≡ false
IsReadingFault failed Write = ⊥
IsReadingFault failed (Text line kind) = ⊥

-- a fault of reading, as a fault of the run
abbrev pub run_fault : ReadFault → RunFault ℕ
run_fault (reading.Text line kind) = Text line kind
run_fault reading.OutOfMemory = OutOfMemory
