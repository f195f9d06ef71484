-- The input, the output and the result of writing a journal's script, and what standard error gets.
use Rattle.std.specs.Prelude.{◌≡◌, ◌==◌, ◌++◌, ℕ, Bool, true, false, List, [], ◌∷◌, Option, None, Some, Result, Ok, Err, IfSome, codes, if◌then◌else◌, decimal}
use Rattle.std.specs.Io.KnownBytes.{Appends}
use Rattle.thp_script.specs.Prelude.{max_counted, IsFrontOf}
use Rattle.thp_check.specs.Prelude.{explanation}
use Rattle.thp_journal_scripts.specs.declared.folding.Moved.{Moved}
use Rattle.thp_journal_reader.specs.declared.long_check.Illegal.{Illegal}
use Rattle.thp_journal_reader.specs.declared.journals.ReadJournals.{ReadJournals}
use Rattle.thp_journal_reader.specs.Prelude.{ReportsFirst, journals_for_scripts, verdict_text}
use Rattle.thp_journal_scripts.specs.Prelude.{IsScriptOf}
use Rattle.thp_cli.specs.declared.fault.RunFault.{RunFault}
use Rattle.thp_cli.specs.declared.fault.RunFault.TheVariants.{Text, OutOfMemory, Read, Write}
use Rattle.thp_cli.specs.Prelude.{ReadsOn, Device, Source}
use Rattle.thp_journal_tools.specs.declared.program.CheckOptions.{CheckOptions}
use Rattle.thp_journal_scripts.specs.declared.script_check.Scripted.{Scripted}

-- ---- the script

-- The bytes are of journals with this first illegal event, and the text is the script of the events before it; what it does in
-- another order, and the number of tries out of turn, are as found.
pub record IsScripted (bytes text : List ℕ) (found : Scripted) : Type 0 where
  pub journals : ReadJournals
  pub spelled : journals_for_scripts bytes ≡ Ok journals
  pub first : ReportsFirst journals.nodes found.illegal
  pub script : IsScriptOf journals.nodes found.illegal text found.moved found.out_of_turn

-- the writer took a text
abbrev pub WriterGrows : Option (List ℕ) → Option (List ℕ) → Type 0
WriterGrows old new = (text : List ℕ) × Appends old new text

-- a device failed, or memory could not be allocated
abbrev pub IsDeviceFault : Bool → Bool → RunFault ℕ → Type 0
IsDeviceFault reader_failed writer_failed (Text line kind) = ⊥
IsDeviceFault reader_failed writer_failed OutOfMemory = (reader_failed ≡ false) × (writer_failed ≡ false)
IsDeviceFault reader_failed writer_failed Read = (reader_failed ≡ true) × (writer_failed ≡ false)
IsDeviceFault reader_failed writer_failed Write = (reader_failed ≡ false) × (writer_failed ≡ true)

-- the result for the bytes that could be read, and what the writer took
abbrev pub IsScriptEnd : Option (List ℕ) → Option (List ℕ) → Option (List ℕ) → Bool → Bool → Result Scripted (RunFault ℕ) → Type 0
IsScriptEnd known old new reader_failed writer_failed (Ok found) =
    ((bytes : List ℕ) × (text : List ℕ) × IfSome known (IsFrontOf max_counted bytes) × Appends old new text × IsScripted bytes text found) × (reader_failed ≡ false) × (writer_failed ≡ false)
IsScriptEnd known old new reader_failed writer_failed (Err (Text line kind)) =
    ((bytes : List ℕ) × IfSome known (IsFrontOf max_counted bytes) × (journals_for_scripts bytes ≡ Err (line, kind))) × (reader_failed ≡ false) × (writer_failed ≡ false)
IsScriptEnd known old new reader_failed writer_failed (Err fault) = IsDeviceFault reader_failed writer_failed fault

-- how it ends: the writer took a text, and the result is right
abbrev pub ScriptEnds : Option (List ℕ) → Option (List ℕ) → Option (List ℕ) → Bool → Bool → Result Scripted (RunFault ℕ) → Type 0
ScriptEnds known old new reader_failed writer_failed result = WriterGrows old new × IsScriptEnd known old new reader_failed writer_failed result

-- the script was written like this: with the first illegal event, or none
pub record Scripts (input : Source) (output : Device) (result : Result Scripted (RunFault ℕ)) : Type 0 where
  pub ends : ScriptEnds input.bytes output.before output.after input.failed output.failed result
  pub reads : ReadsOn max_counted input.failed input.called input.calls

-- ---- standard error

-- the verdict about an illegal journal, and the explanation if that is requested
abbrev pub illegal_text : CheckOptions → Option Illegal → List ℕ
illegal_text options None = []
illegal_text options (Some i) = codes "thpcheck: " ++ verdict_text (Some i.line) ++ (if options.explain then explanation i.line i.event i.misfit else [])

-- a line with a count, unless that is 0
abbrev pub note : ℕ → List ℕ → List ℕ → List ℕ
note n one many = if n == 0 then [] else codes "thpcheck: " ++ decimal n ++ codes " " ++ (if n == 1 then one else many)

-- what the script does in another order than the journal
unfoldable pub moved_text : Moved → List ℕ
moved_text moved =
    note moved.batches (codes "batch moved after the one that was open\n") (codes "batches moved after the one that was open\n")
    ++ note moved.calls (codes "call moved before a scan that it interrupted\n") (codes "calls moved before a scan that they interrupted\n")
    ++ note moved.events (codes "take, try or put-back left to a scan\n") (codes "takes, tries and put-backs left to scans\n")
    ++ note moved.left (codes "page put back at the end\n") (codes "pages put back at the end\n")

-- the verdict, what is moved, and the number of tries out of turn
unfoldable pub notes_text : CheckOptions → Scripted → List ℕ
notes_text options found =
    illegal_text options found.illegal
    ++ moved_text found.moved
    ++ note found.out_of_turn (codes "try came in another order than the takes\n") (codes "tries came in another order than the takes\n")

-- the text, if there is one
abbrev pub some_text : List ℕ → Option (List ℕ)
some_text [] = None
some_text (b ∷ bytes) = Some (b ∷ bytes)

abbrev pub notes_of : CheckOptions → Scripted → Option (List ℕ)
notes_of options found = some_text (notes_text options found)
