-- The input, the output and the result of the check of a journal of any length.
use Rattle.std.specs.Prelude.{◌≡◌, ◌++◌, ℕ, Bool, true, false, List, [], Option, Some, None, Result, Ok, Err, IfSome, if◌then◌else◌, option_map}
use Rattle.thp_script.specs.Prelude.{max_counted, IsFrontOf}
use Rattle.thp_check.specs.Prelude.{explanation}
use Rattle.thp_journal_reader.specs.declared.long_check.Illegal.{Illegal}
use Rattle.thp_journal_reader.specs.declared.journals.ReadJournals.{ReadJournals}
use Rattle.thp_journal_reader.specs.declared.journals.ReadNode.{ReadNode}
use Rattle.thp_journal_tools.specs.declared.checking.Summed.{Summed}
use Rattle.thp_journal_reader.specs.Prelude.{ReportsFirst, journals_within, is_legal, IsVerdictWithin}
use Rattle.thp_journal_tools.specs.Summaries.{AreSummaries}
use Rattle.thp_journal_writer.specs.Totals.{totals_lines_from}
use Rattle.thp_journal_writer.specs.declared.totals.Totals.{Totals}
use Rattle.thp_cli.specs.declared.fault.RunFault.{RunFault}
use Rattle.thp_cli.specs.declared.fault.RunFault.TheVariants.{Text, OutOfMemory, Read, Write}
use Rattle.thp_cli.specs.Prelude.{ReadsOn, Device, Source, PassageEnds, WritesAnswer}
use Rattle.thp_journal_tools.specs.declared.checking.CheckFinding.{CheckFinding}
use Rattle.thp_journal_tools.specs.declared.program.CheckOptions.{CheckOptions}

-- the line of an illegal event
abbrev pub line_of_illegal : Option Illegal → Option ℕ
line_of_illegal None = None
line_of_illegal (Some illegal) = Some illegal.line

-- the explanation of the first illegal event, if it is requested
abbrev pub explanation_of : CheckOptions → Option Illegal → Option (List ℕ)
explanation_of options illegal = if options.explain then option_map (λ i. explanation i.line i.event i.misfit) illegal else None

-- the totals of each node up to its first illegal event, if they are requested
abbrev pub AreTotals : Bool → List ReadNode → List Totals → Type 0
AreTotals false nodes totals = totals ≡ []
AreTotals true nodes totals = AreSummaries nodes totals

-- the text is the verdict on a journal, followed by the totals if they are requested; and this is its first illegal event
pub record IsCheckOf (options : CheckOptions) (input : List ℕ) (illegal : Option Illegal) (text : List ℕ) : Type 0 where
  pub front : List ℕ
  pub verdict : IsVerdictWithin max_counted input (is_legal (line_of_illegal illegal)) front
  pub first : ReportsFirst verdict.journals.nodes illegal
  pub totals : List Totals
  pub totals_are : AreTotals options.summary verdict.journals.nodes totals
  pub text_is : text ≡ front ++ totals_lines_from 0 totals

-- the result for the text of a journal is right
pub record IsFound (summary : Bool) (bytes : List ℕ) (found : Summed) : Type 0 where
  pub journals : ReadJournals
  pub spelled : journals_within max_counted bytes ≡ Ok journals
  pub first : ReportsFirst journals.nodes found.illegal
  pub totals_are : AreTotals summary journals.nodes found.totals.items

-- why there is no result, for the bytes that could be read
abbrev pub IsFindFault : Option (List ℕ) → Bool → RunFault ℕ → Type 0
IsFindFault known failed (Text line kind) = (bytes : List ℕ) × IfSome known (IsFrontOf max_counted bytes) × (journals_within max_counted bytes ≡ Err (line, kind)) × (failed ≡ false)
IsFindFault known failed OutOfMemory = failed ≡ false
IsFindFault known failed Read = failed ≡ true
IsFindFault known failed Write = ⊥

-- the view that contracts have of the result: line numbers of any size
abbrev pub found_in : Result CheckFinding (RunFault ℕ) → Result (Option Illegal) (RunFault ℕ)
found_in (Ok checked) = Ok checked.illegal
found_in (Err fault) = Err fault

-- how the reading of a journal of any length ends: with a result, or with the first error of the journal
abbrev pub LongEnds : {A : Type 0} → (List ℕ → A → List ℕ → Type 0) → Option (List ℕ) → Option (List ℕ) → Option (List ℕ) → Bool → Bool → Result A (RunFault ℕ) → Type 0
LongEnds IsAnswer = PassageEnds IsAnswer (λ bytes fault. journals_within max_counted bytes ≡ Err fault)

-- how the check of a journal ends: with its verdict, or with the first error of the journal
abbrev pub JournalCheckEnds : CheckOptions → Option (List ℕ) → Option (List ℕ) → Option (List ℕ) → Bool → Bool → Result (Option Illegal) (RunFault ℕ) → Type 0
JournalCheckEnds options = LongEnds (IsCheckOf options)

-- the check ended like this: with the first illegal event, or none
pub record JournalIsChecked (options : CheckOptions) (input : Source) (output : Device) (result : Result (Option Illegal) (RunFault ℕ)) : Type 0 where
  pub ends : JournalCheckEnds options input.bytes output.before output.after input.failed output.failed result
  pub reads : ReadsOn max_counted input.failed input.called input.calls
  pub writes : WritesAnswer result output.failed output.called output.calls
