-- The result of the check of a text, as numbers.
use Rattle.std.specs.Prelude.{◌≡◌, ℕ, Option, None, Some, Result, Ok, Err, IfOk, IfErr, All}
use Rattle.thp_journal_reader.specs.declared.journals.ReadJournals.{ReadJournals}
use Rattle.thp_journal_reader.specs.Prelude.{CanBeLegal, ReportsIllegal, journals_of}
use Rattle.thp_script.specs.declared.fault.ReadFault.{ReadFault}
use Rattle.thp_script.specs.declared.fault.ReadFault.TheVariants.{Text as TextFault, OutOfMemory}
use Rattle.thp_script.specs.declared.fault.TextKind.{TextKind}
use Rattle.thp_script.specs.declared.fault.TextKind.TheVariants.{TooLong, BadByte, Cut, BadWord, BadCount, BadNumber, BadSet, BadOrder}
use Rattle.thp_script.specs.Prelude.{ReportsFault, Text}

-- the line of the first illegal event, if there is one, or why the text could not be read
abbrev pub CheckAnswer : Type 0
CheckAnswer = Result (Option ℕ) ReadFault

-- the result is right for the text: the journals in it are legal, or the line is that of the first event that does not fit those
-- before it; they are legal if some choice of blocks makes them so; or the result is the text's first error
pub record ReportsText (text : Text) (answer : CheckAnswer) : Type 0 where
  pub line : IfOk answer (λ line. (journals : ReadJournals) × (journals_of text ≡ Ok journals) × ReportsIllegal journals.nodes line)
  pub free_choice : IfOk answer (λ line. (journals : ReadJournals) → journals_of text ≡ Ok journals → All CanBeLegal journals.nodes → line ≡ None)
  pub fault : IfErr answer (ReportsFault (journals_of text))

-- the code of a kind of error
abbrev pub text_code : TextKind → ℕ
text_code TooLong = 22
text_code BadByte = 23
text_code Cut = 24
text_code BadWord = 25
text_code BadCount = 26
text_code BadNumber = 27
text_code BadSet = 28
text_code BadOrder = 29

-- the code and the line (0: none)
abbrev pub code_and_line : CheckAnswer → ℕ × ℕ
code_and_line (Ok None) = (0, 0)
code_and_line (Ok (Some line)) = (21, line)
code_and_line (Err (TextFault line kind)) = (text_code kind, line)
code_and_line (Err OutOfMemory) = (11, 0)
