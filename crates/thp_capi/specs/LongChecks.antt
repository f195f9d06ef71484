-- The view that contracts have of the check of a handle: the text read so far, or the verdict on it.
use Rattle.std.specs.Prelude.{◌≡◌, ◌++◌, ℕ, List, [], Option, Some, None, Result, Ok, Err, ⊤}
use Rattle.thp_check.specs.Prelude.{explanation}
use Rattle.thp_journal_reader.specs.declared.long_check.Illegal.{Illegal}
use Rattle.thp_script.specs.declared.fault.TextFault.{TextFault}
use Rattle.thp_journal_reader.specs.declared.journals.ReadJournals.{ReadJournals}
use Rattle.thp_journal_reader.specs.Prelude.{ReportsFirst, journals_within, JournalReadSoFar, result_with}
use Rattle.thp_history.specs.declared.refusal.Refusal.TheVariants.{OutOfMemory}
use Rattle.thp_script.specs.Prelude.{max_counted, Text}
use Rattle.thp_capi.specs.Calls.{Written}
use Rattle.thp_capi.specs.Checks.{text_code}
use Rattle.thp_capi.specs.Codes.{Answer}
use Rattle.thp_capi.specs.declared.checks.CheckStage.{CheckStage}
use Rattle.thp_capi.specs.declared.checks.CheckStage.TheVariants.{Reading, Judged}
use Rattle.thp_capi.specs.declared.codes.Fault.{Fault}
use Rattle.thp_capi.specs.declared.codes.Fault.TheVariants.{Refused, Empty, InUse, Finished, NoReason}

-- this text was read by the check: whatever follows it, the check reports the verdict on the whole text
abbrev pub CheckHasRead : JournalReadSoFar → Text → Type 0
CheckHasRead check text = (more : Text) → result_with check more ≡ journals_within max_counted (text ++ more)

-- the first illegal event, or none; or the text's first error
abbrev pub Verdict : Type 0
Verdict = Result (Option Illegal) TextFault

-- the verdict is that on the text: each of its nodes is legal, or the event is the first that does not fit, with its reason; or
-- the error is the text's first
abbrev pub IsVerdictOn : Text → Verdict → Type 0
IsVerdictOn text (Ok illegal) = (journals : ReadJournals) × (journals_within max_counted text ≡ Ok journals) × ReportsFirst journals.nodes illegal
IsVerdictOn text (Err fault) = journals_within max_counted text ≡ Err (fault.line, fault.kind)

-- the code and the line (0: none)
abbrev pub verdict_numbers : Verdict → ℕ × ℕ
verdict_numbers (Ok None) = (0, 0)
verdict_numbers (Ok (Some illegal)) = (21, illegal.line)
verdict_numbers (Err fault) = (text_code fault.kind, fault.line)

-- why the first illegal event does not fit, as text: it exists after the check found such an event
abbrev pub reason_of : CheckStage → Option Text
reason_of (Judged (Ok (Some illegal))) = Some (explanation illegal.line illegal.event illegal.misfit)
reason_of _ = None

-- why no reason is returned: there is none, or memory for it could not be allocated
abbrev pub WhyNoReason : Option Text → Fault → Type 0
WhyNoReason None NoReason = ⊤
WhyNoReason (Some text) (Refused OutOfMemory) = ⊤
WhyNoReason _ _ = ⊥

-- ---- the effects of the calls

-- a check that has read nothing; or memory for it could not be allocated; or the handle was not empty
abbrev pub CheckMade : Option CheckStage → Option CheckStage → Answer → Type 0
CheckMade None (Some (Reading new)) answer = (answer ≡ Ok tt) × CheckHasRead new []
CheckMade None None answer = answer ≡ Err (Refused OutOfMemory)
CheckMade (Some old) (Some new) answer = (new ≡ old) × (answer ≡ Err InUse)
CheckMade _ _ answer = ⊥

-- the part follows the text read before
abbrev pub CheckReadsOn : Text → JournalReadSoFar → JournalReadSoFar → Type 0
CheckReadsOn part old new = (text : Text) → CheckHasRead old text → CheckHasRead new (text ++ part)

-- the part was read; or memory could not be allocated, and the handle is empty; or the check was finished before, and is
-- unchanged
abbrev pub CheckReads : Text → Option CheckStage → Option CheckStage → Answer → Type 0
CheckReads part None None answer = answer ≡ Err Empty
CheckReads part (Some (Reading old)) (Some (Reading new)) answer = (answer ≡ Ok tt) × CheckReadsOn part old new
CheckReads part (Some (Reading old)) None answer = answer ≡ Err (Refused OutOfMemory)
CheckReads part (Some (Judged v)) (Some new) answer = (answer ≡ Err Finished) × (new ≡ Judged v)
CheckReads part _ _ answer = ⊥

-- the verdict is that on the text read, or the one that existed
abbrev pub Judges : CheckStage → Verdict → Type 0
Judges (Reading check) v = (text : Text) → CheckHasRead check text → IsVerdictOn text v
Judges (Judged u) v = v ≡ u

-- the check is finished: code and line are those of its verdict
abbrev pub LongCheckEnds : Option CheckStage → Option CheckStage → ℕ → ℕ → ℕ → Type 0
LongCheckEnds None None code before line = (code ≡ 12) × (line ≡ before)
LongCheckEnds (Some old) (Some (Judged v)) code before line = Judges old v × ((code, line) ≡ verdict_numbers v)
LongCheckEnds _ _ code before line = ⊥

-- the reason is at the start of the buffer, or does not fit; the size is that of the reason. Or there is none, or memory for it
-- could not be allocated
abbrev pub ReasonReported : Option Text → List ℕ → List ℕ → ℕ → ℕ → Answer → Type 0
ReasonReported (Some text) old new before size answer = Written text old new before size answer
ReasonReported None old new before size (Err NoReason) = (size ≡ before) × (new ≡ old)
ReasonReported _ old new before size _ = ⊥

-- the same for a handle, whose content does not change
abbrev pub CheckReports : Option CheckStage → Option CheckStage → List ℕ → List ℕ → ℕ → ℕ → Answer → Type 0
CheckReports None None old new before size answer = (answer ≡ Err Empty) × (size ≡ before) × (new ≡ old)
CheckReports (Some s) (Some t) old new before size answer = (t ≡ s) × ReasonReported (reason_of s) old new before size answer
CheckReports _ _ old new before size answer = ⊥
