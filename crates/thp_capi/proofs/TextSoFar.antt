-- What the text that came to a check, and a part behind it, have its verdict be.
use Rattle.std.proofs.Common.{◌≡◌, ◌∙◌, ◌++◌, ap, sym, [], Ok, Err, append_assoc, append-nil, IfOk, IfErr, Result}
use Rattle.thp_journal_reader.specs.declared.journals.ReadJournals.{ReadJournals}
use Rattle.thp_journal_reader.specs.Prelude.{ReportsFirst, journals_within, JournalReadSoFar, result_with}
use Rattle.thp_script.specs.Prelude.{max_counted, Text}
use Rattle.thp_capi.specs.LongChecks.{CheckHasRead, CheckReadsOn, IsVerdictOn, Verdict}

-- a part more
pub reads_on_ok : {E : Type 0} (old : JournalReadSoFar) (part : Text) (r : Result JournalReadSoFar E) → IfOk r (λ new. (more : Text) → result_with new more ≡ result_with old (part ++ more)) → IfOk r (CheckReadsOn part old)
reads_on_ok old part (Ok new) on = λ text has more. on more ∙ has (part ++ more) ∙ ap (journals_within max_counted) (sym (append_assoc text part more))
reads_on_ok old part (Err e) on = tt

-- the verdict, reported as the check reports it
pub judged : (check : JournalReadSoFar) (v : Verdict)
    → IfOk v (λ illegal. (journals : ReadJournals) × (result_with check [] ≡ Ok journals) × ReportsFirst journals.nodes illegal)
    → IfErr v (λ fault. result_with check [] ≡ Err (fault.line, fault.kind))
    → (text : Text) → CheckHasRead check text → IsVerdictOn text v
judged check (Ok illegal) first fault text has = (first.0, ap (journals_within max_counted) (sym (append-nil text)) ∙ sym (has []) ∙ first.1, first.2)
judged check (Err f) first fault text has = ap (journals_within max_counted) (sym (append-nil text)) ∙ sym (has []) ∙ fault
