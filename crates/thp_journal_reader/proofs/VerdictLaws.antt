-- What is read of a journal with a limit, and the verdict on it.
use Rattle.std.proofs.Common.{◌≡◌, ◌∙◌, ◌<◌, ℕ, Bool, List, Err, arith, length, refl, sym, append-nil, length-append}
use Rattle.std.proofs.lemmas.Bool.{cases_lt, lt-ltb}
use Rattle.thp_script.specs.Prelude.{Fault, IsFrontOf}
use Rattle.thp_script.specs.declared.fault.TextKind.TheVariants.{TooLong}
use Rattle.thp_journal_reader.specs.declared.line.Accepted.{Accepted}
use Rattle.thp_journal_reader.specs.Journals.{journals_accepted}
use Rattle.thp_journal_reader.specs.Verdicts.{IsVerdictAccepted}

journal_too_long : (v : Accepted) (most : ℕ) (text : List ℕ) → most < length text → journals_accepted v most text ≡ Err (0, TooLong)
unfolding journals_accepted
journal_too_long v most text lt = rw (lt-ltb most (length text) lt) refl

pub same_journals : (v : Accepted) (most : ℕ) (input bytes : List ℕ) → IsFrontOf most bytes input → journals_accepted v most bytes ≡ journals_accepted v most input
same_journals v most input bytes read = grind (arith, cases_lt, journal_too_long, length-append, append-nil)

pub verdict_of_input : (v : Accepted) (most : ℕ) (input bytes text : List ℕ) (legal : Bool) → IsFrontOf most bytes input → IsVerdictAccepted v most bytes legal text → IsVerdictAccepted v most input legal text
verdict_of_input v most input bytes text legal read given = record { journals = given.journals; spelled = sym (same_journals v most input bytes read) ∙ given.spelled; illegal = given.illegal; reported = given.reported; free_choice = given.free_choice; answer = given.answer; written = given.written }

pub fault_of_journal : (v : Accepted) (most : ℕ) (input bytes : List ℕ) (fault : Fault) → IsFrontOf most bytes input → journals_accepted v most bytes ≡ Err fault → journals_accepted v most input ≡ Err fault
fault_of_journal v most input bytes fault read reported = sym (same_journals v most input bytes read) ∙ reported
