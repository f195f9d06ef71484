-- How the writing of a script ends, from what its parts did.
use Rattle.std.proofs.Common.{◌≡◌, ◌∙◌, ◌++◌, ℕ, Bool, true, false, List, [], Option, Some, None, Ok, Err, append_assoc, ap, refl, subst, sym, IfErr, IfNone, IfSome, IsErrAnd, Result, ok_or, append-nil}
use Rattle.std.specs.Io.KnownBytes.{Appends, Keeps}
use Rattle.thp_cli.specs.declared.fault.RunFault.{RunFault}
use Rattle.thp_cli.specs.declared.fault.RunFault.TheVariants.{Text, OutOfMemory, Read, Write}
use Rattle.thp_cli.specs.Prelude.{WritesFront, fault_of_long_read}
use Rattle.thp_journal_tools.specs.Scripting.{IsDeviceFault, IsScriptEnd, WriterGrows}
use Rattle.thp_journal_scripts.specs.declared.script_check.Scripted.{Scripted}
use Rattle.thp_script.specs.Prelude.{max_counted, IsFrontOf}
use Rattle.thp_script.specs.declared.fault.LongReadFault.{LongReadFault}
use Rattle.thp_script.specs.declared.fault.LongReadFault.TheVariants as summary
use Rattle.thp_journal_reader.specs.Prelude.{journals_for_scripts, ReportsLongReadFault}

-- ---- a writer that takes texts

pub grows_none : (a : Option (List ℕ)) → WriterGrows a a
grows_none None = ([], tt)
grows_none (Some xs) = ([], sym (append-nil xs))

pub grows_more : (a b c : Option (List ℕ)) → WriterGrows a b → WriterGrows b c → WriterGrows a c
grows_more None b c h k = ([], tt)
grows_more (Some xs) None c h k = absurd h.1
grows_more (Some xs) (Some ys) None h k = absurd k.1
grows_more (Some xs) (Some ys) (Some zs) h k = (h.0 ++ k.0, rw (k.1, h.1) (append_assoc xs h.0 k.0))

pub grows_cut : (a b : Option (List ℕ)) (text : List ℕ) → WritesFront a b text → WriterGrows a b
grows_cut a b text cut = (cut.front, cut.written)

pub grows_kept : (a b : Option (List ℕ)) → Keeps a b → WriterGrows a b
grows_kept None b k = ([], tt)
grows_kept (Some xs) None k = absurd k
grows_kept (Some xs) (Some ys) k = ([], k ∙ sym (append-nil xs))

-- one text after another
pub appends_more : (a b c : Option (List ℕ)) (t u : List ℕ) → Appends a b t → Appends b c u → Appends a c (t ++ u)
appends_more None b c t u h k = tt
appends_more (Some xs) None c t u h k = absurd h
appends_more (Some xs) (Some ys) None t u h k = absurd k
appends_more (Some xs) (Some ys) (Some zs) t u h k = rw (k, h) (append_assoc xs t u)

pub appends_none : (a : Option (List ℕ)) → Appends a a []
appends_none None = tt
appends_none (Some xs) = sym (append-nil xs)

pub appends_kept : (a b c : Option (List ℕ)) (t : List ℕ) → Appends a b t → Keeps b c → Appends a c t
appends_kept None b c t h k = tt
appends_kept (Some xs) None c t h k = absurd h
appends_kept (Some xs) (Some ys) None t h k = absurd k
appends_kept (Some xs) (Some ys) (Some zs) t h k = k ∙ h

-- four texts, each after the one before
pub four_texts : (o a b c d : List ℕ) {s t u v : List ℕ} → s ≡ o ++ a → t ≡ s ++ b → u ≡ t ++ c → v ≡ u ++ d → v ≡ o ++ (((a ++ b) ++ c) ++ d)
four_texts o a b c d first second third fourth =
    rw (fourth, third, second, first) (ap (λ x. (x ++ c) ++ d) (append_assoc o a b) ∙ ap (λ x. x ++ d) (append_assoc o (a ++ b) c) ∙ append_assoc o ((a ++ b) ++ c) d)

-- a text was written, or a prefix of it
pub grows_by : (a b : Option (List ℕ)) (text : List ℕ) (o : Option (Unit {0})) → IfSome o (λ _. Appends a b text) → IfNone o (WritesFront a b text) → WriterGrows a b
grows_by a b text (Some u) done cut = (text, done)
grows_by a b text None done cut = grows_cut a b text cut

-- ---- faults

pub err_is : {A : Type 0} (r : Result A (RunFault ℕ)) (rf wf : Bool) (fault : RunFault ℕ) → IsErrAnd r (λ e. e ≡ fault) → IsDeviceFault rf wf fault → IfErr r (λ e. IsDeviceFault rf wf e)
err_is (Ok x) rf wf fault is why = absurd is
err_is (Err e) rf wf fault is why = subst (λ f. IsDeviceFault rf wf f) (sym is) why

-- why writing ended
abbrev at_writer : RunFault ℕ
at_writer = Write

-- a writer that took the text has not failed
pub reported_from : (o : Option (Unit {0})) (u : Unit {0}) (P : Type 0) → ok_or o at_writer ≡ Ok u → IfSome o (λ _. P) → P
reported_from (Some v) u P e some = some
reported_from None u P e some = absurd cc

-- a writer that did not is reported as that
pub cut_end : {A : Type 0} (o : Option (Unit {0})) (fault : RunFault ℕ) (r : Result A (RunFault ℕ)) (wf : Bool) → ok_or o Write ≡ Err fault → IfNone o (wf ≡ true) → IsErrAnd r (λ e. e ≡ fault) → IfErr r (λ e. IsDeviceFault false wf e)
cut_end (Some v) fault r wf e failed is = absurd cc
cut_end None fault r wf e failed is = err_is r false wf fault is (subst (λ (x : Result (Unit {0}) (RunFault ℕ)). IfErr x (λ f. IsDeviceFault false wf f)) e (refl, failed))

-- ---- the end

device_end : (known old new : Option (List ℕ)) (rf wf : Bool) (fault : RunFault ℕ) → IsDeviceFault rf wf fault → IsScriptEnd known old new rf wf (Err fault)
device_end known old new rf wf (Text line kind) why = absurd why
device_end known old new rf wf OutOfMemory why = why
device_end known old new rf wf Read why = why
device_end known old new rf wf Write why = why

-- a device failed, or memory could not be allocated
pub end_at_fault : (known old new : Option (List ℕ)) (rf wf : Bool) (r : Result Scripted (RunFault ℕ)) → IfErr r (λ e. IsDeviceFault rf wf e) → IsErrAnd r (λ e. Unit {0}) → IsScriptEnd known old new rf wf r
end_at_fault known old new rf wf (Ok found) why is = absurd is
end_at_fault known old new rf wf (Err e) why is = device_end known old new rf wf e why

pub is_err : {A : Type 0} (r : Result A (RunFault ℕ)) (P : RunFault ℕ → Type 0) → IsErrAnd r P → IsErrAnd r (λ e. Unit {0})
is_err (Ok x) P is = absurd is
is_err (Err e) P is = tt

-- the journal has an error, or memory could not be allocated
pub end_at_finish : (known old new : Option (List ℕ)) (bytes : List ℕ) → IfSome known (IsFrontOf max_counted bytes) → (rf wf : Bool) → rf ≡ false → wf ≡ false → (fault : LongReadFault) (r : Result Scripted (RunFault ℕ))
    → IsErrAnd r (λ e. e ≡ fault_of_long_read fault) → ReportsLongReadFault (journals_for_scripts bytes) fault → IsScriptEnd known old new rf wf r
end_at_finish known old new bytes read rf wf no_read no_write fault (Ok found) is reported = absurd is
end_at_finish known old new bytes read rf wf no_read no_write (summary.Text fault) (Err e) is reported =
    subst (λ (f : RunFault ℕ). IsScriptEnd known old new rf wf (Err f)) (sym is) ((bytes, read, reported), no_read, no_write)
end_at_finish known old new bytes read rf wf no_read no_write summary.OutOfMemory (Err e) is reported =
    subst (λ (f : RunFault ℕ). IsScriptEnd known old new rf wf (Err f)) (sym is) (no_read, no_write)
