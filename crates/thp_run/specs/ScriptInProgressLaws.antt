-- Scripts that are run while they are read.
use Rattle.std.proofs.Common.{◌≡◌, ◌∙◌, ℕ, List, [], ◌++◌, Ok, Err, ap, append_assoc, refl, subst, sym}
use Rattle.std.specs.Prelude.{Result}
use Rattle.std.proofs.lemmas.List.{append-nil}
use Rattle.thp_worker.specs.declared.reply.SectionOutcome.{SectionOutcome}
use Rattle.thp_worker.specs.Prelude.{DidFirst}
use Rattle.thp_run.specs.Passes.{fronts_in, Passes}
use Rattle.thp_worker.proofs.StepLaws.{goes_refl, goes_trans}
use Rattle.thp_script.specs.declared.script.Command.{Command}
use Rattle.thp_script.specs.declared.script.ScriptSections.{ScriptSections}
use Rattle.thp_script.specs.Prelude.{read_after, spelled_with, ReadSoFar, Fault}
use Rattle.thp_run.specs.ScriptInProgress.{HasRead}

pub after_none : (read : Result ScriptSections Fault) → read ≡ read_after [] read
after_none (Ok script) = refl
after_none (Err fault) = refl

pub after_more : (front more : List Command) (read : Result ScriptSections Fault) → read_after front (read_after more read) ≡ read_after (front ++ more) read
after_more front more (Ok script) = ap (λ setup. Ok (record { setup = setup; workers = script.workers })) (sym (append_assoc front more script.setup))
after_more front more (Err fault) = refl

-- nothing is read
pub nothing_read : (script : ReadSoFar) (passes : Passes) (setup : SectionOutcome) → HasRead script passes setup [] script passes setup
nothing_read script passes setup = record {
  commands = [];
  text = λ more. after_none (spelled_with script more);
  settings = refl;
  goes = goes_refl 0 (fronts_in passes);
  did = λ first before d. subst (λ cs. DidFirst 0 first (fronts_in passes) cs setup) (sym (append-nil before)) d;
  answers = refl;
}

-- bytes are read one part after the other
pub more_read : (script script' script'' : ReadSoFar) (passes passes' passes'' : Passes) (setup setup' setup'' : SectionOutcome) (first more : List ℕ)
    → HasRead script passes setup first script' passes' setup' → HasRead script' passes' setup' more script'' passes'' setup'' → HasRead script passes setup (first ++ more) script'' passes'' setup''
more_read script script' script'' passes passes' passes'' setup setup' setup'' first more old new = record {
  commands = old.commands ++ new.commands;
  text = λ rest.
      ap (spelled_with script) (append_assoc first more rest) ∙ old.text (more ++ rest) ∙ ap (read_after old.commands) (new.text rest) ∙ after_more old.commands new.commands (spelled_with script'' rest);
  settings = new.settings ∙ old.settings;
  goes = goes_trans 0 (fronts_in passes) (fronts_in passes') (fronts_in passes'') old.goes new.goes;
  did = λ f before d. subst (λ cs. DidFirst 0 f (fronts_in passes'') cs setup'') (append_assoc before old.commands new.commands) (new.did f (before ++ old.commands) (old.did f before d));
  answers = new.answers ∙ old.answers;
}
