use Rattle.std.proofs.Common.{◌∙◌, ◌++◌, subst, sym, ap, All}
use Rattle.thp_worker.specs.Prelude.{DidFirst, IsWorkFor}
use Rattle.thp_run.specs.Passes.{fronts_in}
use Rattle.thp_script.specs.Parts.{first_section}
use Rattle.thp_script.specs.declared.settings.Settings.{Settings}
use Rattle.thp_run.proofs.SharingLaws.{commands_fit}
use Rattle.thp_run.proofs.script_in_progress.ScriptInProgressReadsParts.read_part.Goals as goal

pub returns-clause-read : goal.returns-clause-read
returns-clause-read g c = record {
  commands = first_section c.in_ok-script.script.sections;
  text = λ more. sym (c.in_ok-script.ensures.text more) ∙ c.drop_setup.ensures.text more;
  settings = c.drop_setup.ensures.settings ∙ c.in_ok-script.ensures.settings;
  goes = c.do_commands.ensures.goes;
  did = λ first before d. subst (λ cs. DidFirst 0 first (fronts_in c.do_commands.new.steps) (before ++ cs) c.in_ok-setup.setup) c.setup.ensures.commands (c.in_ok-setup.ensures.did first before d);
  answers = c.in_ok-setup.ensures.answers;
}

pub do_commands-requires-clause-commands : goal.do_commands-requires-clause-commands
do_commands-requires-clause-commands g c =
    subst (λ n. All (IsWorkFor n) c.setup.result.now) (ap (λ (s : Settings). s.nodes) c.in_ok-script.ensures.settings ∙ sym c.args.self.ready.nodes)
    (commands_fit c.in_ok-script.script.settings.nodes c.setup.result.now c.setup.ensures.in_range)
