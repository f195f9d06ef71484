use Rattle.thp_run.proofs.BegunLaws.{is_script_in_progress}
use Rattle.thp_run.proofs.script_in_progress.ScriptInProgress.new.Goals as goal

pub invariant_of-result : goal.invariant_of-result
invariant_of-result g c = record {
  ready = is_script_in_progress c.args.settings.now c.args.cells.now c.args.passes.items c.in_ok-passes.passes c.in_ok-passes.setup c.in_ok-script.script c.in_ok-passes.ensures.begun c.in_ok-script.ensures.settings;
}
