use Rattle.std.proofs.Common.{subst}
use Rattle.thp_script.specs.Prelude.{IsScriptFor}
use Rattle.thp_run.proofs.script_in_progress.ScriptInProgress.finish.Goals as goal

pub returns-clause-runs : goal.returns-clause-runs
returns-clause-runs g c = λ cells old first before b. record {
  rest = c.in_ok-rest.rest;
  is = c.in_ok-rest.ensures.script;
  runs = c.in_ok-end_run.ensures.runs cells old first before b;
}

pub end_run-requires-clause-script : goal.end_run-requires-clause-script
end_run-requires-clause-script g c κs within = subst (λ s. IsScriptFor s c.in_ok-rest.rest) c.requires.settings c.in_ok-rest.ensures.in_range
