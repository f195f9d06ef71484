use Rattle.thp_worker.proofs.CommandLaws.{one_done, step_wants}
use Rattle.thp_worker.proofs.command.do_command.Goals as goal

pub returns-else-is_scan-clause-proceeds : goal.returns-else-is_scan-clause-proceeds
returns-else-is_scan-clause-proceeds g c = one_done _ _ c.requires.caller c.requires.command c.requires.ready (cc) (rw c.next_step-step.ensures at c.try_step.ensures.done)

pub returns-else-is_scan-clause-wants : goal.returns-else-is_scan-clause-wants
returns-else-is_scan-clause-wants g c = step_wants _ c.args.command.now _ _ _ _ c.next_step-step.ensures c.try_step.result c.try_step.new.reply c.try_step.ensures.done
