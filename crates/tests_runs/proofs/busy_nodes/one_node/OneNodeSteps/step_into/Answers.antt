use Rattle.std.proofs.Common.{sym}
use Rattle.thp_worker.specs.Prelude.{answer_of}
use Rattle.tests_runs.proofs.SharingLaws.{step_alone}
use Rattle.tests_runs.proofs.busy_nodes.one_node.OneNodeSteps.step_into.Goals as goal

pub invariant_of-self : goal.invariant_of-self
invariant_of-self c = (step_alone c.args.self.now c.args.caller c.args._node c.args.step c.self.inside.node c.step.new.self (answer_of c.step.result c.step.new.reply) (sym c.self.view_is) c.self.invariant c.requires.node c.step.ensures).0

pub returns-clause-done : goal.returns-clause-done
returns-clause-done c = (step_alone c.args.self.now c.args.caller c.args._node c.args.step c.self.inside.node c.step.new.self (answer_of c.step.result c.step.new.reply) (sym c.self.view_is) c.self.invariant c.requires.node c.step.ensures).1

pub returns-clause-goes : goal.returns-clause-goes
returns-clause-goes c = (step_alone c.args.self.now c.args.caller c.args._node c.args.step c.self.inside.node c.step.new.self (answer_of c.step.result c.step.new.reply) (sym c.self.view_is) c.self.invariant c.requires.node c.step.ensures).2
