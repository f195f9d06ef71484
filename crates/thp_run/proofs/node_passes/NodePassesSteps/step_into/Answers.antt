use Rattle.std.proofs.Common.{sym}
use Rattle.thp_worker.specs.Prelude.{answer_of}
use Rattle.thp_run.proofs.PassLaws.{held_made, step_made}
use Rattle.thp_run.proofs.node_passes.NodePassesSteps.step_into.Goals as goal

pub invariant_of-self : goal.invariant_of-self
invariant_of-self g c = (step_made c.args.caller c.args.node c.args.step c.index_mut.result.now c.step.new.self (answer_of c.step.result c.step.new.reply) (sym c.self.view_is) c.self.invariant c.requires.node c.index_mut.ensures.value c.step.ensures).0

pub returns-clause-done : goal.returns-clause-done
returns-clause-done g c = (step_made c.args.caller c.args.node c.args.step c.index_mut.result.now c.step.new.self (answer_of c.step.result c.step.new.reply) (sym c.self.view_is) c.self.invariant c.requires.node c.index_mut.ensures.value c.step.ensures).1

pub returns-clause-goes : goal.returns-clause-goes
returns-clause-goes g c = (step_made c.args.caller c.args.node c.args.step c.index_mut.result.now c.step.new.self (answer_of c.step.result c.step.new.reply) (sym c.self.view_is) c.self.invariant c.requires.node c.index_mut.ensures.value c.step.ensures).2

pub returns-clause-held : goal.returns-clause-held
returns-clause-held g c = held_made c.args.caller c.args.node c.args.step c.index_mut.result.now c.step.new.self (answer_of c.step.result c.step.new.reply) (sym c.self.view_is) c.requires.node c.index_mut.ensures.value c.step.ensures
