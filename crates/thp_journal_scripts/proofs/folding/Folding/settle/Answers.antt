use Rattle.std.proofs.Common.{refl}
use Rattle.thp_journal_scripts.proofs.FoldingLaws.{adds_pending}
use Rattle.thp_journal_scripts.proofs.folding.Folding.settle.Goals as goal

pub returns-clause-adds : goal.returns-clause-adds
returns-clause-adds c = adds_pending c.args.ops.now.items c.args.self.now (record c.args.self.now { batch = c.in_ok-batch.batch }) c.settle.new.ops.items c.in_ok-batch.ensures.ops c.in_ok-batch.ensures.batch refl
