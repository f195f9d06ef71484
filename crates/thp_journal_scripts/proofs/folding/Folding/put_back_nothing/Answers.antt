use Rattle.std.proofs.Common.{refl}
use Rattle.thp_journal_scripts.specs.Prelude.{Idle}
use Rattle.thp_journal_scripts.proofs.FoldingLaws.{adds_nothing, adds_put_back}
use Rattle.thp_journal_scripts.proofs.folding.Folding.put_back_nothing.Goals as goal

pub returns-clause-adds : goal.returns-clause-adds
returns-clause-adds c = adds_put_back c.args.ops.now.items c.args.self.now (record c.args.self.now { batch = Idle }) c.push.new.self.items c.in-Open._caller c.in-Open.is c.in_ok-push.ensures.items refl refl

pub returns-then-has_flight-clause-adds : goal.returns-then-has_flight-clause-adds
returns-then-has_flight-clause-adds c = adds_nothing c.args.ops.now.items c.args.self.now c.args.self.now refl refl

pub returns-in_default-clause-adds : goal.returns-in_default-clause-adds
returns-in_default-clause-adds c = adds_nothing c.args.ops.now.items c.args.self.now c.args.self.now refl refl
