use Rattle.std.proofs.Common.{arith}
use Rattle.std.proofs.lemmas.Nat.{one_shl}
use Rattle.thp_history.specs.Prelude.{subpages}
use Rattle.thp_history.proofs.shape.Shape.subpages.Goals as goal

pub returns : goal.returns
unfolding subpages
returns c = one_shl c.args.self.now.order 32 (omega arith)
