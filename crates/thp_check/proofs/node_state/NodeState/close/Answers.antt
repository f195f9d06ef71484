use Rattle.std.proofs.Common.{refl}
use Rattle.thp_check.proofs.Steps.{close_goes, close_closed}
use Rattle.thp_check.proofs.node_state.NodeState.close.Goals as goal

pub returns-then-self : goal.returns-then-self
returns-then-self c = λ n s h m. close_closed s h n c.args.self.now m c.if-self.true

pub returns : goal.returns
returns c = λ n s h m. close_goes s h n c.args.self.now _ m c.if-self.false refl refl refl refl refl
