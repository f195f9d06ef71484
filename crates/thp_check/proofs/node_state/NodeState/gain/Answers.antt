use Rattle.std.proofs.Common.{refl}
use Rattle.thp_check.proofs.Steps.{gain_goes, gain_refused, gain_absent}
use Rattle.thp_check.proofs.node_state.NodeState.gain.Goals as goal

pub returns-in-None : goal.returns-in-None
returns-in-None c = rw c.refused.ensures (λ n s h m. gain_absent s h n c.args.page c.args.gain c.args.self.now m c.in-None.ensures)

pub returns : goal.returns
returns c = λ n s h m.
    gain_goes s h n c.args.page c.in-Some.block c.args.self.now m c.in-Some.ensures c.args.gain _ (λ x e q. c.in_default.ensures.refusal x e q) c.in_default.ensures.gained refl refl refl refl

pub returns-in-Err : goal.returns-in-Err
returns-in-Err c = rw c.refused-in-Err.ensures (λ n s h m. gain_refused s h n c.args.page c.in-Some.block c.args.self.now m c.in-Some.ensures c.args.gain _ (λ x e q. c.in-Err.ensures.refusal x e q))
