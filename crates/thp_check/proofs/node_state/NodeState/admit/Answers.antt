use Rattle.std.proofs.Common.{refl}
use Rattle.thp_check.proofs.Beginning.{means_after}
use Rattle.thp_check.proofs.Deciding.{answered_on}
use Rattle.thp_check.proofs.node_state.NodeState.admit.Goals as goal

pub returns : goal.returns
returns c = λ s h m.
    answered_on c.apply-answer.result _ _ _ (λ w. (w.0, means_after s h c.args.event.now c.apply-answer.new.self _ w.1 refl refl refl refl refl c.taker_of-self.ensures)) (c.apply-answer.ensures s h m)
