use Rattle.std.proofs.Common.{refl}
use Rattle.thp_check.proofs.Beginning.{means_none}
use Rattle.thp_check.proofs.node_state.NodeState.new.Goals as goal

pub returns : goal.returns
returns c =
    means_none c.args.shape _ c.requires.most c.in_ok-places.ensures.size c.in_ok-places.ensures.order c.in_ok-places.ensures.empty c.in_ok-places.ensures.queue c.in_ok-flights.ensures.empty c.in_ok-flights.ensures.size refl refl refl refl
