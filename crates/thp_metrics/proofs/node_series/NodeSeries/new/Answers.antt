use Rattle.std.proofs.Common.{◌∙◌, sym}
use Rattle.thp_metrics.proofs.Counting.{no_batches}
use Rattle.thp_metrics.proofs.Following.{same_replays}
use Rattle.thp_metrics.proofs.node_series.NodeSeries.new.Goals as goal

pub begin-requires-clause-waiting : goal.begin-requires-clause-waiting
begin-requires-clause-waiting c =
    let replay = c.in_ok-replay in
    let counts = c.in_ok-waiting in
    same_replays counts.waiting replay.replay (counts.ensures.shape ∙ sym replay.ensures.shape) (counts.ensures.none ∙ sym replay.ensures.none)

pub begin-requires-clause-batches : goal.begin-requires-clause-batches
begin-requires-clause-batches c = no_batches c.in_ok-replay.replay c.in_ok-waiting.batches c.in_ok-replay.ensures.none c.in_ok-waiting.ensures.batches
