use Rattle.std.proofs.Common.{None, refl, replicate}
use Rattle.thp_metrics.proofs.Following.{begins_along}
use Rattle.thp_metrics.proofs.node_series.NodeSeries.begin.Goals as goal

pub invariant_of-result : goal.invariant_of-result
invariant_of-result c = (
  begins_along c.args.replay _ (replicate 60 None) c.in_ok-columns.columns c.numbers_of-numbers.result c.requires.none refl refl
      (λ legal pages stages. c.numbers_of-numbers.ensures legal c.requires.waiting c.requires.batches pages stages) c.in_ok-columns.ensures,
  c.requires.waiting,
  c.requires.batches,
)
