use Rattle.std.proofs.Common.{arith}
use Rattle.thp_metrics.specs.Prelude.{Allocated, PartlyMapped, Queued, InBatch, Split}
use Rattle.thp_metrics.proofs.column.Column.join.Goals as goal

pub overflow_add-result : goal.overflow_add-result
overflow_add-result c = omega (arith, c.requires Allocated)

pub overflow_add-result-2 : goal.overflow_add-result-2
overflow_add-result-2 c = omega (arith, c.requires PartlyMapped)

pub overflow_add-result-3 : goal.overflow_add-result-3
overflow_add-result-3 c = omega (arith, c.requires Queued)

pub overflow_add-result-4 : goal.overflow_add-result-4
overflow_add-result-4 c = omega (arith, c.requires InBatch)

pub overflow_add-result-5 : goal.overflow_add-result-5
overflow_add-result-5 c = omega (arith, c.requires Split)
