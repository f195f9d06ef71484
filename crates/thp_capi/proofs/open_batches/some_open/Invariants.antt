use Rattle.std.proofs.Common.{◌≡◌, ◌<◌, ℕ, None, get_or}
use Rattle.thp_capi.proofs.open_batches.some_open.Given as goal

abbrev pub invariant-loop-batch : goal.invariant-loop-batch
invariant-loop-batch l = record {
  none : (k : ℕ) → k < l.batch-index → get_or l.places k None ≡ None;
}
