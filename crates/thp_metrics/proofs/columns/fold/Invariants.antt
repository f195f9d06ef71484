use Rattle.std.proofs.Common.{◌≡◌, vec_capacity}
use Rattle.thp_metrics.proofs.Pairs.{half_way}
use Rattle.thp_metrics.proofs.columns.fold.Given as goal

-- so many pairs are made
abbrev pub invariant-loop-place : goal.invariant-loop-place
invariant-loop-place l = record {
  half : l.half ≡ 300;
  made : l.columns.items ≡ half_way l.place l.fn.columns.items;
  capacity : vec_capacity l.columns ≡ vec_capacity l.fn.columns;
}
