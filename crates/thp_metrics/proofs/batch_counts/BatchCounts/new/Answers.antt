use Rattle.std.proofs.Common.{◌≡◌, ◌∙◌, ℕ, List, ap, sym, rules, length, replicate}
use Rattle.std.proofs.lemmas.List.{length-replicate}
use Rattle.thp_metrics.specs.Prelude.{callers_in}
use Rattle.thp_metrics.proofs.Counting.{none_in}
use Rattle.thp_metrics.proofs.batch_counts.BatchCounts.new.Goals as goal

pub invariant_of-result : goal.invariant_of-result
invariant_of-result c =
    let are : c.in_ok-vec.field-0.items ≡ replicate 64 0 = search rules in
    let nought : ℕ = 0 in
    (ap (λ (ns : List ℕ). length ns) are ∙ length-replicate 64 nought, sym (ap callers_in are ∙ none_in))
