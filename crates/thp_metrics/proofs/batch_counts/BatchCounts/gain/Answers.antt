use Rattle.std.proofs.Common.{◌≡◌, ◌+◌, ◌∙◌, ap, sym, arith, length-set, set}
use Rattle.std.proofs.lemmas.Nat.{one_shl}
use Rattle.thp_metrics.specs.Prelude.{callers_in, count_at}
use Rattle.thp_metrics.proofs.Arriving.{any_number}
use Rattle.thp_metrics.proofs.Counting.{callers_enter, callers_fit}
use Rattle.thp_metrics.proofs.batch_counts.BatchCounts.gain.Goals as goal

pub overflow_add-self : goal.overflow_add-self
overflow_add-self c =
    let items = c.self.inside.counts.items in
    let k = c.in-Some.caller in
    let low = c.if-caller-lt-SHOWN_CALLERS.true in
    let none : count_at items k ≡ 0 = any_number items k 0 c.index-count.result.now (omega (arith, c.self.invariant.0, low)) ∙ sym c.index-count.ensures ∙ c.if-count-eq0.true in
    omega (arith, c.self.invariant.1, one_shl k 64 low, callers_enter items k c.self.invariant.0 low none, callers_fit (set items k 1))

pub invariant_of-self : goal.invariant_of-self
invariant_of-self c =
    let items = c.self.inside.counts.items in
    let k = c.in-Some.caller in
    let low = c.if-caller-lt-SHOWN_CALLERS.true in
    let none : count_at items k ≡ 0 = any_number items k 0 c.index-count.result.now (omega (arith, c.self.invariant.0, low)) ∙ sym c.index-count.ensures ∙ c.if-count-eq0.true in (
      length-set items k _ ∙ c.self.invariant.0,
      omega (arith, c.self.invariant.1, one_shl k 64 low, callers_enter items k c.self.invariant.0 low none, ap (λ n. callers_in (set items k (n + 1))) c.if-count-eq0.true),
    )
