use Rattle.std.proofs.Common.{◌<◌, ℕ, List, Option, ◌∙◌, ap, sym, subst, arith, length-set, set}
use Rattle.std.proofs.lemmas.Nat.{one_shl}
use Rattle.thp_metrics.specs.Prelude.{callers_in, count_at, MayGo}
use Rattle.thp_metrics.proofs.Counting.{callers_leave}
use Rattle.thp_metrics.proofs.batch_counts.BatchCounts.lose.Goals as goal

pub overflow_sub-self : goal.overflow_sub-self
overflow_sub-self c =
    let items = c.self.inside.counts.items in
    let k = c.in-Some.caller in
    let low = c.if-caller-lt-SHOWN_CALLERS.true in
    let P : Option ℕ → Type 0 = MayGo c.args.self.now in
    let Q : List ℕ → Type 0 = λ ns. 0 < count_at ns k in
    let some : 0 < count_at items k = subst Q (sym c.self.view_is) (subst P c.in-Some.is c.requires low) in
    omega (arith, c.self.invariant.1, one_shl k 64 low, callers_leave items k c.self.invariant.0 low some)

pub invariant_of-self : goal.invariant_of-self
invariant_of-self c =
    let items = c.self.inside.counts.items in
    let k = c.in-Some.caller in
    let low = c.if-caller-lt-SHOWN_CALLERS.true in
    let P : Option ℕ → Type 0 = MayGo c.args.self.now in
    let Q : List ℕ → Type 0 = λ ns. 0 < count_at ns k in
    let some : 0 < count_at items k = subst Q (sym c.self.view_is) (subst P c.in-Some.is c.requires low) in (
      length-set items k _ ∙ c.self.invariant.0,
      omega (arith, c.self.invariant.1, one_shl k 64 low, callers_leave items k c.self.invariant.0 low some, ap (λ n. callers_in (set items k n)) c.if-count-eq0.true),
    )
