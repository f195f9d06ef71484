use Rattle.std.proofs.Common.{◌≡◌, ℕ, Bool, cond, ◌+◌, refl, ap, sym, ◌∙◌, arith, add-one}
use Rattle.thp_history.specs.Prelude.{count_below, is_zero_filled, sum_below}
use Rattle.thp_history.proofs.Bools.{one_if, none_if}
use Rattle.thp_model.proofs.slow_check.underused.zero_filled.Goals as goal
use Rattle.thp_model.proofs.slow_check.underused.zero_filled.Goals.{then-is_zero_filled, else-is_zero_filled}

-- one number more
next : (n : ℕ) (t : ℕ → Bool) → count_below (n + 1) t ≡ count_below n t + cond (t n) 1 0
unfolding sum_below
next n t = rw (add-one) refl

pub loop-i-init : goal.loop-i-init
unfolding sum_below
loop-i-init c = record { few = omega arith; counted = refl }

pub loop-i-preserved : goal.loop-i-preserved
loop-i-preserved c =
    let test : ℕ → Bool = is_zero_filled c.args.events.now c.args.page in
    let more = next c.loop-i.i test in
    let before = c.loop-i.invariant.counted in
    record {
      few = elim c.if-is_zero_filled.branch [ then-is_zero_filled w ↦ omega arith | else-is_zero_filled w ↦ omega arith ];
      counted = elim c.if-is_zero_filled.branch [
        | then-is_zero_filled w ↦ let one = one_if (test c.loop-i.i) (sym c.is_zero_filled.ensures ∙ w.if-is_zero_filled.true) in omega (arith, more, before, one)
        | else-is_zero_filled w ↦ let none = none_if (test c.loop-i.i) (sym c.is_zero_filled.ensures ∙ w.if-is_zero_filled.false) in omega (arith, more, before, none)
      ];
    }

pub returns : goal.returns
returns c =
    let end : c.loop-i.i ≡ c.subpages-i-end.result = omega arith in
    c.loop-i.invariant.counted ∙ ap (λ n. count_below n (is_zero_filled c.args.events.now c.args.page)) (end ∙ c.subpages-i-end.ensures)
