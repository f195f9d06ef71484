use Rattle.std.proofs.Common.{◌≡◌, false, sym, ◌∙◌, arith, below_more}
use Rattle.thp_history.proofs.Below.{some_yes, some_no}
use Rattle.thp_model.proofs.slow_check.passing.any_below.Goals as goal

pub returns-then-test : goal.returns-then-test
returns-then-test g c = λ t asks.
    sym (some_yes c.args.n t c.loop-i.i (omega arith) (sym (asks c.loop-i.i c.test.result (omega arith) c.test.ensures) ∙ c.if-test.true))

pub loop-i-preserved : goal.loop-i-preserved
loop-i-preserved g c = λ t asks.
    below_more (λ j. t j ≡ false) c.loop-i.i (c.loop-i.invariant t asks)
    (sym (asks c.loop-i.i c.test.result (omega arith) c.test.ensures) ∙ c.if-test.false)

pub returns : goal.returns
returns g c = λ t asks. sym (some_no c.args.n t (λ j below. c.loop-i.invariant t asks j (omega arith)))
