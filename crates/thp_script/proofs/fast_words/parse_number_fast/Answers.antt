use Rattle.std.proofs.Common.{arith, refl}
use Rattle.thp_script.proofs.FastParsingLaws.{after_first, digits_end, digits_go_on, first_is, zero_alone}
use Rattle.thp_script.proofs.fast_words.parse_number_fast.Goals as goal

pub returns-in-len1-up-rest-clause-number : goal.returns-in-len1-up-rest-clause-number
returns-in-len1-up-rest-clause-number c =
    zero_alone c.args.end c.args.most c.args.text.now (after_first c.args.text.now) _ (first_is c.args.text.now 48 (omega arith) c.if-first-eq48.true)
    (first_is (after_first c.args.text.now) c.args.end c.in-len1-up-rest.len_at_least c.if-byte-end.true)

pub returns-then-value-most-clause-number : goal.returns-then-value-most-clause-number
returns-then-value-most-clause-number c =
    digits_end c.args.end c.args.most c.args.text.now c.loop-rest.rest.now _ c.loop-rest.value c.loop-rest.invariant
    (first_is c.loop-rest.rest.now c.args.end c.in-len1-up-rest-2.len_at_least c.if-byte-end-2.true) c.if-value-most.true

pub loop-rest-preserved : goal.loop-rest-preserved
loop-rest-preserved c =
    digits_go_on c.args.text.now c.loop-rest.rest.now _ c.loop-rest.value _ _ c.loop-rest.invariant
    (first_is c.loop-rest.rest.now _ c.in-len1-up-rest-2.len_at_least refl) c.in_ok-digit.ensures.value.0 (omega (arith, c.in_ok-digit.ensures.value.1))
