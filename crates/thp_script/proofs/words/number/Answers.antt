use Rattle.std.proofs.Common.{◌≡◌, rules, arith, sym, Some}
use Rattle.std.proofs.lemmas.Bool.{and_from}
use Rattle.thp_script.specs.Prelude.{number_of}
use Rattle.thp_script.proofs.NumberLaws.{none_of_no_front, none_of_no_value, some_of_numeral, none_above, decimal_of_number, no_decimal}
use Rattle.thp_script.proofs.words.number.Goals as goal

pub returns-then-not-has_numeral_front-clause-value : goal.returns-then-not-has_numeral_front-clause-value
returns-then-not-has_numeral_front-clause-value c = sym (none_of_no_front c.args.most c.args.word.now (search rules))

pub returns-then-not-has_numeral_front-clause-refused : goal.returns-then-not-has_numeral_front-clause-refused
returns-then-not-has_numeral_front-clause-refused c =
    no_decimal c.args.most c.args.word.now c.ranges.most.fits (none_of_no_front c.args.most c.args.word.now (search rules))

pub returns-in-Some-clause-value : goal.returns-in-Some-clause-value
returns-in-Some-clause-value c =
    sym (some_of_numeral c.args.most c.args.word.now c.in-Some.value (and_from _ _ c.in-Some.ensures.0.0 (search rules)) c.in-Some.ensures.1 c.if-value-most.true)

pub returns-in-Some-clause-written : goal.returns-in-Some-clause-written
returns-in-Some-clause-written c =
    let read : number_of c.args.most c.args.word.now ≡ Some c.in-Some.value = some_of_numeral c.args.most c.args.word.now c.in-Some.value (and_from _ _ c.in-Some.ensures.0.0 (search rules)) c.in-Some.ensures.1 c.if-value-most.true in
    sym (decimal_of_number c.args.most c.in-Some.value c.args.word.now c.ranges.most.fits read).1

pub returns-in_default-clause-value : goal.returns-in_default-clause-value
returns-in_default-clause-value c = sym (none_above c.args.most c.args.word.now (omega (arith, c.in-Some.ensures.1)))

pub returns-in_default-clause-refused : goal.returns-in_default-clause-refused
returns-in_default-clause-refused c =
    no_decimal c.args.most c.args.word.now c.ranges.most.fits (none_above c.args.most c.args.word.now (omega (arith, c.in-Some.ensures.1)))

pub returns-in_default-2-clause-value : goal.returns-in_default-2-clause-value
returns-in_default-2-clause-value c = sym (none_of_no_value c.args.most c.args.word.now c.ranges.most.fits c.in_default.ensures)

pub returns-in_default-2-clause-refused : goal.returns-in_default-2-clause-refused
returns-in_default-2-clause-refused c =
    no_decimal c.args.most c.args.word.now c.ranges.most.fits (none_of_no_value c.args.most c.args.word.now c.ranges.most.fits c.in_default.ensures)
