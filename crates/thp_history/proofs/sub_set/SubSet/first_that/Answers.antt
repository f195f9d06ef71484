use Rattle.std.proofs.Common.{arith, inl, inr}
use Rattle.std.proofs.lemmas.Bool.{cases_lt}
use Rattle.thp_history.proofs.WordMarks.{parse_found_fast, parse_nothing_fast, size_is}
use Rattle.thp_history.proofs.sub_set.SubSet.first_that.Goals as goal

pub returns-then-ahead-ne0-clause-within : goal.returns-then-ahead-ne0-clause-within
returns-then-ahead-ne0-clause-within c =
    omega (arith, (parse_found_fast c.self.inside.words c.args.self.now c.args.is_in c.loop-at.at c.marks.result c.self.view_is c.marks.ensures c.self.invariant (omega arith) (omega arith)).inside)

pub returns-then-ahead-ne0-clause-none_before : goal.returns-then-ahead-ne0-clause-none_before
returns-then-ahead-ne0-clause-none_before c = λ i low high.
    elim (cases_lt i c.loop-at.at) [
      | inl y ↦ c.loop-at.invariant.none i low y
      | inr y ↦ (parse_found_fast c.self.inside.words c.args.self.now c.args.is_in c.loop-at.at c.marks.result c.self.view_is c.marks.ensures c.self.invariant (omega arith) (omega arith)).none_before i y high
    ]

pub returns-then-ahead-ne0-clause-found : goal.returns-then-ahead-ne0-clause-found
returns-then-ahead-ne0-clause-found c = λ below.
    (parse_found_fast c.self.inside.words c.args.self.now c.args.is_in c.loop-at.at c.marks.result c.self.view_is c.marks.ensures c.self.invariant (omega arith) (omega arith)).found

pub loop-at-preserved : goal.loop-at-preserved
loop-at-preserved c = record {
  from = omega arith;
  within = omega arith;
  none = λ i low high.
      elim (cases_lt i c.loop-at.at) [
        | inl y ↦ c.loop-at.invariant.none i low y
        | inr y ↦ parse_nothing_fast c.self.inside.words c.args.self.now c.args.is_in c.loop-at.at c.marks.result c.self.view_is c.marks.ensures c.self.invariant (omega arith) (omega arith) i y high
      ];
}

pub returns-then-ahead-ne0-clause-size : goal.returns-then-ahead-ne0-clause-size
returns-then-ahead-ne0-clause-size c = size_is c.self.inside.words c.args.self.now c.self.view_is

pub returns-clause-size : goal.returns-clause-size
returns-clause-size c = size_is c.self.inside.words c.args.self.now c.self.view_is
