-- The equality of two sections whose answers are stored in vectors: field by field, and answer by answer.
use Rattle.std.specs.Prelude.{Bool, nat_eq}
use Rattle.std.specs.Cmp.{IsEquivalence, IsPartialEquivalence, partial_equiv_from_equiv}
use Rattle.std.specs.Cmp.Lexicographic.{options_equiv, pointwise}
use Rattle.std.specs.Option.{option_eq}
use Rattle.std.specs.Ordering.{on, eq_of_both}
use Rattle.std.proofs.lemmas.Cmp.{and_equiv, lists_equiv, nat_eq_equiv, on_equiv}
use Rattle.thp_worker.specs.contracts.reply.AnswerEq.TheImpl.Laws as answer_laws
use Rattle.thp_worker.specs.contracts.reply.AnswerPartialEq.TheImpl as answer_eq
use Rattle.thp_worker.specs.contracts.reply.RestEq.TheImpl.Laws as rest_laws
use Rattle.thp_worker.specs.contracts.reply.RestPartialEq.TheImpl as rest_eq
use Rattle.thp_worker.specs.declared.reply.Answer.{Answer}
use Rattle.thp_worker.specs.declared.reply.Rest.{Rest}
use Rattle.thp_run.specs.Listed.{SectionList, WorkedList}

-- two answers, and two places where a section stopped, are equal field by field
abbrev pub same_answer : Answer → Answer → Bool
same_answer = (answer_eq.ghosts).eq

abbrev pub same_rest : Rest → Rest → Bool
same_rest = (rest_eq.ghosts).eq

abbrev pub same_section : SectionList → SectionList → Bool
same_section = eq_of_both (on (λ s. s.worker) nat_eq) (on (λ s. s.answers) (pointwise same_answer))

abbrev pub same_worked : WorkedList → WorkedList → Bool
same_worked = eq_of_both (on (λ w. w.answers) (pointwise same_answer)) (on (λ w. w.rest) (option_eq same_rest))

pub same_section-equiv : IsEquivalence same_section
same_section-equiv = and_equiv (on_equiv (λ s. s.worker) nat_eq_equiv) (on_equiv (λ s. s.answers) (lists_equiv answer_laws.laws-law))

pub same_section-partial_equiv : IsPartialEquivalence same_section
same_section-partial_equiv = partial_equiv_from_equiv same_section-equiv

pub same_worked-equiv : IsEquivalence same_worked
same_worked-equiv =
    and_equiv (on_equiv (λ w. w.answers) (lists_equiv answer_laws.laws-law)) (on_equiv (λ w. w.rest) (options_equiv rest_laws.laws-law))

pub same_worked-partial_equiv : IsPartialEquivalence same_worked
same_worked-partial_equiv = partial_equiv_from_equiv same_worked-equiv
