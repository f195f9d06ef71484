use Rattle.std.proofs.Common.{arith, ◌≡◌, ◌∙◌, ◌+◌, ◌++◌, [], ◌∷◌, ℕ, List, Some, ap, drop, slice_get, sym, append-nil, length, ◌≤◌}
use Rattle.thp_worker.specs.declared.reply.Answer.{Answer}
use Rattle.thp_run.proofs.ListedLaws.{one_more}
use Rattle.thp_worker.specs.Prelude.{stored}
use Rattle.thp_run.proofs.AnswerLaws.{there}
use Rattle.std.proofs.lemmas.List.{at_drop_all}
use Rattle.thp_worker.specs.declared.answer_log.Answers.{Answers}
use Rattle.thp_worker.specs.Logs.{if_kept}
use Rattle.thp_run.proofs.listed.list_answers.Goals as goal

-- an answer was appended
one_pushed : (front all list : List Answer) (place : ℕ) (answer : Answer) → list ≡ front ++ answer ∷ [] →
    Some answer ≡ slice_get all place → front ++ drop place all ≡ all → list ++ drop (place + 1) all ≡ all
one_pushed front all list place answer pushed is had = ap (λ l. l ++ drop (place + 1) all) pushed ∙ one_more front all place answer had (sym is)

pub loop-place-preserved : goal.loop-place-preserved
loop-place-preserved c =
    one_pushed c.loop-place.list.items _ _ c.loop-place.place c.in-Some.answer c.in_ok-push.ensures.items c.in-Some.ensures c.loop-place.invariant

pub unreachable-requires : goal.unreachable-requires
unreachable-requires c = there (stored c.args.worked.answers) c.get.result c.loop-place.place c.stored_len-place-end.result c.stored_len-place-end.ensures c.loop-place-test.true c.get.ensures c.in_default.not-Some

pub returns-clause-answers : goal.returns-clause-answers
returns-clause-answers c =
    let list = c.loop-place.list.items in
    let all = stored c.args.worked.answers in
    let end : length all ≤ c.loop-place.place = omega (arith, c.loop-place-test.false, c.stored_len-place-end.ensures) in
    sym (append-nil list) ∙ sym (at_drop_all (λ (l : List Answer). list ++ l) all c.loop-place.place end) ∙ c.loop-place.invariant
    ∙ ap (λ (a : Answers). if_kept a c.args.worked.answers.items) c.requires.kept
