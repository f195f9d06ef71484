use Rattle.std.proofs.Common.{◌≡◌, ◌+◌, ◌/◌, ◌++◌, [], length, refl, take-append-drop}
use Rattle.std.proofs.lemmas.List.Elements.{All-append, All-nil, All-push}
use Rattle.thp_worker.specs.Prelude.{AnswersAre}
use Rattle.thp_worker.proofs.HalvesLaws.{only_one, ran_both, ran_one}
use Rattle.thp_worker.proofs.halves.+fn-run_range-join+arg2+fn-run_range-join+arg3+run_range.Goals as goal

pub returns-clause-ran : goal.returns-clause-ran
returns-clause-ran g t c =
    let low = c.split_at.result.0.now in
    let high = c.split_at.result.1.now in
    let whole : low ++ high ≡ c.args.workers.now = rw (c.split_at.ensures.front, c.split_at.ensures.back) (take-append-drop (length c.args.workers.now / 2) c.args.workers.now) in
    let is : c.args.first + length c.args.workers.now / 2 ≡ c.args.first + length low = rw c.split_at.ensures.front_len refl in
    let l = rw c.in_ok-left-2.was at c.join-left.ensures.first.0 in
    let r = rw c.in_ok-right.was at c.join-left.ensures.second.0 in
    rw (← whole, c.in_ok-append.ensures.items) (ran_both _ _ _ _ c.args.first low high (rw (← whole) at c.requires) c.in_ok-left.ensures is _ _ _ _ l r _ c.in_ok-both.ensures)

pub returns-clause-answers : goal.returns-clause-answers
returns-clause-answers g t c =
    rw c.in_ok-append.ensures.items
    (All-append (AnswersAre c.args.answers) c.in_ok-left-2.all.items c.in_ok-right.more.items (rw c.in_ok-left-2.was at c.join-left.ensures.first.1) (rw c.in_ok-right.was at c.join-left.ensures.second.1))

pub returns-then-workers-eq1-clause-ran : goal.returns-then-workers-eq1-clause-ran
returns-then-workers-eq1-clause-ran g t c =
    rw (only_one _ _ c.if-workers-eq1.true c.index-workers-0.is) (ran_one _ _ _ _ _ _ (rw (only_one _ _ c.if-workers-eq1.true c.index-workers-0.is) at c.requires) c.work.ensures.goes (rw c.as_slice-commands.ensures at c.in_ok-work.ensures.works) (rw c.new-all.ensures.items at c.in_ok-push.ensures.items))

pub returns-then-workers-eq1-clause-answers : goal.returns-then-workers-eq1-clause-answers
returns-then-workers-eq1-clause-answers g t c =
    rw (c.in_ok-push.ensures.items, c.new-all.ensures.items) (All-push (AnswersAre c.args.answers) [] c.in_ok-work.field-0 (All-nil (AnswersAre c.args.answers)) c.in_ok-work.ensures.answers)
