use Rattle.std.proofs.Common.{◌≡◌, ◌∙◌, ◌+◌, ◌<◌, ap, length, subst, arith, Some, All, slice_get}
use Rattle.std.specs.Vec.Iter.{into_iter_items}
use Rattle.std.proofs.lemmas.List.Elements.{All-head, All-nil, All-push, All-rest}
use Rattle.thp_worker.specs.Prelude.{Fronts, Goes, AnswersAre, Works}
use Rattle.thp_run.proofs.RestLaws.{at_index, below, has_all_later, rest_first, rest_more, rest_ordered, rest_works}
use Rattle.thp_run.proofs.script_run.do_rest.Goals as goal

pub loop-worked-init : goal.loop-worked-init
loop-worked-init g c =
    let gives = c.into_iter-worked-iterator.ensures.into_iter_gives in
    let same = ap length gives.0 in
    record {
      rest = rest_first c.requires.worked.0 (g.P.Steps.fronts c.args.passes.now) c.args.workers.now c.args.worked.items c.new-done.result.items (into_iter_items c.into_iter-worked-iterator.result) c.requires.worked.1 c.new-done.ensures.items gives.0;
      answers = λ are all. (rw c.new-done.ensures.items (All-nil (AnswersAre are)), rw gives.0 all);
      left = omega (arith, same, gives.1);
    }

pub work_rest-requires-clause-worked : goal.work_rest-requires-clause-worked
work_rest-requires-clause-worked g c =
    let fronts = g.P.Steps.fronts in
    let first = fronts c.args.passes.now in
    let f = fronts c.loop-worked.passes in
    let vs = c.args.workers.now in
    let v = c.index-workers-index.result in
    let done = c.loop-worked.done.items in
    let items = into_iter_items c.loop-worked.worked-iterator in
    let rest = into_iter_items c.next.new.self in
    let w = c.in-Some.worked in
    let inv = c.loop-worked.invariant.rest in
    let is = c.in-Some.ensures.steps.0 in
    let lt : length done < length vs = below first f f vs v c.args.worked.items done items w rest inv is in
    let place : c.len-index.result ≡ length done = c.len-index.ensures ∙ c.loop-worked.done.ok.0 in
    let at : slice_get vs (length done) ≡ Some v = at_index vs v c.len-index.result (length done) place lt c.index-workers-index.is in
    let a = c.requires.worked in
    (a.0, rw (c.as_slice.ensures, place) (rest_works first f f vs v c.args.worked.items done items w rest inv is a.0 a.1 at))

pub loop-worked-preserved : goal.loop-worked-preserved
loop-worked-preserved g c =
    let fronts = g.P.Steps.fronts in
    let first = fronts c.args.passes.now in
    let f = fronts c.loop-worked.passes in
    let h = fronts c.work_rest.new.steps in
    let vs = c.args.workers.now in
    let v = c.index-workers-index.result in
    let done = c.loop-worked.done.items in
    let items = into_iter_items c.loop-worked.worked-iterator in
    let rest = into_iter_items c.next.new.self in
    let w = c.in-Some.worked in
    let w' = c.in_ok-rest.rest in
    let inv = c.loop-worked.invariant.rest in
    let steps = c.in-Some.ensures.steps in
    let is = steps.0 in
    let lt : length done < length vs = below first f f vs v c.args.worked.items done items w rest inv is in
    let place : c.len-index.result ≡ length done = c.len-index.ensures ∙ c.loop-worked.done.ok.0 in
    let at : slice_get vs (length done) ≡ Some v = at_index vs v c.len-index.result (length done) place lt c.index-workers-index.is in
    let goes : Goes (1 + length done) f h = subst (λ k. Goes (1 + k) f h) place c.in_ok-rest.ensures.goes in
    let works : (old : Fronts) → Works (1 + length done) old f v w → Works (1 + length done) old h v w' =
    subst (λ k. (old : Fronts) → Works (1 + k) old f v w → Works (1 + k) old h v w') place
    (subst (λ cs. (old : Fronts) → Works (1 + c.len-index.result) old f cs w → Works (1 + c.len-index.result) old h cs w') c.as_slice.ensures c.in_ok-rest.ensures.works) in
    let shorter = ap length is in
    record {
      rest = rw c.in_ok-push.ensures.items (rest_more first f h vs v c.args.worked.items done items w rest inv is w' c.requires.holds c.requires.callers at goes works (c.in_ok-rest.ensures.done (has_all_later first f inv.goes c.requires.holds)));
      answers = λ are all.
          let was = c.loop-worked.invariant.answers are all in (
            rw c.in_ok-push.ensures.items (All-push (AnswersAre are) done w' was.0 (c.in_ok-rest.ensures.answers ∙ All-head (AnswersAre are) w rest (subst (All (AnswersAre are)) is was.1))),
            All-rest (AnswersAre are) w rest items is was.1,
          );
      left = omega (arith, shorter, steps.1, c.loop-worked.invariant.left);
    }

pub returns-clause-answers : goal.returns-clause-answers
returns-clause-answers g c = λ are all. (c.loop-worked.invariant.answers are all).0

pub returns-clause-ascending : goal.returns-clause-ascending
returns-clause-ascending g c =
    let fronts = g.P.Steps.fronts in
    rest_ordered (fronts c.args.passes.now) (fronts c.loop-worked.passes) c.args.workers.now c.args.worked.items c.loop-worked.done.items (into_iter_items c.loop-worked.worked-iterator) c.loop-worked.invariant.rest (c.loop-worked.invariant.left ∙ c.in-None.ensures.steps.0)
