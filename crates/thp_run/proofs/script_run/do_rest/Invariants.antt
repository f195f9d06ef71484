use Rattle.std.proofs.Common.{◌≡◌, length, All}
use Rattle.std.specs.Vec.Iter.{into_iter_items, into_iter_len}
use Rattle.thp_worker.specs.declared.answer_log.Answers.{Answers}
use Rattle.thp_worker.specs.Prelude.{AnswersAre}
use Rattle.thp_run.proofs.RestLaws.{RestDone}
use Rattle.thp_run.proofs.script_run.do_rest.Given as goal

abbrev pub invariant-loop-worked : goal.invariant-loop-worked
invariant-loop-worked g l = record {
  rest : RestDone (g.P.Steps.fronts l.initial.passes) (g.P.Steps.fronts l.passes) l.workers l.fn.worked.items l.done.items (into_iter_items l.worked-iterator);
  answers : (are : Answers) → All (AnswersAre are) l.fn.worked.items → All (AnswersAre are) l.done.items × All (AnswersAre are) (into_iter_items l.worked-iterator);
  left : length (into_iter_items l.worked-iterator) ≡ into_iter_len l.worked-iterator;
}
