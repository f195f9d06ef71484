use Rattle.std.proofs.Common.{◌≡◌, length, take}
use Rattle.thp_worker.specs.declared.answer_log.Answers.TheVariants.{Kept}
use Rattle.thp_run.proofs.listed.to_log.Given as goal

abbrev pub invariant-loop-answer : goal.invariant-loop-answer
invariant-loop-answer l = record {
  items : l.log.items ≡ take l.answer-index l.answers;
  count : length l.log.items ≡ l.answer-index;
  are : l.log.are ≡ Kept;
  room : l.log.room ≡ l.room;
}
