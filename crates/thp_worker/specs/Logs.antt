-- The view that contracts have of an `AnswerLog`.
use Rattle.std.specs.Prelude.{ℕ, List, []}
use Rattle.thp_worker.specs.declared.reply.Answer.{Answer}
use Rattle.thp_worker.specs.declared.answer_log.Answers.{Answers}
use Rattle.thp_worker.specs.declared.answer_log.Answers.TheVariants.{Kept, Counted}

-- the answers so far, in order, what happens to them, and the number that there is room for
pub record LogState : Type 0 where
  pub items : List Answer
  pub are : Answers
  pub room : ℕ

-- those of the answers that are stored: all or none
abbrev pub if_kept : Answers → List Answer → List Answer
if_kept Kept answers = answers
if_kept Counted answers = []

abbrev pub stored : LogState → List Answer
stored l = if_kept l.are l.items
