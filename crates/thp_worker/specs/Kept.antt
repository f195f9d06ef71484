-- Answers in less memory than a list of them: how an `AnswerLog` stores them.
use Rattle.std.specs.Prelude.{◌≡◌, ◌≤◌, ◌<◌, ℕ, false, List, map, length, get_or, All, Vec, vec_capacity, vec_len, Ok, Err, ⊤}
use Rattle.std.specs.declared.alloc.Global.{Global}
use Rattle.thp_history.specs.Prelude.{set_of}
use Rattle.thp_worker.specs.declared.answer_log.ShortAnswer.{ShortAnswer}
use Rattle.thp_worker.specs.declared.answer_log.ShortReply.{ShortReply}
use Rattle.thp_worker.specs.declared.answer_log.ShortReply.TheVariants as short
use Rattle.thp_worker.specs.declared.reply.Answer.{Answer}
use Rattle.thp_worker.specs.declared.reply.Reply.{Reply}
use Rattle.thp_worker.specs.declared.reply.Reply.TheVariants as reply
use Rattle.thp_worker.specs.declared.answer_log.Answers.{Answers}
use Rattle.thp_worker.specs.declared.answer_log.Answers.TheVariants.{Kept, Counted}
use Rattle.thp_worker.specs.Does.{Reaction}
use Rattle.thp_worker.specs.Logs.{if_kept}

-- the answer to a command, from the short form and the long replies
abbrev pub reaction_in : List Reply → ShortReply → Reaction
reaction_in long (short.Page p) = Ok (reply.Page p)
reaction_in long short.Unit = Ok reply.Unit
reaction_in long (short.Done outcome) = Ok (reply.Done (record { outcome = outcome; released = set_of (λ i. false) }))
reaction_in long (short.Count n) = Ok (reply.Count n)
reaction_in long (short.Taken n) = Ok (reply.Taken n)
reaction_in long (short.Tried t) = Ok (reply.Tried t)
reaction_in long (short.Back r) = Ok (reply.Back r)
reaction_in long short.NoBatch = Ok reply.NoBatch
reaction_in long (short.Refused why) = Err why
reaction_in long (short.Long place) = Ok (get_or long place reply.NoBatch)

abbrev pub answer_in : List Reply → ShortAnswer → Answer
answer_in long a = record { command = a.command; node = a.node; reply = reaction_in long a.reply }

abbrev pub answers_in : List Reply → List ShortAnswer → List Answer
answers_in long short = map (answer_in long) short

-- a reply that is stored among so many long ones exists
abbrev pub is_there : ℕ → ShortReply → Type 0
is_there many (short.Long place) = place < many
is_there many _ = ⊤

-- These answers are stored, each long reply exists, and there is room for so many; or they are counted.
pub record IsLog (are : Answers) (reported : List Answer) (short : Vec ShortAnswer Global) (long : Vec Reply Global) (count room : ℕ) : Type 0 where
  pub answers : answers_in long.items short.items ≡ if_kept are reported
  pub there : All (λ a. is_there (length long.items) a.reply) short.items
  pub kept : are ≡ Kept → vec_len short ≡ length reported
  pub counted : are ≡ Counted → count ≡ length reported
  pub fewer : vec_len long ≤ length reported
  pub short_room : are ≡ Kept → room ≤ vec_capacity short
  pub long_room : are ≡ Kept → room ≤ vec_capacity long
