use Rattle.std.proofs.Common.{[], ◌∷◌, ◌++◌, ◌+◌, ap, map, refl, sym, ◌∙◌, decimal}
use Rattle.thp_run.specs.Answers.{answer_line, looks, reaction_words}
use Rattle.thp_run.specs.Reports.{shape_of}
use Rattle.thp_run.proofs.AnswerLaws.{reaction_starts, answer-put}
use Rattle.thp_run.proofs.answers.put_answer.Goals as goal

pub returns-in-Ok-clause-text : goal.returns-in-Ok-clause-text
unfolding answer_line
returns-in-Ok-clause-text g c =
    answer-put c.put_reply.result (reaction_words c.looks_on.result c.args.answer.now.reply) _ _ _ _ _ _ _ (reaction_starts _ _)
    (ap (λ b. reaction_words b c.args.answer.now.reply) (sym c.looks_on.ensures))
    (c.in_ok-put_number.ensures.text ∙ ap (λ n. c.args.text.now.items ++ decimal n ++ 32 ∷ []) c.from.ensures)
    (c.in_ok-put_number-2.ensures.text ∙ ap (λ n. c.put_number.new.text.items ++ decimal (n + 1) ++ 32 ∷ []) c.from-2.ensures)
    (rw c.in-Ok.is c.put_reply.ensures.text)

pub returns-in-Err-clause-text : goal.returns-in-Err-clause-text
unfolding answer_line
returns-in-Err-clause-text g c =
    answer-put c.put_refusal.result (reaction_words (looks (map shape_of c.args.nodes.now) c.args.answer.now.node) c.args.answer.now.reply) _ _ _ _ _ _ _ (reaction_starts _ _) refl
    (c.in_ok-put_number.ensures.text ∙ ap (λ n. c.args.text.now.items ++ decimal n ++ 32 ∷ []) c.from.ensures)
    (c.in_ok-put_number-2.ensures.text ∙ ap (λ n. c.put_number.new.text.items ++ decimal (n + 1) ++ 32 ∷ []) c.from-2.ensures)
    (rw c.in-Err.is c.put_refusal.ensures.text)
