-- Answers kept short: a further long reply changes none of those before it.
use Rattle.std.proofs.Common.{◌≡◌, ◌∙◌, ℕ, ◌+◌, ◌≤◌, List, [], ◌∷◌, ◌++◌, ap, arith, get_or, length, length-append, refl, sym, All, Vec, vec_capacity, vec_len}
use Rattle.std.specs.declared.alloc.Global.{Global}
use Rattle.std.proofs.lemmas.List.Elements.{All-head, All-push, All-tail}
use Rattle.thp_worker.specs.Prelude.{Answer, ShortAnswer, ShortReply, Reply, answer_in, answers_in, if_kept, is_there, reaction_in}
use Rattle.thp_worker.specs.Kept.{IsLog}
use Rattle.thp_worker.specs.declared.answer_log.Answers.{Answers}
use Rattle.thp_worker.specs.declared.answer_log.Answers.TheVariants.{Kept, Counted}
use Rattle.std.proofs.lemmas.List.{map-append}

-- what stood among the old long replies stands among the new ones, and says the same
abbrev pub StandOn : List Reply → List Reply → Type 0
StandOn old new = (reply : ShortReply) → is_there (length old) reply → is_there (length new) reply × (reaction_in new reply ≡ reaction_in old reply)

pub answers_stay : (old new : List Reply) (answers : List ShortAnswer) → StandOn old new → All (λ (a : ShortAnswer). is_there (length old) a.reply) answers → answers_in new answers ≡ answers_in old answers
answers_stay old new [] same there = refl
answers_stay old new (a ∷ answers) same there =
    let first = same a.reply (All-head (λ (a : ShortAnswer). is_there (length old) a.reply) a answers there) in
    rw (first.1, answers_stay old new answers same (All-tail (λ (a : ShortAnswer). is_there (length old) a.reply) a answers there)) refl

-- of no answers none are stored
pub none_stored : (are : Answers) → if_kept are [] ≡ []
none_stored Kept = refl
none_stored Counted = refl

-- an answer put behind the others, with the long replies as they are then
pub pushed : (old new : List Reply) (answers : List ShortAnswer) (last : ShortAnswer) → StandOn old new → All (λ (a : ShortAnswer). is_there (length old) a.reply) answers → answers_in new (answers ++ last ∷ []) ≡ answers_in old answers ++ answer_in new last ∷ []
pushed old new answers last same there =
    rw (map-append (answer_in new) answers (last ∷ []), answers_stay old new answers same there) refl

-- a log with one more stored answer
pub log_pushed : (are : Answers) (reported now : List Answer) (answer : Answer) (short more : Vec ShortAnswer Global) (long longer : Vec Reply Global) (count room : ℕ) (last : ShortAnswer)
    → IsLog are reported short long count room → are ≡ Kept → now ≡ reported ++ answer ∷ [] → more.items ≡ short.items ++ last ∷ [] → vec_len more ≡ vec_len short + 1 → vec_capacity more ≡ vec_capacity short
    → StandOn long.items longer.items → is_there (length longer.items) last.reply → answer ≡ answer_in longer.items last → vec_len longer ≤ vec_len long + 1 → vec_capacity longer ≡ vec_capacity long
    → IsLog are now more longer count room
log_pushed are reported now answer short more long longer count room last old kept is items len cap stand here same one long-cap =
    let all = length-append reported (answer ∷ []) in
    record {
      answers = rw (kept, is, items)
          (pushed long.items longer.items short.items last stand old.there
          ∙ ap (λ l. l ++ answer_in longer.items last ∷ []) (rw kept at old.answers)
          ∙ ap (λ a. reported ++ a ∷ []) (sym same));
      there = rw items (All-push (λ (a : ShortAnswer). is_there (length longer.items) a.reply) short.items last (λ k d lt. (stand (get_or short.items k d).reply (old.there k d lt)).0) here);
      kept = λ k. let was = old.kept k in rw is (omega (arith, len, was, all));
      counted = λ c. absurd cc;
      fewer = rw is (omega (arith, one, old.fewer, all));
      short_room = λ k. rw cap (old.short_room k);
      long_room = λ k. rw long-cap (old.long_room k);
    }
