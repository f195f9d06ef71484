-- Lines of answers, made piece by piece.
use Rattle.std.proofs.Common.{◌≡◌, ℕ, ◌+◌, ◌<◌, Bool, Option, arith, inl, inr, length, List, [], ◌∷◌, ◌++◌, drop, Some, Result, Ok, Err, ap, sym, ◌∙◌, append_assoc, OnOk, slice_get}
use Rattle.std.proofs.lemmas.List.{drop_more}
use Rattle.std.proofs.lemmas.Option.{get_or_from_slice_get, slice_get_cases, slice_get_within}
use Rattle.std.specs.declared.alloc.AllocError.{AllocError}
use Rattle.thp_node.specs.declared.answers.Tried.{Tried}
use Rattle.thp_node.specs.declared.answers.Tried.TheVariants as tried
use Rattle.thp_worker.specs.declared.reply.Reply.{Reply}
use Rattle.thp_worker.specs.declared.reply.Reply.TheVariants as reply
use Rattle.thp_worker.specs.Prelude.{Reaction}
use Rattle.thp_journal_writer.specs.Prelude.{spaced_line, ended}
use Rattle.thp_run.specs.Answers.{tried_words, reply_words, reaction_words}

-- there is a first word
abbrev pub Starts : List (List ℕ) → Type 0
Starts [] = ⊥
Starts (w ∷ ws) = Unit {0}

-- what a try did has a first word
tried_starts : (t : Tried) → Starts (tried_words t)
tried_starts (tried.Split p) = tt
tried_starts (tried.Pinned p) = tt
tried_starts (tried.Used p) = tt
tried_starts tried.Done = tt

-- and so has a reply
reply_starts : (looks : Bool) (r : Reply) → Starts (reply_words looks r)
reply_starts looks (reply.Page p) = tt
reply_starts looks reply.Unit = tt
reply_starts looks (reply.Done d) = tt
reply_starts looks (reply.Scan r) = tt
reply_starts looks (reply.Count n) = tt
reply_starts looks (reply.Taken n) = tt
reply_starts looks (reply.Tried t) = tried_starts t
reply_starts looks (reply.Back r) = tt
reply_starts looks reply.NoBatch = tt

-- what a command is answered has a first word
pub reaction_starts : (looks : Bool) (a : Reaction) → Starts (reaction_words looks a)
reaction_starts looks (Ok r) = reply_starts looks r
reaction_starts looks (Err why) = tt

-- a text, two words put behind it, each with a space, and the words of a line that go on from there
pub line-goes_on : (ws : List (List ℕ)) (t a b : List ℕ) → Starts ws →
    ((t ++ a ++ 32 ∷ []) ++ b ++ 32 ∷ []) ++ ended (spaced_line ws) ≡ t ++ ended (spaced_line (a ∷ b ∷ ws))
line-goes_on [] t a b s = absurd s
line-goes_on (w ∷ ws) t a b s = simp append_assoc

-- where the words of an answer were put behind two others, its whole line was put
pub answer-put : (r : Result (Unit {0}) AllocError) (ws own : List (List ℕ)) (t t1 t2 t3 a b : List ℕ) → Starts ws → own ≡ ws →
    t1 ≡ t ++ a ++ 32 ∷ [] → t2 ≡ t1 ++ b ++ 32 ∷ [] → OnOk r (t3 ≡ t2 ++ ended (spaced_line ws)) → OnOk r (t3 ≡ t ++ ended (spaced_line (a ∷ b ∷ own)))
answer-put (Err e) ws own t t1 t2 t3 a b s o p q g = tt
answer-put (Ok u) ws own t t1 t2 t3 a b s o p q g =
    g ∙ ap (λ x. x ++ ended (spaced_line ws)) (q ∙ ap (λ x. x ++ b ++ 32 ∷ []) p) ∙ line-goes_on ws t a b s ∙ ap (λ x. t ++ ended (spaced_line (a ∷ b ∷ x))) (sym o)

-- what is left of a list from a place at which this stands
pub drop_at_get : {A : Type 0} (xs : List A) (place : ℕ) (x : A) → Some x ≡ slice_get xs place → drop place xs ≡ x ∷ drop (place + 1) xs
drop_at_get xs place x is =
    drop_more xs place x (slice_get_within xs place x (sym is)) ∙ ap (λ y. y ∷ drop (place + 1) xs) (get_or_from_slice_get xs place x x (sym is))

-- there is an element at each index below the length
pub there : {A : Type 0} (xs : List A) (got : Option A) (i n : ℕ) → n ≡ length xs → i < n → got ≡ slice_get xs i → ((x : A) → got ≡ Some x → ⊥) → ⊥
there xs got i n size lt is none = elim (slice_get_cases xs i).1 [
  | inl a ↦ none a.0 (is ∙ a.2)
  | inr past ↦ absurd (omega (arith, size, lt, past.0))
]
