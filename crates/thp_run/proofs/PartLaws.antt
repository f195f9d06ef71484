-- The text of answers, part by part.
use Rattle.std.proofs.Common.{◌≡◌, ℕ, ◌+◌, ◌<◌, ◌≤◌, List, [], ◌∷◌, ◌++◌, drop, get_or, length, map, Some, ap, refl, sym, ◌∙◌, append_assoc, slice_get, flat_map}
use Rattle.std.proofs.lemmas.List.{drop_all, drop_more}
use Rattle.thp_history.specs.declared.shape.Shape.{Shape}
use Rattle.thp_run.specs.Answers.{answer_line, answers_text, section_text, with_stored}
use Rattle.thp_run.specs.Parts.{text_from}
use Rattle.thp_worker.specs.declared.reply.Answer.{Answer}
use Rattle.thp_worker.specs.declared.reply.SectionLog.{SectionLog}
use Rattle.thp_worker.specs.Prelude.{stored}
use Rattle.thp_run.proofs.AnswerLaws.{drop_at_get}

-- from the first answer on stands the whole text
pub from_start : (shapes : List Shape) (sections : List SectionLog) → text_from shapes 0 sections ≡ answers_text shapes sections
unfolding text_from answers_text section_text
from_start shapes [] = refl
from_start shapes (s ∷ sections) = refl

-- no text is left behind the last section
pub none_left : (shapes : List Shape) (place n : ℕ) (sections : List SectionLog) → length sections ≤ n → text_from shapes place (map with_stored (drop n sections)) ≡ []
unfolding text_from
none_left shapes place n sections h = ap (λ l. text_from shapes place (map with_stored l)) (drop_all n sections h)

-- where a part took nothing and nothing is left, nothing was
pub nothing_was : (part left was : List ℕ) → part ++ left ≡ was → left ≡ [] → part ≡ [] → was ≡ []
nothing_was part left was e f g = sym e ∙ ap (λ x. part ++ x) f ∙ ap (λ x. x ++ []) g

-- what is left at a section: its answers, and the sections behind it
left_at : (shapes : List Shape) (place n : ℕ) (sections : List SectionLog) (s : SectionLog) → n < length sections → s ≡ get_or sections n s →
    text_from shapes place (map with_stored (drop n sections)) ≡ flat_map (answer_line shapes s.worker) (drop place (stored s.answers)) ++ answers_text shapes (map with_stored (drop (n + 1) sections))
unfolding text_from
left_at shapes place n sections s h is = ap (λ l. text_from shapes place (map with_stored l)) (drop_more sections n s h ∙ ap (λ x. x ∷ drop (n + 1) sections) (sym is))

-- some answers of a section were put behind a part
pub some_put : (shapes : List Shape) (place next n : ℕ) (sections : List SectionLog) (s : SectionLog) (t more was : List ℕ) → n < length sections → s ≡ get_or sections n s →
    more ++ flat_map (answer_line shapes s.worker) (drop next (stored s.answers)) ≡ t ++ flat_map (answer_line shapes s.worker) (drop place (stored s.answers)) →
    t ++ text_from shapes place (map with_stored (drop n sections)) ≡ was → more ++ text_from shapes next (map with_stored (drop n sections)) ≡ was
some_put shapes place next n sections s t more was h is e f =
    let rest = answers_text shapes (map with_stored (drop (n + 1) sections)) in
    ap (λ x. more ++ x) (left_at shapes next n sections s h is)
    ∙ sym (append_assoc more (flat_map (answer_line shapes s.worker) (drop next (stored s.answers))) rest)
    ∙ ap (λ x. x ++ rest) e
    ∙ append_assoc t (flat_map (answer_line shapes s.worker) (drop place (stored s.answers))) rest
    ∙ ap (λ x. t ++ x) (sym (left_at shapes place n sections s h is))
    ∙ f

-- all answers of a section were put
pub all_put : (shapes : List Shape) (place n : ℕ) (sections : List SectionLog) (s : SectionLog) (t more was : List ℕ) → n < length sections → s ≡ get_or sections n s →
    more ≡ t ++ flat_map (answer_line shapes s.worker) (drop place (stored s.answers)) →
    t ++ text_from shapes place (map with_stored (drop n sections)) ≡ was → more ++ text_from shapes 0 (map with_stored (drop (n + 1) sections)) ≡ was
all_put shapes place n sections s t more was h is e f =
    let rest = answers_text shapes (map with_stored (drop (n + 1) sections)) in
    ap (λ x. more ++ x) (from_start shapes (map with_stored (drop (n + 1) sections)))
    ∙ ap (λ x. x ++ rest) e
    ∙ append_assoc t (flat_map (answer_line shapes s.worker) (drop place (stored s.answers))) rest
    ∙ ap (λ x. t ++ x) (sym (left_at shapes place n sections s h is))
    ∙ f

-- an answer was put
pub one_put : (line : Answer → List ℕ) (items : List Answer) (place : ℕ) (answer : Answer) (t more old : List ℕ) → Some answer ≡ slice_get items place →
    more ≡ t ++ line answer → t ++ flat_map line (drop place items) ≡ old → more ++ flat_map line (drop (place + 1) items) ≡ old
one_put line items place answer t more old is e f =
    ap (λ x. x ++ flat_map line (drop (place + 1) items)) e
    ∙ append_assoc t (line answer) (flat_map line (drop (place + 1) items))
    ∙ ap (λ left. t ++ flat_map line left) (sym (drop_at_get items place answer is))
    ∙ f
