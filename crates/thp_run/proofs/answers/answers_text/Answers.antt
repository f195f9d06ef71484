use Rattle.std.proofs.Common.{◌≡◌, ◌∙◌, ◌+◌, ◌++◌, ◌<◌, ◌≤◌, ◌∷◌, ℕ, List, append_assoc, append-nil, arith, sym, ap, map, drop, flat_map, get_or, length}
use Rattle.std.proofs.lemmas.List.{at_drop_all, drop_more}
use Rattle.thp_history.specs.declared.shape.Shape.{Shape}
use Rattle.thp_run.specs.Answers.{answer_line, answers_text, section_text, with_stored}
use Rattle.thp_run.specs.Reports.{shape_of}
use Rattle.thp_worker.specs.declared.reply.SectionLog.{SectionLog}
use Rattle.thp_worker.specs.Prelude.{stored}
use Rattle.thp_run.proofs.AnswerLaws.{drop_at_get, there}
use Rattle.thp_run.proofs.answers.answers_text.Goals as goal

-- all answers of a section were put
section_put : (shapes : List Shape) (place n : ℕ) (sections : List SectionLog) (s : SectionLog) (t more was : List ℕ) →
    n < length sections → s ≡ get_or sections n s →
    length (stored s.answers) ≤ place → more ++ flat_map (answer_line shapes s.worker) (drop place (stored s.answers)) ≡ t ++ section_text shapes (with_stored s) →
    t ++ answers_text shapes (map with_stored (drop n sections)) ≡ was → more ++ answers_text shapes (map with_stored (drop (n + 1) sections)) ≡ was
unfolding answers_text
section_put shapes place n sections s t more was h is end e f =
    let rest = answers_text shapes (map with_stored (drop (n + 1) sections)) in
    let put = sym (append-nil more) ∙ ap (λ x. more ++ x) (sym (at_drop_all (flat_map (answer_line shapes s.worker)) (stored s.answers) place end)) ∙ e in
    let cut = drop_more sections n s h ∙ ap (λ x. x ∷ drop (n + 1) sections) (sym is) in
    ap (λ x. x ++ rest) put
    ∙ append_assoc t (section_text shapes (with_stored s)) rest
    ∙ ap (λ l. t ++ answers_text shapes (map with_stored l)) (sym cut)
    ∙ f

pub loop-place-preserved : goal.loop-place-preserved
loop-place-preserved g c =
    let items = stored c.section-item.result.answers in
    let place = c.loop-place.place in
    let answer = c.in-Some.answer in
    let line = answer_line (map shape_of c.args.nodes.now) c.section-item.result.worker in
    rw (c.in_ok-put_answer.ensures.text)
    (append_assoc c.loop-place.text.items (line answer) (flat_map line (drop (place + 1) items))
    ∙ ap (λ left. c.loop-place.text.items ++ flat_map line left) (sym (drop_at_get items place answer c.in-Some.ensures))
    ∙ c.loop-place.invariant)

pub loop-section-preserved : goal.loop-section-preserved
loop-section-preserved g c =
    section_put (map shape_of c.args.nodes.now) c.loop-place.place c.loop-section.section-index c.args.sections.now c.section-item.result c.loop-section.text.items c.loop-place.text.items _
    c.loop-section-test.true c.section-item.is (omega arith) c.loop-place.invariant c.loop-section.invariant

pub unreachable-requires : goal.unreachable-requires
unreachable-requires g c = there (stored c.section-item.result.answers) c.get.result c.loop-place.place c.stored_len-place-end.result c.stored_len-place-end.ensures c.loop-place-test.true c.get.ensures c.in_default.not-Some

pub returns : goal.returns
unfolding answers_text
returns g c =
    let shapes = map shape_of c.args.nodes.now in
    let sections = c.args.sections.now in
    let text = c.loop-section.text.items in
    let end : length sections ≤ c.loop-section.section-index = omega arith in
    sym (append-nil text) ∙ ap (λ t. text ++ t) (sym (at_drop_all (λ (l : List SectionLog). answers_text shapes (map with_stored l)) sections c.loop-section.section-index end)) ∙ c.loop-section.invariant
