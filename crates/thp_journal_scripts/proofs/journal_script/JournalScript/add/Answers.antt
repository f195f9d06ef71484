use Rattle.std.proofs.Common.{◌∙◌, ◌+◌, ◌++◌, ap, refl, sym, if◌then◌else◌}
use Rattle.thp_history.specs.Prelude.{event_with}
use Rattle.thp_history.specs.declared.events.What.{What}
use Rattle.thp_journal_scripts.specs.Prelude.{capped_count, done_page, is_other, taken_by, tried_page, unless_done}
use Rattle.thp_journal_scripts.proofs.FoldingLaws.{in_any_block}
use Rattle.thp_journal_scripts.proofs.NodeScriptLaws.{goes_on}
use Rattle.thp_journal_scripts.proofs.journal_script.JournalScript.add.Goals as goal

pub returns-clause-goes_on : goal.returns-clause-goes_on
returns-clause-goes_on c = λ block.
    let reported = c.args.event.now in
    let pages = c.args.self.now.turns.untried.items in
    let old = c.args.self.now.turns.out_of_turn in
    goes_on c.args.self.now c.write.new.self c.in-Some.node c.add-2.new.ops.items c.in-Some.is c.in_ok-write.ensures.text c.in_ok-write.ensures.taken c.in_ok-write.ensures.nodes c.in_ok-write.ensures.shapes
    c.in_ok-write.ensures.ops (event_with block reported) c.add-2.new.self c.in_ok-write.ensures.node c.in_ok-write.ensures.moved
    (ap (λ t. t.untried.items) c.in_ok-write.ensures.turns ∙ c.in_ok-add.ensures.untried
    ∙ sym (in_any_block (λ (w : What). unless_done (done_page w) pages ++ taken_by reported.caller w) (λ p b d. refl) block reported.what))
    (ap (λ t. t.out_of_turn) c.in_ok-write.ensures.turns ∙ c.in_ok-add.ensures.count
    ∙ sym (in_any_block (λ (w : What). capped_count (old + (if is_other pages reported.caller (tried_page w) then 1 else 0))) (λ p b d. refl) block reported.what))
    (c.in_ok-add-2.ensures block)
