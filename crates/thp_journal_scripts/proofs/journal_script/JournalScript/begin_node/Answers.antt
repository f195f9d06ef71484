use Rattle.std.proofs.Common.{◌∙◌, ◌++◌, ap, refl}
use Rattle.thp_journal_scripts.specs.Prelude.{head_text}
use Rattle.thp_journal_scripts.proofs.NodeScriptLaws.{begins}
use Rattle.thp_journal_scripts.proofs.journal_script.JournalScript.begin_node.Goals as goal

pub returns-clause-begins : goal.returns-clause-begins
returns-clause-begins c =
    begins c.args.self.now c.end_node.new.self _ c.args.shape c.new.result c.in_ok-end_node.ensures.ends c.in_ok-push.ensures.items c.saturating_add-self.ensures refl
    (c.in_ok-put_head.ensures ∙ ap (λ v. c.end_node.new.self.text.items ++ head_text v) c.as_slice.ensures.value) refl c.new.ensures refl refl c.clear.ensures.items refl
