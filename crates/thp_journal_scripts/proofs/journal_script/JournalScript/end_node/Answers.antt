use Rattle.std.proofs.Common.{◌∙◌, sym}
use Rattle.thp_journal_scripts.proofs.NodeScriptLaws.{ends}
use Rattle.thp_journal_scripts.proofs.journal_script.JournalScript.end_node.Goals as goal

pub returns-in_ok-write-clause-ends : goal.returns-in_ok-write-clause-ends
returns-in_ok-write-clause-ends c =
    ends c.args.self.now c.write.new.self c.in-Some.node c.finish.new.ops.items (sym c.take.ensures.value ∙ c.in-Some.is) c.in_ok-write.ensures.text c.in_ok-write.ensures.taken c.in_ok-write.ensures.nodes c.in_ok-write.ensures.shapes
    c.in_ok-write.ensures.ops c.in_ok-moved.moved (c.in_ok-write.ensures.node ∙ c.take.ensures.after) (c.in_ok-write.ensures.moved ∙ c.and-self.ensures) c.in_ok-write.ensures.turns c.in_ok-moved.ensures
