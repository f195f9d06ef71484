use Rattle.thp_journal_scripts.proofs.JournalScriptLaws.{script_ends}
use Rattle.thp_journal_scripts.proofs.script_check.ScriptedNodes.finish.Goals as goal

pub returns-clause-script : goal.returns-clause-script
returns-clause-script c = λ nodes s.
    rw (c.illegal.ensures, ← c.in_ok-end_node.ensures.taken) (script_ends nodes c.args.self.checked.follower.illegal c.args.self.script c.end_node.new.self c.in_ok-end_node.ensures.ends s)
