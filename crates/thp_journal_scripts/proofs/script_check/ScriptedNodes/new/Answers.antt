use Rattle.std.proofs.Common.{◌∙◌, ap, subst}
use Rattle.thp_journal_reader.specs.Prelude.{ReportsFirst, nodes_read}
use Rattle.thp_journal_reader.proofs.CheckLaws.{reported_none}
use Rattle.thp_journal_scripts.proofs.JournalScriptLaws.{script_begins}
use Rattle.thp_journal_scripts.proofs.script_check.ScriptedNodes.new.Goals as goal

pub returns-clause-script : goal.returns-clause-script
returns-clause-script c =
    let illegal = c.new.result.follower.illegal in
    script_begins illegal c.new-2.result (subst (λ ns. ReportsFirst ns illegal) (ap nodes_read c.new.ensures.lines ∙ reported_none) c.new.ensures.follows.follows.first) c.new-2.ensures.writing
