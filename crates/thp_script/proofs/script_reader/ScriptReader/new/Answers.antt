use Rattle.thp_script.proofs.PartLaws.{spells_all}
use Rattle.thp_script.proofs.script_reader.ScriptReader.new.Goals as goal

pub returns-clause-text : goal.returns-clause-text
returns-clause-text c = λ text. rw c.new.ensures (spells_all c.args.settings.now c.in_ok-empty_sections.field-0.items text c.in_ok-empty_sections.ensures.empty)
