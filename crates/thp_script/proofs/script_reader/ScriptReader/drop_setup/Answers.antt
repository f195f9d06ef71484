use Rattle.std.proofs.Common.{arith}
use Rattle.thp_script.proofs.SetupLaws.{none_left, setup_gone}
use Rattle.thp_script.proofs.script_reader.ScriptReader.drop_setup.Goals as goal

pub returns-clause-text : goal.returns-clause-text
returns-clause-text c = λ more.
    let r = c.self.inside in
    rw (← c.self.view_is, c.clear.ensures)
    (setup_gone r.settings.now r.sections.items r.section r.text more (omega arith))

pub returns-clause-gone : goal.returns-clause-gone
returns-clause-gone c = rw c.clear.ensures (none_left c.self.inside.sections.items)
