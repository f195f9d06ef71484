use Rattle.std.proofs.Common.{◌≡◌, ◌∙◌, ◌++◌, [], ap, sym, Ok, None}
use Rattle.thp_script.specs.Prelude.{ScriptSections, lines_spell, fault_with}
use Rattle.thp_history.proofs.Options.{not_there}
use Rattle.thp_script.proofs.PartLaws.{end_is_wrong, end_spells, script_in_range}
use Rattle.thp_script.proofs.TextLaws.{reported_end}
use Rattle.thp_script.proofs.script_reader.ScriptReader.finish.Goals as goal

pub returns-in-Some-fault_after-clause-fault : goal.returns-in-Some-fault_after-clause-fault
returns-in-Some-fault_after-clause-fault c =
    let r = c.self.inside in
    let last = c.last_line-line in
    let sound : fault_with r.text [] ≡ None = sym c.fault.ensures.fault ∙ not_there c.fault.result c.in_default.not-Some in
    rw (← c.self.view_is, last.ensures.number) (reported_end r.text (lines_spell r.settings.now r.sections.items r.section r.text.line (r.text.begun ++ [])) sound
    ∙ end_is_wrong r.settings.now r.sections.items r.section r.text.line r.text.begun c.in-Some-fault_after.kind (rw (← last.ensures.line) last.ensures.one_line) (rw (← last.ensures.line) c.in-Some-fault_after.ensures))

pub returns-in-None-clause-script : goal.returns-in-None-clause-script
returns-in-None-clause-script c =
    let r = c.self.inside in
    let last = c.last_line-line in
    let sound : fault_with r.text [] ≡ None = sym c.fault.ensures.fault ∙ not_there c.fault.result c.in_default.not-Some in
    rw (← c.self.view_is) (reported_end r.text (lines_spell r.settings.now r.sections.items r.section r.text.line (r.text.begun ++ [])) sound
    ∙ end_spells r.settings.now r.sections.items r.section r.text.line r.text.begun (rw (← last.ensures.line) last.ensures.one_line) (rw (← last.ensures.line) c.in-None.ensures)
    ∙ ap (λ (script : ScriptSections). Ok script) (sym c.script_of_sections.ensures))

pub returns-in-None-clause-in_range : goal.returns-in-None-clause-in_range
returns-in-None-clause-in_range c =
    rw (← c.self.view_is, c.script_of_sections.ensures) (script_in_range c.self.inside.settings.now c.self.inside.sections.items c.self.invariant.sections c.self.invariant.commands)
