use Rattle.std.proofs.Common.{◌≡◌, ◌∙◌, ◌++◌, [], sym, None}
use Rattle.thp_script.specs.Prelude.{fault_with}
use Rattle.thp_script.proofs.TextLaws.{reported_end}
use Rattle.thp_journal_reader.specs.Prelude.{result_of_lines}
use Rattle.thp_journal_reader.proofs.PartLaws.{end_is_wrong, end_reports}
use Rattle.thp_journal_reader.proofs.text_reader.TextReader.finish.Goals as goal

pub returns-in-None-Some-clause-fault : goal.returns-in-None-Some-clause-fault
returns-in-None-Some-clause-fault g c =
    let reported = g.N.KeepsNodes.reported in
    let r = c.args.self in
    let last = c.last_line-line in
    let kind = c.in-None-Some.kind in
    let sound : fault_with r.text [] ≡ None = sym c.fault.ensures.fault ∙ c.in-None-Some.is-0 in
    rw last.ensures.number (reported_end r.text (result_of_lines (reported r.nodes) r.place r.text.line (r.text.begun ++ [])) sound
    ∙ end_is_wrong (reported r.nodes) r.place r.text.line r.text.begun kind (rw (← last.ensures.line) last.ensures.one_line) (rw (← last.ensures.line) (sym c.in-None-Some.is-1 ∙ c.fault_at.ensures)))

pub returns-in-None-None-clause-reported : goal.returns-in-None-None-clause-reported
returns-in-None-None-clause-reported g c =
    let reported = g.N.KeepsNodes.reported in
    let r = c.args.self in
    let last = c.last_line-line in
    let sound : fault_with r.text [] ≡ None = sym c.fault.ensures.fault ∙ c.in-None-None.is-0 in
    reported_end r.text (result_of_lines (reported r.nodes) r.place r.text.line (r.text.begun ++ [])) sound
    ∙ end_reports (reported r.nodes) r.place r.text.line r.text.begun (rw (← last.ensures.line) last.ensures.one_line) (rw (← last.ensures.line) (sym c.in-None-None.is-1 ∙ c.fault_at.ensures))
