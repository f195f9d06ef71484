use Rattle.std.proofs.Common.{drop, map}
use Rattle.thp_run.specs.Answers.{with_stored}
use Rattle.thp_run.specs.Parts.{text_from}
use Rattle.thp_run.specs.Reports.{shape_of}
use Rattle.thp_worker.specs.declared.reply.SectionLog.{SectionLog}
use Rattle.thp_run.proofs.PartLaws.{all_put, none_left, nothing_was, some_put}
use Rattle.thp_run.proofs.answers.AnswerParts.fill.Goals as goal

pub returns-in-Some-put_from-clause-text : goal.returns-in-Some-put_from-clause-text
returns-in-Some-put_from-clause-text g c =
    let inside = c.loop-section.self-inside in
    let s : SectionLog = c.in-Some.section.now in
    let found = c.in-Some.ensures.lookup.3 in
    some_put (map shape_of inside.nodes.now) inside.place c.in-Some-put_from.place inside.section inside.sections.now s inside.part.items c.put_from.new.part.items _
    found.0 (found.1 s) c.in-Some-put_from.ensures.text c.loop-section.invariant.text

pub loop-section-preserved : goal.loop-section-preserved
loop-section-preserved g c =
    let inside = c.loop-section.self-inside in
    let s : SectionLog = c.in-Some.section.now in
    let found = c.in-Some.ensures.lookup.3 in
    record {
      text = all_put (map shape_of inside.nodes.now) inside.place inside.section inside.sections.now s inside.part.items c.put_from.new.part.items _
          found.0 (found.1 s) c.in_default-put_from.ensures.text c.loop-section.invariant.text;
      room = c.put_from.ensures.room;
      most = c.put_from.ensures.most;
    }

pub returns-clause-end : goal.returns-clause-end
returns-clause-end g c =
    let inside = c.loop-section.self-inside in
    nothing_was inside.part.items (text_from (map shape_of inside.nodes.now) inside.place (map with_stored (drop inside.section inside.sections.now))) _
    c.loop-section.invariant.text (none_left (map shape_of inside.nodes.now) inside.place inside.section inside.sections.now c.in_default.ensures.lookup.3)

pub returns-clause-full : goal.returns-clause-full
returns-clause-full g c h =
    let inside = c.loop-section.self-inside in
    none_left (map shape_of inside.nodes.now) inside.place inside.section inside.sections.now c.in_default.ensures.lookup.3
