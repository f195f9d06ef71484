use Rattle.std.proofs.Common.{◌≡◌, ◌∙◌, ◌++◌, ◌∷◌, ap, arith, rules, sym}
use Rattle.thp_script.specs.Prelude.{lines_spell, after_line, result_after, with_begun, with_fault, IsCounted, Text, lines_of}
use Rattle.thp_script.proofs.PartLaws.{line_is_wrong}
use Rattle.thp_script.proofs.PartReadLaws.{line_inside, line_spelled, part_begins}
use Rattle.thp_script.proofs.TextLaws.{fault_comes, line_begins, noted}
use Rattle.thp_script.proofs.script_reader.ScriptReader.read_part.Goals as goal
use Rattle.thp_script.proofs.script_reader.ScriptReader.read_part.Goals.{in-Some+in-Err, in_default}

pub loop-text-init : goal.loop-text-init
loop-text-init c =
    let r = c.self.inside in
    let part = c.next_part-rest in
    record {
      spelled = λ more. rw (← c.self.view_is)
          (c.in_ok-rest.ensures.spelled more
          ∙ part_begins r.text part.new.self c.args.part.now part.result.now more (lines_spell r.settings.now r.sections.items r.section) (omega (arith, c.self.invariant.most)) part.ensures.part part.ensures.to_read);
      inside = c.in_ok-rest.ensures.inside;
    }

pub add_fast-requires-in-Ok : goal.add_fast-requires-in-Ok
add_fast-requires-in-Ok c =
    let l = c.loop-text in
    let after : c.next_line.new.self ≡ after_line l.text = search rules in
    let counted : IsCounted c.next_line.new.rest.now c.next_line.new.self = search rules in
    line_inside c.self.inside.settings.now l.sections.items c.add.new.sections.items l.section c.section_after-next.result l.text c.next_line.new.self l.rest.now c.next_line.new.rest.now c.as_slice.result.now c.in-Ok.statement
    l.invariant.inside c.in-Ok.ensures c.in_ok-add-in-Ok.ensures.added c.section_after-next.ensures after counted

pub loop-text-preserved : goal.loop-text-preserved
loop-text-preserved c =
    let l = c.loop-text in
    let line = c.as_slice.result.now in
    let after : c.next_line.new.self ≡ after_line l.text = search rules in
    let lines : (more : Text) → lines_of (l.text.begun ++ (l.rest.now ++ more)) ≡ line ∷ lines_of (c.next_line.new.rest.now ++ more) = search rules in
    record {
      spelled = λ more. c.in_ok-rest-in-Ok.ensures.spelled more
          ∙ line_spelled c.self.inside.settings.now l.sections.items c.add.new.sections.items l.section c.section_after-next.result l.text c.next_line.new.self l.rest.now c.next_line.new.rest.now line c.in-Ok.statement
          lines c.in-Ok.ensures c.in_ok-add-in-Ok.ensures.added c.section_after-next.ensures after more
          ∙ l.invariant.spelled more;
      inside = c.in_ok-rest-in-Ok.ensures.inside;
    }

pub returns-clause-text : goal.returns-clause-text
returns-clause-text c = λ more.
    let s = c.self.inside.settings.now in
    let l = c.loop-text in
    let new = c.match-branch-3.text in
    let reads = lines_spell s l.sections.items l.section in
    elim c.match-branch-3.branch [
      | in-Some+in-Err w ↦ (
          let kind = w.in-Err.kind in
          let after : c.next_line.new.self ≡ after_line l.text = search rules in
          let line : lines_of (l.text.begun ++ (l.rest.now ++ more)) ≡ w.as_slice.result.now ∷ lines_of (c.next_line.new.rest.now ++ more) = rw w.as_slice.ensures.value ((rw w.in-Some.is at c.in_ok-bytes.ensures.line) more) in
          let is : new ≡ with_fault (after_line l.text) (l.text.line, kind) = w.text-is ∙ w.note_fault.ensures ∙ noted c.next_line.new.self l.text kind after in
          let wrong = line_is_wrong s l.sections.items l.section l.text.line (l.text.begun ++ (l.rest.now ++ more)) w.as_slice.result.now (c.next_line.new.rest.now ++ more) kind line w.in-Err.ensures in
          fault_comes (after_line l.text) new (l.text.line, kind) more (reads new.line (new.begun ++ more)) is ∙ ap (result_after l.text more) (sym wrong) ∙ l.invariant.spelled more
          )
      | in_default w ↦ (
          let begun : c.next_line.new.self ≡ with_begun l.text l.rest.now = search rules in
          line_begins l.text new l.rest.now more reads (w.text-is ∙ begun) ∙ l.invariant.spelled more
          )
    ]
