use Rattle.std.proofs.Common.{◌≡◌, ◌∙◌, ◌++◌, ◌∷◌, ℕ, ap, arith, rules, subst, sym, Ok}
use Rattle.thp_script.specs.Prelude.{after_line, result_after, with_begun, with_fault, TextSoFar, Text, lines_of}
use Rattle.thp_script.proofs.PartReadLaws.{part_begins}
use Rattle.thp_script.proofs.TextLaws.{fault_comes, line_begins, noted}
use Rattle.thp_journal_reader.specs.Prelude.{line_in, result_of_lines, version_at, with_line}
use Rattle.thp_journal_reader.proofs.NodeLaws.{version_now}
use Rattle.thp_journal_reader.proofs.PartLaws.{line_is_wrong, line_reports}
use Rattle.thp_journal_reader.proofs.text_reader.TextReader.read_part.Goals as goal
use Rattle.thp_journal_reader.proofs.text_reader.TextReader.read_part.Goals.{in-Some+in-Err, in_default}

abbrev most_of : TextSoFar → ℕ
most_of t = t.most

pub add-requires-clause-in_range : goal.add-requires-clause-in_range
add-requires-clause-in_range g c =
    let l = c.loop-text in
    (version_at l.place, l.invariant.allows (version_at l.place) (version_now l.place), c.in-Ok.ensures.in_range)

pub loop-text-init : goal.loop-text-init
loop-text-init g c =
    let reported = g.N.KeepsNodes.reported in
    let part = c.next_part-rest in
    record {
      reports = λ more. c.in_ok-rest.ensures.reports more
          ∙ part_begins c.args.self.text part.new.self c.args.part.now part.result.now more (result_of_lines (reported c.args.self.nodes) c.args.self.place) (omega (arith, c.text.invariant.counted, ap most_of c.text.view_is, c.in_ok-rest.ensures.most, ap most_of part.ensures.part)) part.ensures.part part.ensures.to_read;
      counted = c.in_ok-rest.ensures.counted;
      along = c.in_ok-rest.ensures.along;
      limit = c.in_ok-rest.ensures.most ∙ ap most_of part.ensures.part;
      allows = c.requires.allows;
      taken = c.in_ok-rest.ensures.taken;
    }

pub loop-text-preserved : goal.loop-text-preserved
loop-text-preserved g c =
    let reported = g.N.KeepsNodes.reported in
    let l = c.loop-text in
    let bytes = c.as_slice.result.now in
    let line = c.in-Ok.line in
    let after : c.next_line.new.self ≡ after_line l.text = search rules in
    let lines : (more : Text) → lines_of (l.text.begun ++ (l.rest.now ++ more)) ≡ bytes ∷ lines_of (c.next_line.new.rest.now ++ more) = search rules in
    let says : Ok line ≡ line_in l.place bytes = c.in-Ok.ensures.value in
    let number : c.in-Some.field-0.number ≡ l.text.line = rw c.in-Some.is at c.in_ok-number.ensures.number in
    let added : reported c.add.new.self ≡ with_line l.text.line (reported l.nodes) line = rw number at c.in_ok-add-in-Ok.ensures.nodes in
    let step : (more : Text) → result_after c.next_line.new.self more (result_of_lines (reported c.add.new.self) c.place_after-place.result c.next_line.new.self.line (c.next_line.new.self.begun ++ (c.next_line.new.rest.now ++ more)))
    ≡ result_after l.text more (result_of_lines (reported l.nodes) l.place l.text.line (l.text.begun ++ (l.rest.now ++ more)))
    = λ more. rw (after, added, c.place_after-place.ensures) (ap (result_after l.text more) (sym (line_reports (reported l.nodes) l.place l.text.line (l.text.begun ++ (l.rest.now ++ more)) bytes (c.next_line.new.rest.now ++ more) line (lines more) says)))
    in
    record {
      reports = λ more. c.in_ok-rest-in-Ok.ensures.reports more ∙ step more ∙ l.invariant.reports more;
      counted = c.in_ok-rest-in-Ok.ensures.counted;
      along = c.in_ok-rest-in-Ok.ensures.along;
      limit = c.in_ok-rest-in-Ok.ensures.most ∙ rw after l.invariant.limit;
      allows = λ v may. l.invariant.allows v (c.in-Ok.ensures.within v (rw c.place_after-place.ensures at may));
      taken = c.in_ok-rest-in-Ok.ensures.taken ∙ c.in_ok-add-in-Ok.ensures.taken ∙ l.invariant.taken;
    }

pub returns-clause-text : goal.returns-clause-text
returns-clause-text g c = λ more.
    let reported = g.N.KeepsNodes.reported in
    let l = c.loop-text in
    let new = c.match-branch-3.text in
    let reads = result_of_lines (reported l.nodes) l.place in
    elim c.match-branch-3.branch [
      | in-Some+in-Err w ↦ (
          let kind = w.in-Err.kind in
          let after : c.next_line.new.self ≡ after_line l.text = search rules in
          let line : lines_of (l.text.begun ++ (l.rest.now ++ more)) ≡ w.as_slice.result.now ∷ lines_of (c.next_line.new.rest.now ++ more) = rw w.as_slice.ensures.value ((rw w.in-Some.is at c.in_ok-number.ensures.line) more) in
          let is : new ≡ with_fault (after_line l.text) (l.text.line, kind) = w.text-is ∙ w.note_fault.ensures ∙ noted c.next_line.new.self l.text kind after in
          let wrong = line_is_wrong (reported l.nodes) l.place l.text.line (l.text.begun ++ (l.rest.now ++ more)) w.as_slice.result.now (c.next_line.new.rest.now ++ more) kind line w.in-Err.ensures.value in
          fault_comes (after_line l.text) new (l.text.line, kind) more (reads new.line (new.begun ++ more)) is ∙ ap (result_after l.text more) (sym wrong) ∙ l.invariant.reports more
          )
      | in_default w ↦ (
          let begun : c.next_line.new.self ≡ with_begun l.text l.rest.now = search rules in
          line_begins l.text new l.rest.now more reads (w.text-is ∙ begun) ∙ l.invariant.reports more
          )
    ]

pub returns-clause-along : goal.returns-clause-along
returns-clause-along g c =
    let l = c.loop-text in
    let P : TextSoFar → Type 0 = λ t. g.N.KeepsNodes.goes_along t.line l.nodes in
    elim c.match-branch-3.branch [
      | in-Some+in-Err w ↦ (
          let after : c.next_line.new.self ≡ after_line l.text = search rules in
          let is : c.match-branch-3.text ≡ with_fault (after_line l.text) (l.text.line, w.in-Err.kind) = w.text-is ∙ w.note_fault.ensures ∙ noted c.next_line.new.self l.text w.in-Err.kind after in
          subst P (sym is) (g.met.N.KeepsNodes.later l.text.line l.nodes l.invariant.along)
          )
      | in_default w ↦ (
          let begun : c.next_line.new.self ≡ with_begun l.text l.rest.now = search rules in
          subst P (sym (w.text-is ∙ begun)) l.invariant.along
          )
    ]

pub returns-clause-limit : goal.returns-clause-limit
returns-clause-limit g c =
    let l = c.loop-text in
    let P : TextSoFar → Type 0 = λ t. t.most ≡ c.args.self.text.most in
    elim c.match-branch-3.branch [
      | in-Some+in-Err w ↦ (
          let after : c.next_line.new.self ≡ after_line l.text = search rules in
          subst P (sym (w.text-is ∙ w.note_fault.ensures ∙ noted c.next_line.new.self l.text w.in-Err.kind after)) l.invariant.limit
          )
      | in_default w ↦ (
          let begun : c.next_line.new.self ≡ with_begun l.text l.rest.now = search rules in
          subst P (sym (w.text-is ∙ begun)) l.invariant.limit
          )
    ]
