use Rattle.std.proofs.Common.{◌≡◌, ◌∙◌, ◌<◌, ◌+◌, ℕ, ap, arith, refl, subst, sym}
use Rattle.thp_script.specs.Prelude.{result_after}
use Rattle.thp_journal_reader.specs.Prelude.{Happened, with_line}
use Rattle.thp_journal_reader.proofs.PartLaws.{event_reports}
use Rattle.thp_journal_reader.proofs.text_reader.add_fast.Goals as goal

pub loop-event-preserved : goal.loop-event-preserved
loop-event-preserved g c =
    let reported = g.N.KeepsNodes.reported in
    let l = c.loop-event in
    let a = c.in-Some.ensures in
    let after = c.in-Some.after.now in
    let is = c.pass_line.ensures in
    let some : 0 < c.in-Inside.count = omega (arith, c.if-count-eq0.false) in
    let added : reported c.add.new.self ≡ with_line l.text.line (reported l.nodes) (Happened c.in-Some.event) = c.in_ok-add.ensures.nodes in
    let P : ℕ → Type 0 = λ k. g.N.KeepsNodes.goes_along (k + 1) c.add.new.self in
    record {
      reports = λ more. rw (is, added, c.in-Inside.is)
          (ap (result_after l.text more) (sym (event_reports (reported l.nodes) c.in-Inside.accepted c.in-Inside.version c.in-Inside.count l.text.line l.text.begun l.rest.now more after c.in-Some.event a some l.invariant.begins)))
          ∙ l.invariant.reports more;
      counted = rw is (record { lines = omega (arith, l.invariant.counted.lines, a.shorter); most = omega (arith, l.invariant.counted.most, a.shorter) });
      along = rw is (subst P c.last_line-number.ensures.number c.in_ok-add.ensures.along);
      begins = rw is refl;
      most = rw is l.invariant.most;
      shorter = omega (arith, a.shorter, l.invariant.shorter);
      taken = c.in_ok-add.ensures.taken ∙ l.invariant.taken;
    }
