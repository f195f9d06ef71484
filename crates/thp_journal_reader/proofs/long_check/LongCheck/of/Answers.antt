use Rattle.std.proofs.Common.{◌≡◌, ◌≤◌, ◌∙◌, ap, subst, sym}
use Rattle.thp_script.specs.Prelude.{max_counted, TextSoFar}
use Rattle.thp_journal_reader.proofs.CheckLaws.{reported_none}
use Rattle.thp_journal_reader.proofs.PartLaws.{reports_all}
use Rattle.thp_journal_reader.proofs.long_check.LongCheck.of.Goals as goal

pub invariant_of-result : goal.invariant_of-result
invariant_of-result c =
    let line : c.new-2.result.text.line ≡ 1 = ap (λ (t : TextSoFar). t.line) (c.new-2.ensures.text ∙ c.requires.nothing) in
    let R : TextSoFar → Type 0 = λ t. t.most ≤ max_counted in
    (rw (line, c.new-2.ensures.nodes) c.new.ensures.follows, subst R (sym c.new-2.ensures.text) c.requires.counted)

pub returns-clause-reported : goal.returns-clause-reported
returns-clause-reported c = λ more. rw (c.new-2.ensures.nodes, c.new.ensures.lines, reported_none, c.new-2.ensures.place, c.new-2.ensures.text, c.requires.nothing) (reports_all c.args.accepted c.args.text.most more)
