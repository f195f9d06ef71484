use Rattle.std.proofs.Common.{◌≡◌, ◌≤◌, ◌∙◌, ap, arith, subst, sym}
use Rattle.thp_script.specs.Prelude.{max_counted, TextSoFar}
use Rattle.thp_journal_reader.specs.declared.line.Accepted.TheVariants.{EveryVersion}
use Rattle.thp_journal_reader.proofs.CheckLaws.{reported_none}
use Rattle.thp_journal_reader.proofs.PartLaws.{reports_all}
use Rattle.thp_journal_tools.proofs.keeping_check.KeepingCheck.new.Goals as goal

pub invariant_of-result : goal.invariant_of-result
invariant_of-result g c =
    let line : c.new-2.result.text.line ≡ 1 = ap (λ (t : TextSoFar). t.line) (c.new-2.ensures.text ∙ c.unlimited.ensures) in
    let R : TextSoFar → Type 0 = λ t. t.most ≤ max_counted in
    (rw (line, c.new-2.ensures.nodes) c.new.ensures.follows, subst R (sym (c.new-2.ensures.text ∙ c.unlimited.ensures)) (omega arith))

pub returns : goal.returns
returns g c = λ text. rw (c.new-2.ensures.nodes, c.new.ensures.lines, reported_none, c.new-2.ensures.place, c.new-2.ensures.text, c.unlimited.ensures) (reports_all EveryVersion max_counted text)
