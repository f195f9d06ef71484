use Rattle.std.proofs.Common.{◌≡◌, ◌≤◌, ◌∙◌, List, ap, arith, subst, sym}
use Rattle.thp_script.specs.Prelude.{max_counted, TextSoFar}
use Rattle.thp_journal_reader.specs.Prelude.{nodes_read}
use Rattle.thp_journal_reader.specs.declared.line.Accepted.TheVariants.{ForScripts}
use Rattle.thp_journal_scripts.specs.Prelude.{IsScripting}
use Rattle.thp_journal_reader.specs.declared.journals.ReadNode.{ReadNode}
use Rattle.thp_journal_reader.proofs.CheckLaws.{reported_none}
use Rattle.thp_journal_reader.proofs.PartLaws.{reports_all}
use Rattle.thp_journal_scripts.proofs.script_check.ScriptCheck.new.Goals as goal

pub invariant_of-result : goal.invariant_of-result
invariant_of-result c =
    let text : c.new-2.result.text ≡ c.unlimited.result = c.new-2.ensures.text in
    let line : c.new-2.result.text.line ≡ 1 = ap (λ (t : TextSoFar). t.line) (text ∙ c.unlimited.ensures) in
    let R : TextSoFar → Type 0 = λ t. t.most ≤ max_counted in
    let S : List ReadNode → Type 0 = λ ns. IsScripting ns c.new.result.checked.follower.illegal c.new.result.script in (
      rw (line, c.new-2.ensures.nodes) c.new.ensures.follows,
      rw c.new-2.ensures.nodes (subst S (sym (ap nodes_read c.new.ensures.lines ∙ reported_none)) c.new.ensures.script),
      subst R (sym (text ∙ c.unlimited.ensures)) (omega arith),
    )

pub returns-clause-reports : goal.returns-clause-reports
returns-clause-reports c = λ text. rw (c.new-2.ensures.nodes, c.new.ensures.lines, reported_none, c.new-2.ensures.place, c.new-2.ensures.text, c.unlimited.ensures) (reports_all ForScripts max_counted text)
