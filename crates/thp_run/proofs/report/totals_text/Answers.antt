use Rattle.std.proofs.Common.{◌∙◌, ◌+◌, ◌++◌, List, ◌∷◌, ap, append_assoc, drop, map, sym, ℕ, append-nil}
use Rattle.std.proofs.lemmas.List.{drop_more, at_drop_all}
use Rattle.thp_journal_writer.specs.Prelude.{totals_in}
use Rattle.thp_journal_writer.specs.Totals.{totals_lines, totals_lines_from}
use Rattle.thp_run.specs.Reports.{reported_journal}
use Rattle.thp_node.specs.Prelude.{NodeState}
use Rattle.thp_run.proofs.report.totals_text.Goals as goal

pub loop-number-preserved : goal.loop-number-preserved
loop-number-preserved g c =
    let n = c.loop-number.number in
    let text = c.loop-number.text.items in
    let nodes = c.args.nodes.now in
    let node = c.index-nodes-number.result in
    let totals = totals_in (reported_journal node) in
    let more = totals_lines_from (n + 1) (map totals_in (map reported_journal (drop (n + 1) nodes))) in
    let cut = drop_more nodes n node c.loop-number-test.true ∙ ap (λ x. x ∷ drop (n + 1) nodes) (sym c.index-nodes-number.is) in
    ap (λ (t : List ℕ). t ++ more) (c.in_ok-put_totals.ensures ∙ ap (λ x. text ++ totals_lines n x) c.totals_of.ensures)
    ∙ append_assoc text (totals_lines n totals) more
    ∙ ap (λ left. text ++ totals_lines_from n (map totals_in (map reported_journal left))) (sym cut)
    ∙ c.loop-number.invariant

pub returns : goal.returns
returns g c =
    let n = c.loop-number.number in
    let text = c.loop-number.text.items in
    let lines : List NodeState → List ℕ = λ nodes. text ++ totals_lines_from n (map totals_in (map reported_journal nodes)) in
    sym (append-nil text) ∙ sym (at_drop_all lines c.args.nodes.now n c.loop-number-test.false) ∙ c.loop-number.invariant
