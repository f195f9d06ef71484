use Rattle.std.proofs.Common.{length, ltb-true, refl, sym}
use Rattle.std.proofs.lemmas.Option.{slice_get_read}
use Rattle.thp_journal_tools.proofs.writing.output_of.Goals as goal

pub returns-clause-output : goal.returns-clause-output
returns-clause-output c =
    let nodes = c.args.nodes.now in
    let node = c.in-Some-get.node.now in
    let here = c.in-Some-get.ensures.lookup in
    rw c.in-Some.is (node, slice_get_read nodes (length nodes) c.in-Some.number node refl (ltb-true _ _ (sym here.0)) here.1, c.in_ok-node_text.ensures, rw c.is_some.ensures at c.ending_if-2.ensures)
