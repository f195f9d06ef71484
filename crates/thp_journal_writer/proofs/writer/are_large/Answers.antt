use Rattle.std.proofs.Common.{◌∙◌, sym}
use Rattle.std.proofs.lemmas.Bool.{le-ltb, lt-ltb}
use Rattle.thp_journal_writer.proofs.LineLemmas.{large_by_number, large_by_nodes}
use Rattle.thp_journal_writer.proofs.writer.are_large.Goals as goal

pub returns-then-nodes-gt8 : goal.returns-then-nodes-gt8
returns-then-nodes-gt8 c =
    let more = lt-ltb _ _ c.if-nodes-gt8.true in
    more ∙ sym (large_by_number c.args.nodes.now more)

pub returns-else-nodes-gt8 : goal.returns-else-nodes-gt8
returns-else-nodes-gt8 c = large_by_nodes c.args.nodes.now c.have_large.result (le-ltb _ _ c.if-nodes-gt8.false) c.have_large.ensures
