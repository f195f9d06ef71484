use Rattle.std.proofs.Common.{◌++◌, ap, ◌∙◌, arith, take, flat_map, take_all}
use Rattle.thp_journal_writer.specs.Prelude.{journal_of, ended, lines_of_node}
use Rattle.thp_journal_writer.proofs.JournalLemmas.{node_texts, node_texts-more, text_whole}
use Rattle.thp_journal_writer.proofs.writer.journal_text.Goals as goal

pub loop-n-preserved : goal.loop-n-preserved
loop-n-preserved c =
    c.in_ok-put_history.ensures
    ∙ ap (λ t. t ++ flat_map ended (lines_of_node c.least_version-version.result c.loop-n.n (journal_of c.index-nodes-n.result))) c.loop-n.invariant
    ∙ ap (λ node. (c.put_version.new.text.items ++ node_texts c.least_version-version.result (take c.loop-n.n c.args.nodes.now)) ++ flat_map ended (lines_of_node c.least_version-version.result c.loop-n.n (journal_of node))) c.index-nodes-n.is
    ∙ node_texts-more c.put_version.new.text.items c.least_version-version.result c.args.nodes.now c.loop-n.n c.index-nodes-n.result (omega arith)

pub returns : goal.returns
returns c =
    text_whole c.new-text.result.items c.put_version.new.text.items c.loop-n.text.items c.put_end.new.text.items c.least_version-version.result c.args.nodes.now (take c.loop-n.n c.args.nodes.now)
    c.new-text.ensures.items c.least_version-version.ensures c.in_ok-put_version.ensures (take_all c.loop-n.n c.args.nodes.now (omega arith)) c.loop-n.invariant c.in_ok-put_end.ensures
