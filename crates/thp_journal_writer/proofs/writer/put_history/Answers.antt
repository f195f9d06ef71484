use Rattle.std.proofs.Common.{◌++◌, ap, ◌∙◌, arith, take, take_all}
use Rattle.thp_journal_writer.specs.Prelude.{event_line, journal_of, ended}
use Rattle.thp_journal_writer.proofs.JournalLemmas.{event_lines, event_lines-more, node_whole}
use Rattle.thp_journal_writer.proofs.writer.put_history.Goals as goal

pub loop-event-preserved : goal.loop-event-preserved
loop-event-preserved c =
    c.in_ok-put_event_line.ensures
    ∙ ap (λ t. t ++ ended (event_line c.event-item.result)) c.loop-event.invariant
    ∙ ap (λ e. (c.put_node_line.new.text.items ++ event_lines (take c.loop-event.event-index c.args.node.now.events.now)) ++ ended (event_line e)) c.event-item.is
    ∙ event_lines-more c.put_node_line.new.text.items c.args.node.now.events.now c.loop-event.event-index c.event-item.result (omega arith)

pub returns : goal.returns
returns c =
    c.loop-event.invariant
    ∙ ap (λ es. c.put_node_line.new.text.items ++ event_lines es) (take_all c.loop-event.event-index c.args.node.now.events.now (omega arith))
    ∙ ap (λ t. t ++ event_lines c.args.node.now.events.now) c.in_ok-put_node_line.ensures
    ∙ node_whole c.args.text.now.items c.args.version c.args.n (journal_of c.args.node.now)
