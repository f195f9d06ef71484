use Rattle.std.proofs.Common.{ap}
use Rattle.thp_journal_reader.specs.Prelude.{nodes_in, with_event}
use Rattle.thp_journal_reader.proofs.NodeLaws.{last_grows}
use Rattle.thp_journal_reader.proofs.journals.push.Goals as goal

pub returns-in_ok-push-clause-nodes : goal.returns-in_ok-push-clause-nodes
returns-in_ok-push-clause-nodes c =
    last_grows (with_event c.args.event) c.in-Some.nodes.closed c.in-Some.nodes.last.journal c.push.new.self.journal (nodes_in c.args.nodes.now) c.in_ok-push.ensures.pushed (ap nodes_in c.in-Some.is)
