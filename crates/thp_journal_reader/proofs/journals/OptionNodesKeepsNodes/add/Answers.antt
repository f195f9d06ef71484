use Rattle.thp_journal_reader.specs.Prelude.{Happened, nodes_in}
use Rattle.thp_journal_reader.proofs.NodeLaws.{each_step}
use Rattle.thp_journal_reader.proofs.journals.OptionNodesKeepsNodes.add.Goals as goal

pub returns-in_ok-push-in-Happened-clause-along : goal.returns-in_ok-push-in-Happened-clause-along
returns-in_ok-push-in-Happened-clause-along c = record {
  along = c.in_ok-push-in-Happened.ensures.along;
  each = each_step 4096 c.args.number (nodes_in c.args.self.now) (nodes_in c.push.new.nodes) (Happened c.in-Happened.event) c.in_ok-push-in-Happened.ensures.nodes tt c.requires.along.each;
}
