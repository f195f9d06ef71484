use Rattle.std.proofs.Common.{ap}
use Rattle.thp_live_pages.specs.Prelude.{IsNode}
use Rattle.thp_node.specs.Prelude.{NodeState}
use Rattle.thp_node.proofs.TableFacts.{live_has_block, lies_where_placed, node_seen}
use Rattle.thp_node.proofs.node.Node.table.Given.{Over}
use Rattle.thp_node.proofs.node.Node.table.Goals as goal

seen : (g : Over) (c : goal.After-table g) → IsNode c.args.self.now.shape c.args.self.now.journal c.args.self.now.table c.args.self.now.queue
seen g c =
    let j = c.self.inside.journal in
    let b = c.self.inside.blocks in
    let is = c.self.view_is in
    node_seen c.args.self.now j.shape j.events b.table b.queue (ap (λ (n : NodeState). n.shape) is) (ap (λ (n : NodeState). n.journal) is) (ap (λ (n : NodeState). n.table) is)
    (ap (λ (n : NodeState). n.queue) is) c.self.invariant

pub returns-clause-live : goal.returns-clause-live
returns-clause-live g c = let n = c.args.self.now in live_has_block n.shape n.journal n.table n.queue (seen g c)

pub returns-clause-homes : goal.returns-clause-homes
returns-clause-homes g c = lies_where_placed c.args.self.now.shape c.args.self.now.journal (seen g c).legal
