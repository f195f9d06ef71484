use Rattle.std.proofs.Common.{ap, length}
use Rattle.thp_run.specs.Passes.{Passes}
use Rattle.tests_runs.proofs.busy_nodes.one_node.OneNodeSteps.nodes.Goals as goal

pub returns : goal.returns
returns c = ap (λ (p : Passes). length p.held) c.self.view_is
