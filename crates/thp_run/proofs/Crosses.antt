-- Passes of all nodes may go to another thread, where a pass of one node may.
use denote.RattleType.{RattleType}
use denote.Ref.{NamedLft}
use denote.Param.Send.{IsSend, view_send, sendable}
use denote.Param.SendFields.{declared_send}
use mir.Syntax.{Dict}
use Rattle.std.proofs.Crossing.{Vec-send}
use Rattle.thp_node.specs.declared.recorder.Recorder.{Ghosts}
use Rattle.thp_worker.proofs.Crosses.{node_pass_send}
use Rattle.thp_run.specs.contracts.node_passes.NodePasses as NodePasses
use Rattle.thp_run.specs.contracts.node_passes.NodePasses.TheInside as in_passes

module _ (d e : Dict) (T : RattleType) (R : Ghosts T.Denot) (recorder_send : IsSend T) where
  pub node_passes_send : (k : NamedLft) → IsSend (NodePasses.the_row k T R)
  node_passes_send k = view_send (in_passes.the_row k T R) _ _ _ _ (declared_send (in_passes.the_type k T R) (search sendable, (search sendable, (search sendable, (Vec-send _ (node_pass_send d e T R recorder_send k), tt)))))
