-- A pass of one node may go to another thread, where what it records in may: what it is made of may.
use denote.RattleType.{RattleType}
use denote.Ref.{NamedLft}
use denote.Param.Send.{IsSend, view_send, sendable}
use denote.Param.SendFields.{as_row_send, declared_send}
use mir.Syntax.{Dict}
use Rattle.std.proofs.Crossing.{Vec-send}
use Rattle.std.proofs.option.Option.TheSendSync as option
use Rattle.thp_node.specs.declared.recorder.Recorder.{Ghosts}
use Rattle.thp_worker.specs.contracts.node_pass.NodePass as NodePass
use Rattle.thp_worker.specs.contracts.node_pass.NodePass.TheInside as in_node_pass
use Rattle.thp_cell.proofs.Crossings.{batch_send, cell_sync, pass_send}

module _ (d e : Dict) (T : RattleType) (R : Ghosts T.Denot) (recorder_send : IsSend T) where
  pub node_pass_send : (k : NamedLft) → IsSend (NodePass.the_row k T R)
  node_pass_send k = view_send (in_node_pass.the_row k T R) _ _ _ _ (declared_send (in_node_pass.the_type k T R) (search (sendable, as_row_send, cell_sync d e T R recorder_send), (pass_send d e T R recorder_send, (Vec-send _ (option.the_send _ batch_send), tt))))
