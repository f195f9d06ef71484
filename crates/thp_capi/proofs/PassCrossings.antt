-- A handle of a pass may go to another thread, as what it leads to may: a pass, a share of its cell, and open batches.
use denote.Param.Send.{IsSend, view_send, owning_send, struct_send, sendable}
use denote.Param.SendFields.{declared_send}
use denote.RattleType.{RattleType}
use mir.Syntax.{Dict}
use denote.Struct.Struct.{exits_of}
use denote.Struct.Owning.{shape, fields, to}
use Rattle.std.specs.contracts.alloc.Global as Global
use Rattle.std.specs.contracts.impls.GlobalAllocator.TheImpl as global
use Rattle.std.proofs.Crossing.{frees, send, Arc-send, Vec-send}
use Rattle.std.proofs.option.Option.TheSendSync as option
use Rattle.std_alloc.proofs.SendSync.{quiet}
use Rattle.atomic_table.proofs.owned.Table.TheSendSync as table
use Rattle.thp_node.specs.contracts.node.Node as Node
use Rattle.thp_node.specs.contracts.recorder.CountOnlyRecorder.TheImpl as counts
use Rattle.thp_node.specs.contracts.recorder.FullLogRecorder.TheImpl as keeps
use Rattle.thp_node.specs.declared.recorder.Recorder.{Ghosts}
use Rattle.thp_cell.specs.contracts.cell.NodeCell as NodeCell
use Rattle.thp_cell.specs.contracts.cell.NodeCell.TheInside as in_cell
use Rattle.thp_cell.specs.contracts.rule.SeatKnowledge as SeatKnowledge
use Rattle.thp_cell.specs.contracts.rule.Key as Key
use Rattle.thp_cell.specs.contracts.rule.CellRule as CellRule
use Rattle.thp_cell.specs.contracts.rule.CellRuleTableRuleNodeSeatKnowledgeKey.TheImpl as rule
use Rattle.thp_cell.proofs.Crossings.{batch_send, cell_sync, kept_send, node_send, pass_send}
use Rattle.thp_capi.specs.Rows.{counted_pass, kept_pass, pass_row}
use Rattle.thp_capi.specs.contracts.shared_pass.SharedPass as SharedPass
use Rattle.thp_capi.specs.contracts.shared_pass.SharedPass.TheInside as in_shared
use Rattle.thp_capi.specs.contracts.held.Held as held
use Rattle.thp_capi.specs.contracts.pass_handle.ThpPass.{the_row, the_type}
use Rattle.thp_capi.proofs.Crossings.{boxed_send, counted_send, held_send, room_send, words_send}

-- where a recorder may go to another thread, a pass of a cell of its node may
module _ (d e : Dict) (T : RattleType) (R : Ghosts T.Denot) (recorder_send : IsSend T) where
  cell_send : IsSend (NodeCell.the_row T R)
  cell_send = view_send (in_cell.the_row T R) _ _ _ _ (declared_send (in_cell.the_type T R) (table.the_send (Node.the_row T R) SeatKnowledge.the_row (Key.the_row T R) CellRule.the_row Global.the_row (rule.ghosts T R d e) global.ghosts (node_send T R recorder_send) send frees, tt))

  shared_send : IsSend (SharedPass.the_row T R)
  shared_send = view_send (in_shared.the_row T R) _ _ _ _ (declared_send (in_shared.the_type T R) (Arc-send _ cell_send (cell_sync d e T R recorder_send), (pass_send d e T R recorder_send, (Vec-send _ (option.the_send _ batch_send), (search sendable, (search sendable, tt))))))

content_send : IsSend pass_row
content_send = room_send (held.the_row kept_pass counted_pass) (held_send kept_pass counted_pass (shared_send keeps.dict keeps.dict _ _ kept_send) (shared_send counts.dict counts.dict _ _ counted_send))

-- a handle of a pass may go to another thread
pub pass_handle_send : IsSend the_row
pass_handle_send = owning_send the_type words_send (λ d. (tt, boxed_send pass_row content_send d.at d.held)) (λ k. quiet (to the_type) (exits_of k (fields the_type)) ((struct_send (shape the_type) words_send).leaving k))
