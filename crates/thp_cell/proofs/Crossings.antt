-- Passes and batches may go to another thread, and cells may be shared by threads: what each type is made of may.
use denote.RattleType.{RattleType}
use mir.Syntax.{Dict}
use denote.Param.Send.{IsSend, IsSync, view_send, view_sync, sendable, param_send, arg_send, struct_send, recorded_send, plain_send, shr_send}
use denote.Param.SendFields.{declared_send, declared_sync}
use Rattle.std.proofs.Crossing.{crosses, Vec-send, send, sync, frees}
use Rattle.std.specs.contracts.alloc.Global as Global
use Rattle.std.specs.contracts.impls.GlobalAllocator.TheImpl as heap
use Rattle.atomic_table.proofs.owned.Table.TheSendSync as table
use Rattle.atomic_table.proofs.shared.Seat.TheSendSync as seat
use Rattle.thp_page.proofs.page_table.Descriptor.TheSendSync as descriptor
use Rattle.thp_page.specs.contracts.page_table.PageTable as PageTable
use Rattle.thp_page.specs.contracts.page_table.PageTable.TheInside as in_table
use Rattle.thp_live_pages.specs.contracts.page_store.PageStore
use Rattle.thp_live_pages.specs.contracts.page_store.PageStore.TheInside as in_places
use Rattle.thp_history.proofs.events.Event.TheSendSync as event
use Rattle.thp_node.specs.declared.recorder.Recorder.{Ghosts}
use Rattle.thp_node.specs.contracts.recorder.FullLog as FullLog
use Rattle.thp_node.specs.contracts.recorder.FullLog.TheInside as in_kept
use Rattle.thp_node.specs.contracts.recorder.FullLogRecorder.TheImpl as keeps
use Rattle.thp_node.specs.contracts.batch.Batch as Batch
use Rattle.thp_node.specs.contracts.batch.Batch.TheInside as in_batch
use Rattle.thp_node.specs.contracts.blocks.Blocks as Blocks
use Rattle.thp_node.specs.contracts.blocks.Blocks.TheInside as in_blocks
use Rattle.thp_node.specs.contracts.journal.Journal as Journal
use Rattle.thp_node.specs.contracts.journal.Journal.TheInside as in_journal
use Rattle.thp_node.specs.contracts.node.Node as Node
use Rattle.thp_node.specs.contracts.node.Node.TheInside as in_node
use Rattle.thp_cell.specs.contracts.cell.NodeCell as NodeCell
use Rattle.thp_cell.specs.contracts.cell.NodeCell.TheInside as in_cell
use Rattle.thp_cell.specs.contracts.pass.Pass as Pass
use Rattle.thp_cell.specs.contracts.pass.Pass.TheInside as in_pass
use Rattle.thp_cell.specs.contracts.rule.SeatKnowledge as SeatKnowledge
use Rattle.thp_cell.specs.contracts.rule.Key as Key
use Rattle.thp_cell.specs.contracts.rule.CellRule as CellRule
use Rattle.thp_cell.specs.contracts.rule.CellRuleTableRuleNodeSeatKnowledgeKey.TheImpl as rule

-- the table of pages may go to another thread
table_send : IsSend PageTable.the_row
table_send = view_send in_table.the_row _ _ _ _ (declared_send in_table.the_type (search sendable, (search sendable, (search (sendable, crosses) depth 30, (Vec-send _ descriptor.the_send, (search (sendable, crosses) depth 30, tt))))))

-- the places of pages may go to another thread
pub places_send : IsSend PageStore.the_row
places_send = view_send in_places.the_row _ _ _ _ (declared_send in_places.the_type (table_send, (search (sendable, crosses) depth 30, tt)))

-- the blocks of a node may go to another thread
blocks_send : IsSend Blocks.the_row
blocks_send = view_send in_blocks.the_row _ _ _ _ (declared_send in_blocks.the_type (places_send, (search (sendable, crosses) depth 30, (search sendable, (search sendable, tt)))))

-- a batch may go to another thread
pub batch_send : IsSend Batch.the_row
batch_send = view_send in_batch.the_row _ _ _ _ (declared_send in_batch.the_type (search sendable, (search (sendable, crosses) depth 30, (search sendable, tt))))

-- where a recorder may go to another thread, what is made over it may
module _ (T : RattleType) (R : Ghosts T.Denot) (recorder_send : IsSend T) where
  -- a journal may go to another thread
  journal_send : IsSend (Journal.the_row T R)
  journal_send = view_send (in_journal.the_row T R) _ _ _ _ (declared_send (in_journal.the_type T R) (search (sendable, crosses) depth 30, (search (sendable, recorder_send), (search (sendable, crosses) depth 30, tt))))

  -- a node may go to another thread
  pub node_send : IsSend (Node.the_row T R)
  node_send = view_send (in_node.the_row T R) _ _ _ _ (declared_send (in_node.the_type T R) (journal_send, (blocks_send, tt)))

module _ (d e : Dict) (T : RattleType) (R : Ghosts T.Denot) (recorder_send : IsSend T) where
  -- a cell is shared by threads
  pub cell_sync : IsSync (NodeCell.the_row T R)
  cell_sync = view_sync (in_cell.the_row T R) _ _ _ _ (declared_sync (in_cell.the_type T R) (table.the_sync (Node.the_row T R) SeatKnowledge.the_row (Key.the_row T R) CellRule.the_row Global.the_row (rule.ghosts T R d e) heap.ghosts (node_send T R recorder_send) send sync frees, tt))

  -- a pass may go to another thread
  pub pass_send : IsSend (Pass.the_row T R)
  pass_send = view_send (in_pass.the_row T R) _ _ _ _ (declared_send (in_pass.the_type T R) (search sendable, (search sendable, (search sendable, (search (sendable, seat.the_send, node_send T R recorder_send), tt)))))

-- kept events may go to another thread
pub kept_send : IsSend FullLog.the_row
kept_send = view_send in_kept.the_row _ _ _ _ (declared_send in_kept.the_type (Vec-send _ event.the_send, tt))

-- and so may passes of cells whose nodes keep their events
pub kept_cell_sync : IsSync (NodeCell.the_row FullLog.the_row keeps.ghosts)
kept_cell_sync = cell_sync keeps.dict keeps.dict FullLog.the_row keeps.ghosts kept_send

pub kept_pass_send : IsSend (Pass.the_row FullLog.the_row keeps.ghosts)
kept_pass_send = pass_send keeps.dict keeps.dict FullLog.the_row keeps.ghosts kept_send

-- what a caller's threads ask of what they are given
pub ruleset crossings = (sendable, crosses, kept_cell_sync, kept_pass_send, batch_send)

-- what is made of two may cross threads where both may
pub both : {A B : Type 0} → A → B → A × B
both a b = (a, b)

-- What closures ask that hold a shared cell, passes, batches and plain values alone. A search by these few rules takes a second, where
-- one by all takes minutes.
pub ruleset sharing = (tt, both, param_send, arg_send, struct_send, recorded_send, plain_send, shr_send, kept_cell_sync, kept_pass_send, batch_send)
