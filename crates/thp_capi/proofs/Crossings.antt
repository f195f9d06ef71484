-- A handle may go to another thread, as what it leads to may: struct by struct, down to plain data and memory of its own.
use base.Shift.{Keyless}
use mir.Raw.{raw}
use denote.Memory.{lone}
use denote.Builtin.{RawPtr, u32}
use denote.Hole.{as_row}
use denote.RattleType.{RattleType}
use denote.RawPtr.{Ptr}
use denote.Param.Send.{IsSend, AllSend, view_send, owning_send, struct_send, sendable}
use denote.Param.SendFields.{declared_send, variants_send}
use denote.Struct.Field.{row_field}
use denote.Struct.Struct.{exits_of}
use denote.Struct.Owning.{shape, fields, to}
use Rattle.std.proofs.Common.{Option, None, Some, [], ◌∷◌}
use Rattle.std.proofs.Crossing.{crosses, frees}
use Rattle.std.proofs.option.Option.TheSendSync as option
use Rattle.std_alloc.proofs.SendSync.{lies, quiet}
use Rattle.thp_history.specs.contracts.events.Event as Event
use Rattle.thp_history.specs.contracts.trace.Trace as Trace
use Rattle.thp_history.specs.contracts.trace.Trace.TheInside as in_trace
use Rattle.thp_node.specs.contracts.recorder.FullLogRecorder.TheImpl as keeps
use Rattle.thp_node.specs.contracts.recorder.CountOnly as CountOnly
use Rattle.thp_node.specs.contracts.recorder.CountOnly.TheInside as in_counted
use Rattle.thp_node.specs.contracts.recorder.CountOnlyRecorder.TheImpl as counts
use Rattle.thp_node.specs.declared.recorder.Recorder.{Ghosts}
use Rattle.thp_cell.proofs.Crossings.{batch_send, kept_send, node_send}
use Rattle.thp_capi.specs.Handles.{boxed_at, heap}
use Rattle.thp_capi.specs.Rows.{engine_row}
use Rattle.thp_capi.specs.contracts.engine.Engine as Engine
use Rattle.thp_capi.specs.contracts.engine.Engine.TheInside as in_engine
use Rattle.thp_capi.specs.contracts.held.Held as Held
use Rattle.thp_capi.specs.contracts.node_handle.ThpNode.{the_row, the_type}
use Rattle.thp_capi.specs.contracts.room.Room as Room

pub trace_send : (T : RattleType) → IsSend (Trace.the_row T)
trace_send T = view_send (in_trace.the_row T) _ _ _ _ (declared_send (in_trace.the_type T) (search (sendable, crosses) depth 30, tt))

pub counted_send : IsSend CountOnly.the_row
counted_send = view_send in_counted.the_row _ _ _ _ (declared_send in_counted.the_type (search (sendable, crosses) depth 30, (trace_send Event.the_row, tt)))

-- ---- what the handles share: their words are plain data, and what they hold may go to another thread as its type may
pub words_send : AllSend (RawPtr ∷ u32 ∷ [])
words_send = (search sendable, (search sendable, tt))

pub boxed_send : (R : RattleType) → IsSend R → (at : Ptr) (v : Option R.Denot) → Keyless (boxed_at R at v)
boxed_send R send at None = tt
boxed_send R send at (Some x) = (lies R send at x, frees.frees heap (raw (lone R.mir)) at)

pub held_send : (K C : RattleType) → IsSend (as_row (row_field K)) → IsSend (as_row (row_field C)) → IsSend (Held.the_row K C)
held_send K C kept counted = variants_send (Held.enum K C) ((kept, tt), ((counted, tt), tt))

pub room_send : (R : RattleType) → IsSend R → IsSend (Room.the_row R)
room_send R send = declared_send (Room.the_type R) (option.the_send _ send, tt)

-- ---- a node

-- where a recorder may go to another thread, the engine of its node may
engine_send : (T : RattleType) (R : Ghosts T.Denot) → IsSend T → IsSend (Engine.the_row T R)
engine_send T R recorder_send =
    view_send (in_engine.the_row T R) _ _ _ _ (declared_send (in_engine.the_type T R) (node_send T R recorder_send, (search (sendable, crosses, batch_send) depth 30, tt)))

content_send : IsSend engine_row
content_send = held_send _ _ (engine_send _ keeps.ghosts kept_send) (engine_send _ counts.ghosts counted_send)

-- a handle of a node may go to another thread
pub handle_send : IsSend the_row
handle_send = owning_send the_type words_send (λ d. (tt, boxed_send engine_row content_send d.at d.held)) (λ k. quiet (to the_type) (exits_of k (fields the_type)) ((struct_send (shape the_type) words_send).leaving k))
