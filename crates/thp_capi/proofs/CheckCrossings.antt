-- A handle of a check may go to another thread, as what it leads to may: a check's reader of its text, and a node's replay.
use denote.Builtin.{u64}
use denote.Plain.{Nothing}
use denote.Param.Send.{IsSend, view_send, owning_send, struct_send, sendable}
use denote.Param.SendFields.{declared_send, variants_send}
use denote.Struct.Struct.{exits_of}
use denote.Struct.Owning.{shape, fields, to}
use denote.Struct.Tuple.{Tuple}
use Rattle.std.proofs.Common.{[], ◌∷◌}
use Rattle.std.proofs.Crossing.{Box-send, Vec-send, crosses, send}
use Rattle.std.proofs.option.Option.TheSendSync as option
use Rattle.std.proofs.result.Result.TheSendSync as result
use Rattle.std_alloc.proofs.SendSync.{quiet}
use Rattle.thp_live_pages.specs.contracts.free_blocks.FreeBlocks as FreeBlocks
use Rattle.thp_live_pages.specs.contracts.free_blocks.FreeBlocks.TheInside as in_free
use Rattle.thp_check.specs.contracts.flights.Flights as Flights
use Rattle.thp_check.specs.contracts.flights.Flights.TheInside as in_flights
use Rattle.thp_links.specs.contracts.link_vec.LinkVec as LinkVec
use Rattle.thp_links.specs.contracts.link_vec.LinkVec.TheInside as in_links
use Rattle.thp_history.specs.contracts.events.Event as Event
use Rattle.thp_check.specs.contracts.node_state.NodeState as NodeState
use Rattle.thp_history.proofs.tally.Tally.TheSendSync as tally
use Rattle.thp_check.specs.contracts.replay.Replay as Replay
use Rattle.thp_check.specs.contracts.replay.Replay.TheInside as in_replay
use Rattle.thp_journal_reader.specs.contracts.line.Line as Line
use Rattle.thp_journal_reader.specs.contracts.follower.Follower as Follower
use Rattle.thp_journal_reader.specs.contracts.follower.FollowedNodes as FollowedNodes
use Rattle.thp_journal_reader.proofs.long_check.Illegal.TheSendSync as illegal
use Rattle.thp_script.proofs.fault.TextFault.TheSendSync as fault
use Rattle.thp_journal_reader.proofs.line.Place.TheSendSync as place
use Rattle.thp_journal_reader.specs.contracts.text_reader.TextReader as TextReader
use Rattle.thp_journal_reader.specs.contracts.long_check.LongCheck as LongCheck
use Rattle.thp_journal_reader.specs.contracts.long_check.LongCheck.TheInside as in_check
use Rattle.thp_script.specs.contracts.text_in_parts.TextInParts as TextInParts
use Rattle.thp_script.specs.contracts.text_in_parts.TextInParts.TheInside as in_text
use Rattle.thp_capi.specs.Rows.{check_row}
use Rattle.thp_capi.specs.contracts.check_handle.ThpCheck.{the_row, the_type}
use Rattle.thp_capi.specs.contracts.checks.CheckStage as CheckStage
use Rattle.thp_cell.proofs.Crossings.{places_send}
use Rattle.thp_capi.proofs.Crossings.{boxed_send, trace_send, room_send, words_send}

free_send : IsSend FreeBlocks.the_row
free_send = view_send in_free.the_row _ _ _ _ (declared_send in_free.the_type (search sendable, (search sendable, (search (sendable, crosses) depth 30, tt))))

links_send : IsSend LinkVec.the_row
links_send = view_send in_links.the_row _ _ _ _ (declared_send in_links.the_type (search (sendable, crosses) depth 30, (search (sendable, crosses) depth 30, tt)))

flights_send : IsSend Flights.the_row
flights_send = view_send in_flights.the_row _ _ _ _ (declared_send in_flights.the_type (search (sendable, crosses) depth 30, (search (sendable, crosses) depth 30, (links_send, tt))))

state_send : IsSend NodeState.the_row
state_send = declared_send NodeState.the_type (search (sendable, crosses) depth 30, (places_send, (flights_send, (search sendable, (search sendable, (search (sendable, crosses) depth 30, tt))))))

replay_send : IsSend Replay.the_row
replay_send = view_send in_replay.the_row _ _ _ _ (declared_send in_replay.the_type (Box-send _ state_send, (free_send, (Box-send _ tally.the_send, (trace_send Event.the_row, tt)))))

follower_send : IsSend (Follower.the_row Replay.the_row Nothing)
follower_send = declared_send (Follower.the_type Replay.the_row Nothing) (send, (option.the_send _ replay_send, (search sendable, (option.the_send _ illegal.the_send, (Vec-send _ (search sendable), tt)))))

nodes_send : IsSend (FollowedNodes.the_row Replay.the_row Nothing)
nodes_send = declared_send (FollowedNodes.the_type Replay.the_row Nothing) (follower_send, (trace_send (Tuple (u64 ∷ Line.the_row ∷ [])), tt))

text_send : IsSend TextInParts.the_row
text_send = view_send in_text.the_row _ _ _ _ (declared_send in_text.the_type (send, (search (sendable, crosses) depth 30, (search sendable, (search sendable, (search sendable, (search (sendable, crosses) depth 30, tt)))))))

reader_send : IsSend (TextReader.the_row (FollowedNodes.the_row Replay.the_row Nothing))
reader_send = declared_send (TextReader.the_type (FollowedNodes.the_row Replay.the_row Nothing)) (send, (nodes_send, (place.the_send, (text_send, tt))))

check_send : IsSend LongCheck.the_row
check_send = view_send in_check.the_row _ _ _ _ (declared_send in_check.the_type (reader_send, tt))

stage_send : IsSend CheckStage.the_row
stage_send = variants_send CheckStage.enum ((check_send, tt), ((result.the_send _ _ (option.the_send _ illegal.the_send) fault.the_send, tt), tt))

-- a handle of a check may go to another thread
pub check_handle_send : IsSend the_row
check_handle_send = owning_send the_type words_send (λ d. (tt, boxed_send check_row (room_send _ stage_send) d.at d.held)) (λ k. quiet (to the_type) (exits_of k (fields the_type)) ((struct_send (shape the_type) words_send).leaving k))
