-- Re-exports the definitions and types of this library: other files import those that they cite from here, in one line.
pub use Rattle.thp_check.specs.Explanations.{caller_is, in_flight_of, page_is, page_of}
unfoldable pub use Rattle.thp_check.specs.Explanations.{explanation}
pub use Rattle.thp_check.specs.Fitting.{FitsInPlace}
unfoldable pub use Rattle.thp_check.specs.Fitting.{ExpectedFits}
pub use Rattle.thp_check.specs.Flights.{AreLinked, FlightsState, caller_at, flight_left, list_at}
unfoldable pub use Rattle.thp_check.specs.Flights.{blocks_in}
pub use Rattle.thp_check.specs.Freeing.{IsFreed, MarksFree, free_after, taken_block}
pub use Rattle.thp_check.specs.Meanings.{IsMisfit, Keeps, Means, ReplayFollows, is_taker}
pub use Rattle.thp_check.specs.Reasons.{Explains, ExplainsBy, with_frames, with_outcome}
pub use Rattle.thp_check.specs.Replays.{Replayed, replayed_with}
pub use Rattle.thp_check.specs.Showing.{is_taken, number_or_0, page_at}
pub use Rattle.thp_check.specs.declared.misfit.Misfit.{Misfit}
pub use Rattle.thp_check.specs.declared.node_state.NodeState.{NodeState}
