-- The laws of every legal history, at one journal.
use Rattle.std.proofs.Common.{◌≡◌, ◌++◌, subst}
use Rattle.thp_history.specs.declared.shape.Shape.{Shape}
use Rattle.thp_history.specs.Prelude.{History, IsLegal, takes_of, IsNodeShape}
use Rattle.thp_history.proofs.Alive.{live_holds}
use Rattle.thp_history.proofs.BlockPages.{pages_apart}
use Rattle.thp_history.proofs.EachFrame.{each_frame_once}
use Rattle.thp_history.proofs.FlightLaws.{stands_whole, oldest, left_alone, new_once, none_enters, others_only_free}
use Rattle.thp_history.proofs.Flights.{flight_push}
use Rattle.thp_history.proofs.Kept.{frames_kept}
use Rattle.thp_history.proofs.LegalSteps.{legal_front}
use Rattle.thp_history.proofs.PartlyStands.{partly_stands, none_used, none_underused}
use Rattle.thp_history.proofs.Pushes.{queue_push}
use Rattle.thp_history.proofs.Standing.{once_of_legal}
use Rattle.thp_node.specs.Prelude.{StandsOnce, StandsWhole, TakesOldest, LeavesFreedAlone, AllocatesOnce, NothingEnters, HasFramesOnce, KeepsFrames, HoldsWhileLive, LivesApart, OthersFree, FlightsGoOn, QueueGoesOn, NoneIsUnderused}

-- the first part of a legal history is legal
legal_before : (s : Shape) (h before after : History) → IsLegal s h → h ≡ before ++ after → IsLegal s before
legal_before s h before after l e = let P : History → Type 0 = λ k. IsLegal s k in legal_front s before after (subst P e l)

module _ (s : Shape) (h : History) (legal : IsLegal s h) where
  pub stands_once : StandsOnce s h
  unfolding StandsOnce
  stands_once = once_of_legal s h legal

  pub all_stand_whole : StandsWhole s h
  unfolding StandsWhole
  all_stand_whole = stands_whole s h legal

  pub takes_oldest : TakesOldest s h
  unfolding TakesOldest
  takes_oldest = λ before after c ps e. oldest s before c ps (legal_before s h (before ++ takes_of c ps) after legal e)

  pub leaves_freed_alone : LeavesFreedAlone h
  unfolding LeavesFreedAlone
  leaves_freed_alone = left_alone s h legal

  pub allocates_once : AllocatesOnce h
  unfolding AllocatesOnce
  allocates_once = new_once s h legal

  pub nothing_enters : NothingEnters h
  unfolding NothingEnters
  nothing_enters = none_enters s h legal

  pub has_frames_once : IsNodeShape s → HasFramesOnce s h
  unfolding HasFramesOnce
  has_frames_once = λ is. each_frame_once s h is.most_order legal

  pub keeps_frames : IsNodeShape s → KeepsFrames s h
  unfolding KeepsFrames
  keeps_frames = λ is. frames_kept s h is.most_order legal

  pub holds_while_live : HoldsWhileLive s h
  unfolding HoldsWhileLive
  holds_while_live = λ p off. live_holds s h p legal off

  pub lives_apart : LivesApart h
  unfolding LivesApart
  lives_apart = pages_apart s h legal

  pub others_free : OthersFree h
  unfolding OthersFree
  others_free = λ before es after c e o.
      let P : History → Type 0 = λ k. IsLegal s k in
      others_only_free s before es c (legal_front s before es (legal_before s h (before ++ es) after legal e)) o

  pub flights_go_on : FlightsGoOn h
  unfolding FlightsGoOn
  flights_go_on = λ before after e c is. flight_push before c e.caller e.what

  pub queue_goes_on : QueueGoesOn s h
  unfolding QueueGoesOn
  queue_goes_on = λ before after e is. queue_push s before e

  pub none_is_underused : NoneIsUnderused s h
  unfolding NoneIsUnderused
  none_is_underused = λ off. (partly_stands s h off legal, none_used s h off legal, none_underused s h off legal)
