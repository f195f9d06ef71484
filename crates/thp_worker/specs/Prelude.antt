-- Re-exports the definitions and types of this library: other files import those that they cite from here, in one line.
pub use Rattle.thp_worker.specs.Does.{DoesCall, DoesLoss, DoesOne, IsFit, IsStep, Nothing, Open, Reaction, Unless, answer_of, call_events, node_call_of, open_of, refusal_of_call, step_events, step_refusal}
unfoldable pub use Rattle.thp_worker.specs.Does.{Does}
pub use Rattle.thp_worker.specs.Fronts.{Answered, Fronts, Goes, Grows, HoldsAllCallers, HoldsCaller, IsOfOthers, IsStepBusy, Moves, OutOf, SameHolding, SameNodes, StepDone}
pub use Rattle.thp_worker.specs.Halves.{AreCommandsFor, AreFrontsJoined, AreFrontsSplit, CanJoin, CanRun, KnowsOf, RangeDone}
unfoldable pub use Rattle.thp_worker.specs.Halves.{AllWork}
pub use Rattle.thp_worker.specs.Holdings.{Acts, Held, HeldAnswered, HeldDone, HeldOutOf, IsHeldBusy, IsHolding, IsShut, KeepsNode, LocksOnce, OpenStay, batch_of, keeping_node, loss_reply, lower_part, open_in, page_reply, unit_reply, upper_part}
pub use Rattle.thp_worker.specs.InParts.{DidFirst}
pub use Rattle.thp_worker.specs.Kept.{IsLog, answer_in, answers_in, is_there, reaction_in}
pub use Rattle.thp_worker.specs.Logs.{LogState, if_kept, stored}
pub use Rattle.thp_worker.specs.OpenBatches.{HasNoBatch, OpenOn, is_open, leaves_open, marked}
pub use Rattle.thp_worker.specs.Sections.{AnswersAre, Begins, ComesBefore, Ends, IsDoneFor, IsMade, IsNext, IsProgressOn, IsTurn, IsWorkFor, Made, MayWant, Proceeds, PutsBack, Steps, Turn, WantsMemory, Works, WorksTo, answers_from, closing, closing_from, own_events, progress_of, put_back_on, step_results, steps_of, turn_command, with_batch}
unfoldable pub use Rattle.thp_worker.specs.Sections.{Carries, batches_after}
pub use Rattle.thp_worker.specs.Turns.{Comes, CommandState, Ended, FoundPage, IsProgressAfter, IsReady, MayPostpone, On, Reacts, ScanDone, ScanRefused, StaysReady, StepAnswer, StepReacts, Turned, TurnsOut, WholeComes, answered_put_back, answered_try, by_cell, counted, first_step, goes_on, if_done, is_pinned_try, is_scan, is_split_try, is_used_try, next_step, no_progress, scan_goes_on, scan_step, took, tries_so_far}
pub use Rattle.thp_worker.specs.declared.answer_log.ShortAnswer.{ShortAnswer}
pub use Rattle.thp_worker.specs.declared.answer_log.ShortReply.{ShortReply}
pub use Rattle.thp_worker.specs.declared.answer_log.ShortReply.TheVariants.{Refused}
pub use Rattle.thp_worker.specs.declared.reply.Answer.{Answer}
pub use Rattle.thp_worker.specs.declared.reply.Reply.{Reply}
pub use Rattle.thp_worker.specs.declared.reply.Rest.{Rest}
pub use Rattle.thp_worker.specs.declared.reply.SectionOutcome.{SectionOutcome}
pub use Rattle.thp_worker.specs.declared.command.CommandProgress.{CommandProgress}
pub use Rattle.thp_worker.specs.declared.steps.NodeCall.{NodeCall}
pub use Rattle.thp_worker.specs.declared.steps.Step.{Step}
pub use Rattle.thp_worker.specs.declared.steps.Step.TheVariants.{One, PutBack, SplitNext, Take}
