-- Re-exports the definitions of this library: other files import those that they cite from here, in one line.
pub use Rattle.thp_run.specs.Answers.{answer_line, answers_text, with_stored}
pub use Rattle.thp_run.specs.InParts.{AreNew, HasBegun}
pub use Rattle.thp_run.specs.Listed.{NothingIsLeft, WorksOn, reported_section, reported_sections}
pub use Rattle.thp_run.specs.NewNodes.{AreNodesFor, histories_of, shapes_of}
pub use Rattle.thp_run.specs.Parts.{AnswersLeft, full_part, line_room, text_from}
pub use Rattle.thp_run.specs.Reports.{report_of, reported_journal, shape_of}
pub use Rattle.thp_run.specs.Runs.{IsRun}
pub use Rattle.thp_run.specs.Sections.{SectionAnswersAre}
pub use Rattle.thp_run.specs.Sharing.{AreFew, IsFreshPass, RunsOn}
pub use Rattle.thp_run.specs.Written.{Wrote}
pub use Rattle.thp_worker.specs.Prelude.{Fronts, Goes, HasNoBatch, HoldsAllCallers, HoldsCaller, IsStep, IsWorkFor, StepDone}
