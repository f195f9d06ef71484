use Rattle.std.proofs.Common.{◌≡◌, ◌++◌, drop, map, flat_map}
use Rattle.thp_run.specs.Answers.{answer_line, answers_text, section_text, with_stored}
use Rattle.thp_run.specs.Reports.{shape_of}
use Rattle.thp_worker.specs.Prelude.{stored}
use Rattle.thp_run.proofs.answers.answers_text.Given as goal

abbrev pub invariant-loop-section : goal.invariant-loop-section
invariant-loop-section g l = l.text.items ++ answers_text (map shape_of l.nodes) (map with_stored (drop l.section-index l.sections)) ≡ answers_text (map shape_of l.nodes) (map with_stored l.sections)

abbrev pub invariant-loop-place : goal.invariant-loop-place
invariant-loop-place g l =
    l.text.items ++ flat_map (answer_line (map shape_of l.nodes) l.section.worker) (drop l.place (stored l.section.answers)) ≡ l.initial.text.items ++ section_text (map shape_of l.nodes) (with_stored l.section)
