use Rattle.std.proofs.Common.{◌≡◌, map, take}
use Rattle.thp_run.specs.Answers.{with_stored}
use Rattle.thp_run.specs.Listed.{reported_section}
use Rattle.thp_run.proofs.listed.report_text.Given as goal

abbrev pub invariant-loop-section : goal.invariant-loop-section
invariant-loop-section l = map with_stored l.kept.items ≡ map reported_section (take l.section-index l.sections)
