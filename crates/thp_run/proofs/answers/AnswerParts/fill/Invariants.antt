use Rattle.std.proofs.Common.{◌≡◌, ◌<◌, ◌≤◌, ◌-◌, ◌+◌, ◌++◌, drop, length, map, vec_capacity, vec_len}
use Rattle.thp_run.specs.Answers.{with_stored}
use Rattle.thp_run.specs.Parts.{full_part, line_room, text_from}
use Rattle.thp_run.specs.Reports.{shape_of}
use Rattle.thp_run.proofs.answers.AnswerParts.fill.Given as goal

abbrev pub invariant-loop-section : goal.invariant-loop-section
invariant-loop-section g l =
    let inside = l.self-inside in
    record {
      text : inside.part.items ++ text_from (map shape_of inside.nodes.now) inside.place (map with_stored (drop inside.section inside.sections.now)) ≡ l.fn.self.rest;
      room : full_part + line_room ≤ vec_capacity inside.part;
      most : vec_len inside.part < full_part + line_room;
    }

abbrev pub decreases-loop-section : goal.decreases-loop-section
decreases-loop-section g l = length l.self-inside.sections.now - l.self-inside.section
