use Rattle.std.proofs.Common.{◌≡◌, ◌<◌, ◌≤◌, ◌+◌, ◌++◌, drop, map, vec_capacity, vec_len, flat_map}
use Rattle.thp_run.specs.Answers.{answer_line}
use Rattle.thp_run.specs.Parts.{full_part, line_room}
use Rattle.thp_run.specs.Reports.{shape_of}
use Rattle.thp_worker.specs.Prelude.{stored}
use Rattle.thp_run.proofs.answers.put_from.Given as goal

abbrev pub invariant-loop-place : goal.invariant-loop-place
invariant-loop-place g l =
    let line = answer_line (map shape_of l.nodes) l.worker in
    record {
      text : l.part.items ++ flat_map line (drop l.place (stored l.answers)) ≡ l.fn.part.items ++ flat_map line (drop l.from (stored l.answers));
      room : full_part + line_room ≤ vec_capacity l.part;
      most : vec_len l.part < full_part + line_room;
    }
