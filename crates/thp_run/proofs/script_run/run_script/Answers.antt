use Rattle.std.proofs.Common.{[]}
use Rattle.thp_run.specs.Passes.{fronts_in}
use Rattle.thp_run.proofs.script_run.run_script.Goals as goal

pub end_run-requires-clause-begun : goal.end_run-requires-clause-begun
end_run-requires-clause-begun g c κs within = (c.as_slice.result.now, c.in_ok-cells.passes.items, fronts_in c.in_ok-passes.passes, [], c.in_ok-passes.ensures.begun)

pub take_apart-requires : goal.take_apart-requires
take_apart-requires g c =
    let runs = c.in_ok-passes-2.ensures.runs c.as_slice.result.now c.in_ok-cells.passes.items (fronts_in c.in_ok-passes.passes) [] c.in_ok-passes.ensures.begun in
    record { ran = (c.in_ok-cells.passes.items, c.in_ok-sections.sections, c.in_ok-cells.ensures, runs) }

pub returns-clause-run : goal.returns-clause-run
returns-clause-run g c =
    let runs = c.in_ok-passes-2.ensures.runs c.as_slice.result.now c.in_ok-cells.passes.items (fronts_in c.in_ok-passes.passes) [] c.in_ok-passes.ensures.begun in
    rw c.in_ok-sections.ensures at (c.take_apart.ensures.run c.in_ok-cells.passes.items c.in_ok-sections.sections c.in_ok-cells.ensures runs)
