use Rattle.std.proofs.Common.{sym, subst, All}
use Rattle.thp_worker.specs.declared.answer_log.Answers.TheVariants.{Kept}
use Rattle.thp_run.specs.Sections.{SectionAnswersAre}
use Rattle.thp_run.proofs.BegunLaws.{reads_none}
use Rattle.thp_run.proofs.script_in_progress.run_as_read.Goals as goal

pub returns-in_err-cells-clause-calls : goal.returns-in_err-cells-clause-calls
returns-in_err-cells-clause-calls g c = reads_none c.args.reader.now.failed c.args.reader.now.calls c.requires

pub take_apart-requires : goal.take_apart-requires
take_apart-requires g c =
    let ran = c.in_ok-passes.ensures.ran in
    record { ran = (c.in_ok-cells.passes.items, ran.script, c.in_ok-cells.ensures, ran.runs) }

pub returns-clause-ran : goal.returns-clause-ran
returns-clause-ran g c =
    let ran = c.in_ok-passes.ensures.ran in
    record {
      bytes = ran.bytes;
      read = ran.read;
      script = ran.script;
      spelled = ran.spelled;
      nodes_are = c.in_ok-take_apart.ensures.nodes;
      is_run = c.in_ok-take_apart.ensures.run c.in_ok-cells.passes.items ran.script c.in_ok-cells.ensures ran.runs;
      kept = λ is. subst (All (SectionAnswersAre Kept)) (sym c.in_ok-take_apart.ensures.sections) (ran.kept is);
    }
