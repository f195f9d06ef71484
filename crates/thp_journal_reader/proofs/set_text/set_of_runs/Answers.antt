use Rattle.std.proofs.Common.{◌≡◌, ◌∙◌, ◌||◌, Bool, List, [], ◌∷◌, ◌++◌, ap, arith, rules, length}
use Rattle.thp_history.specs.Prelude.{has, set_of}
use Rattle.thp_journal_reader.specs.Prelude.{covers_number}
use Rattle.thp_journal_reader.proofs.SetLaws.{length-set_with, read_none, read_run_more, runs_end, set_with_none, set_with_push}
use Rattle.thp_journal_reader.proofs.set_text.set_of_runs.Goals as goal

pub loop-run-init : goal.loop-run-init
loop-run-init c = record {
  read = ([], set_with_none _ (search rules), read_none c.args.text.now);
  least = omega arith;
}

pub returns-in-None : goal.returns-in-None
returns-in-None c =
    let read = c.loop-run.invariant.read in
    let run = c.in_ok-run.run' in
    let whole : length c.loop-run.set ≡ 512 = ap length read.1 ∙ length-set_with read.0 in
    runs_end c.args.text.now read.0 c.loop-run.least c.loop-run.rest.now c.cut_at.result.0.now run c.put_run.new.set read.2 (search rules) (search rules)
    (c.put_run.ensures whole ∙ ap (λ (s : List Bool). set_of (λ i. has s i || covers_number i run)) read.1 ∙ set_with_push read.0 run)

pub loop-run-preserved : goal.loop-run-preserved
loop-run-preserved c =
    let read = c.loop-run.invariant.read in
    let run = c.in_ok-run.run' in
    let whole : length c.loop-run.set ≡ 512 = ap length read.1 ∙ length-set_with read.0 in
    record {
      read = (
        read.0 ++ run ∷ [],
        c.put_run.ensures whole ∙ ap (λ (s : List Bool). set_of (λ i. has s i || covers_number i run)) read.1 ∙ set_with_push read.0 run,
        read_run_more c.args.text.now read.0 c.loop-run.least c.loop-run.rest.now c.cut_at.result.0.now c.in-Some.after.now run read.2 (search rules) (search rules),
      );
      least = omega (arith, c.in_ok-run.ensures.bound);
    }
