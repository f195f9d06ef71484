use Rattle.std.proofs.Common.{arith}
use Rattle.thp_journal_writer.proofs.RunLemmas.{no_run, next_run, run_ends_after}
use Rattle.thp_journal_writer.proofs.sets.next_run.Goals as goal

pub returns-then-first-eq-SUBPAGES-clause-runs : goal.returns-then-first-eq-SUBPAGES-clause-runs
returns-then-first-eq-SUBPAGES-clause-runs c =
    no_run c.args.set.now c.args.from c.first_in-first.ensures.size c.requires (λ k low high. c.first_in-first.ensures.none_before k low (omega arith))

pub returns-clause-runs : goal.returns-clause-runs
returns-clause-runs c =
    next_run c.args.set.now c.args.from c.first_in-first.result c.first_out.result c.first_in-first.ensures.size c.first_in-first.ensures.from
    (run_ends_after c.args.set.now c.first_in-first.result c.first_out.result (omega arith) c.first_out.ensures.from (c.first_in-first.ensures.found (omega arith)) c.first_out.ensures.found)
    c.first_out.ensures.within c.first_in-first.ensures.none_before c.first_out.ensures.all_before c.first_out.ensures.found
