use Rattle.std.proofs.Common.{◌≡◌, ◌+◌, ◌++◌, ℕ, List, OnOk, arith, subst, ap, sym, drop}
use Rattle.thp_journal_writer.specs.Prelude.{runs_from}
use Rattle.thp_journal_writer.proofs.RunLemmas.{none_after, set_text-runs}
use Rattle.thp_journal_writer.proofs.sets.put_set.Goals as goal

pub returns-in_default-clause-text : goal.returns-in_default-clause-text
returns-in_default-clause-text c =
    let P : List ℕ → Type 0 = λ t. OnOk c.put.result (c.put.new.text.items ≡ t) in
    subst P (none_after c.args.text.now.items c.args.set.now c.args.after c.in_default.ensures.runs) c.put.ensures.text

pub loop-run-init : goal.loop-run-init
loop-run-init c = record {
  order = c.in-Some.ensures.order;
  within = c.in-Some.ensures.within;
  short = omega arith;
  capacity = omega arith;
  whole =
      ap (λ s. c.args.text.now.items ++ s)
      (sym (set_text-runs c.args.set.now c.in-Some.run' (runs_from (c.in-Some.run'.1 + 1) (drop (c.in-Some.run'.1 + 1) c.args.set.now)) c.in-Some.ensures.runs));
}
