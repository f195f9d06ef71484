use Rattle.std.proofs.Common.{◌≡◌, ◌∙◌, ◌+◌, ◌++◌, ap, arith, subst, length, length-append, rules, Some, slice_get, All, length-set}
use Rattle.std.proofs.lemmas.List.Elements.{All-append}
use Rattle.thp_worker.specs.Prelude.{IsWorkFor}
use Rattle.thp_worker.proofs.StepLaws.{goes_refl, goes_trans}
use Rattle.thp_worker.proofs.ReadCommands.{read_at, read_fits}
use Rattle.thp_worker.proofs.SectionLaws.{begins_longer, begins_reported, get_after}
use Rattle.thp_worker.proofs.working.do_commands.Goals as goal

pub loop-index-init : goal.loop-index-init
loop-index-init g c = record {
  goes = goes_refl _ _;
  begins = λ old before d. rw c.reserve.ensures.items (begins_longer _ _ _ _ _ _ _ d.each d.begins);
  nodes = c.requires.opened;
  count = omega (arith, ap length c.reserve.ensures.items);
  first = search rules;
  are = c.reserve.ensures.are;
  room = search rules;
}

pub returns-in_err-said-clause-goes : goal.returns-in_err-said-clause-goes
returns-in_err-said-clause-goes g c = goes_trans _ _ _ _ c.loop-index.invariant.goes c.do_whole_command-called.ensures.goes

pub returns-clause-did : goal.returns-clause-did
returns-clause-did g c = λ old before d.
    let inv = c.loop-index.invariant in
    record {
      begins = inv.begins old before d;
      each = omega (arith, inv.count, d.each, length-append before c.args.commands.now, c.loop-index-test.false);
      few = omega (arith, d.each, length-append before c.args.commands.now);
      fit = All-append (IsWorkFor old.nodes) before c.args.commands.now d.fit (subst (λ k. All (IsWorkFor k) c.args.commands.now) d.begins.grows.same.nodes c.requires.commands);
      room = omega (arith, inv.room, d.each, length-append before c.args.commands.now);
    }

pub loop-index-preserved : goal.loop-index-preserved
loop-index-preserved g c =
    let inv = c.loop-index.invariant in
    let commands = c.args.commands.now in
    let i = c.loop-index.index in
    let command = c.index-commands-index.result in
    let lt = (read_fits _ _ _ _ c.requires.commands c.loop-index-test.true c.index-commands-index.is).node_exists in
    let done = c.do_whole_command-called.ensures in
    record {
      goes = goes_trans _ _ _ _ inv.goes done.goes;
      begins = λ old before d.
          let number : length before + i ≡ c.len-first.result + i = omega (arith, inv.first, d.each) in
          let at : slice_get (before ++ commands) (c.len-first.result + i) ≡ Some command = rw (← number) (get_after before commands i command (read_at _ _ _ c.loop-index-test.true c.index-commands-index.is)) in
          rw (c.push.ensures.items, c.mark.ensures)
          (begins_reported _ (c.len-first.result + i) old _ _ _ _ _ _ _ command c.do_whole_command-called.result c.in-Some.said c.do_whole_command-called.new.reply at (omega (arith, inv.count, inv.first)) (inv.begins old before d) done.goes
          (rw inv.goes.same.nodes lt) (rw c.in-Some.is at c.in_ok-said.ensures.some) (rw c.in-Some.is at c.in_ok-said.ensures.memory) done.proceeds.1);
      nodes = ap length c.mark.ensures ∙ (length-set c.loop-index.section.opened.items command.node _ ∙ inv.nodes);
      count = omega (arith, c.push.ensures.count, inv.count);
      first = inv.first;
      are = c.push.ensures.are ∙ inv.are;
      room = omega (arith, c.push.ensures.room, inv.room);
    }

pub returns-then-commands-clause-goes : goal.returns-then-commands-clause-goes
returns-then-commands-clause-goes g c = goes_refl _ _

pub returns-in_err-reserve-clause-goes : goal.returns-in_err-reserve-clause-goes
returns-in_err-reserve-clause-goes g c = goes_refl _ _

pub do_whole_command-called-requires-clause-command : goal.do_whole_command-called-requires-clause-command
do_whole_command-called-requires-clause-command g c =
    rw c.loop-index.invariant.goes.same.nodes (read_fits _ _ _ _ c.requires.commands c.loop-index-test.true c.index-commands-index.is)

pub mark-requires : goal.mark-requires
mark-requires g c =
    let lt = (read_fits _ _ _ _ c.requires.commands c.loop-index-test.true c.index-commands-index.is).node_exists in
    rw c.loop-index.invariant.nodes lt
