use Rattle.std.proofs.Common.{◌≡◌, ◌∙◌, ap, arith, inl, length, refl, rules, sym, Some, slice_get, length-set}
use Rattle.thp_history.proofs.Options.{not_there}
use Rattle.thp_worker.proofs.StepLaws.{goes_trans, goes_refl}
use Rattle.thp_worker.proofs.CommandLaws.{if_err, if_err_map, may_want, may_want_later}
use Rattle.thp_worker.proofs.ReadCommands.{read_at, read_fits}
use Rattle.thp_worker.proofs.SectionLaws.{begun_on, begins_reported, begins_stop, ends_first, works_stop}
use Rattle.thp_worker.proofs.working.go_on.Goals as goal

pub do_command-called-requires-clause-ready : goal.do_command-called-requires-clause-ready
do_command-called-requires-clause-ready g c =
    let command = c.index-commands-index.result in
    let at : slice_get c.args.commands.now (length c.loop-index.answers.items) ≡ Some command = rw c.loop-index.invariant.count (read_at _ _ _ c.loop-index-test.true c.index-commands-index.is) in
    (begun_on _ _ _ _ _ _ _ command at (c.loop-index.invariant.begins _ c.requires.begun.1)).ready

pub returns-in_err-said-clause-goes : goal.returns-in_err-said-clause-goes
returns-in_err-said-clause-goes g c = goes_trans _ _ _ _ c.loop-index.invariant.goes c.do_command-called.ensures.goes

pub returns-in_default-clause-goes : goal.returns-in_default-clause-goes
returns-in_default-clause-goes g c = goes_trans _ _ _ _ c.loop-index.invariant.goes c.do_command-called.ensures.goes

pub returns-in_default-clause-works : goal.returns-in_default-clause-works
returns-in_default-clause-works g c =
    let inv = c.loop-index.invariant in
    let command = c.index-commands-index.result in
    let at : slice_get c.args.commands.now (length c.loop-index.answers.items) ≡ Some command = rw inv.count (read_at _ _ _ c.loop-index-test.true c.index-commands-index.is) in
    let p = rw (rw (not_there _ c.in_default.not-Some) at c.in_ok-said.ensures.busy) at c.do_command-called.ensures.proceeds in
    λ old b. works_stop _ _ _ _ _ _ _ inv.room (begins_stop _ _ _ _ _ _ _ _ command at (inv.begins old b) c.do_command-called.ensures.goes _ p) (sym inv.count) c.loop-index-test.true

pub loop-index-preserved : goal.loop-index-preserved
loop-index-preserved g c =
    let inv = c.loop-index.invariant in
    let i = c.loop-index.index in
    let command = c.index-commands-index.result in
    let lt = (read_fits _ _ _ _ c.requires.commands c.loop-index-test.true c.index-commands-index.is).node_exists in
    let done = c.do_command-called.ensures in
    record {
      goes = goes_trans _ _ _ _ inv.goes done.goes;
      begins = λ old b. rw (c.push.ensures.items, c.no_progress-begun.ensures, c.mark.ensures)
          (begins_reported _ i old _ _ _ _ _ _ _ command c.do_command-called.result c.in-Some.said c.do_command-called.new.reply (read_at _ _ _ c.loop-index-test.true c.index-commands-index.is) inv.count (inv.begins old b) done.goes
          (rw inv.goes.same.nodes lt) (rw c.in-Some.is at c.in_ok-said.ensures.some) (rw c.in-Some.is at c.in_ok-said.ensures.memory) done.proceeds);
      nodes = ap length c.mark.ensures ∙ (length-set c.loop-index.opened.items command.node _ ∙ inv.nodes);
      count = omega (arith, c.push.ensures.count, inv.count);
      are = c.push.ensures.are ∙ inv.are;
      room = omega (arith, c.push.ensures.room, inv.room);
    }

pub close-requires-clause-ends : goal.close-requires-clause-ends
close-requires-clause-ends g c =
    let inv = c.loop-index.invariant in
    (c.requires.begun.0, c.args.commands.now, refl, ends_first _ _ _ _ _ _ _ (omega (arith, inv.count, c.loop-index-test.false)) (inv.begins _ c.requires.begun.1))

pub returns-clause-goes : goal.returns-clause-goes
returns-clause-goes g c = goes_trans _ _ _ _ c.loop-index.invariant.goes c.close.ensures.goes

pub returns-clause-works : goal.returns-clause-works
returns-clause-works g c =
    let inv = c.loop-index.invariant in
    λ old b. c.close.ensures.works old c.args.commands.now refl (ends_first _ _ _ _ _ _ _ (omega (arith, inv.count, c.loop-index-test.false)) (inv.begins old b))

pub loop-index-init : goal.loop-index-init
loop-index-init g c = record {
  goes = goes_refl _ _;
  begins = λ old b. b;
  nodes = let b = c.requires.begun.1 in b.known.count ∙ sym b.grows.same.nodes;
  count = search rules;
  are = refl;
  room = c.requires.room;
}

pub mark-requires : goal.mark-requires
mark-requires g c =
    let lt = (read_fits _ _ _ _ c.requires.commands c.loop-index-test.true c.index-commands-index.is).node_exists in
    rw c.loop-index.invariant.nodes lt

pub returns-clause-done : goal.returns-clause-done
returns-clause-done g c = λ all.
    let same = c.loop-index.invariant.goes.same in
    c.close.ensures.done (record { low = same.first ∙ all.low; high = same.end ∙ all.high ∙ sym same.callers })

pub returns-in_err-said-clause-wants : goal.returns-in_err-said-clause-wants
returns-in_err-said-clause-wants g c =
    if_err _ _ (may_want _ _ c.index-commands-index.result _ _ _ (inl (c.loop-index.index, read_at _ _ _ c.loop-index-test.true c.index-commands-index.is)) c.loop-index.invariant.goes (c.do_command-called.ensures.wants c.in_err-said.ensures.lacking))

pub returns-clause-wants : goal.returns-clause-wants
returns-clause-wants g c = if_err_map _ _ _ (may_want_later _ _ _ _ _ c.loop-index.invariant.goes) c.close.ensures.wants
