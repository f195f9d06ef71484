use Rattle.std.proofs.Common.{◌≡◌, ◌∙◌, ◌<◌, ℕ, Bool, List, arith, get_or, inr, length, sym, refl, false, length-set}
use Rattle.std.proofs.lemmas.Option.{slice_get-get_or}
use Rattle.thp_history.proofs.Options.{not_there}
use Rattle.thp_worker.specs.Prelude.{Reaction, answer_of, no_progress, put_back_on, PutsBack}
use Rattle.thp_worker.proofs.StepLaws.{goes_trans}
use Rattle.thp_worker.proofs.CommandLaws.{cell_comes, if_err, may_want}
use Rattle.thp_worker.proofs.SectionLaws.{room_for_one, ends_more, ends_stop, puts_back_comes, shut_more, shut_put, not_open, works_end, works_closing}
use Rattle.thp_worker.proofs.working.close.Goals.{then-index+in_ok-result_unless_busy+in-Some, else-index}
use Rattle.thp_worker.proofs.working.close.Goals as goal

-- a mark, as the code reads it
marked : (opened : List Bool) (n : ℕ) (r : Bool) → n < length opened → r ≡ get_or opened n r → get_or opened n false ≡ r
marked opened n r lt is =
    let one = slice_get-get_or opened n r lt in
    let two = slice_get-get_or opened n false lt in
    cc

pub returns-in_err-result_unless_busy-clause-goes : goal.returns-in_err-result_unless_busy-clause-goes
returns-in_err-result_unless_busy-clause-goes g c = goes_trans _ _ _ _ c.loop-node.invariant.goes c.do_command-called.ensures.goes

pub overflow_add-closed : goal.overflow_add-closed
overflow_add-closed g c =
    let inv = c.loop-node.invariant in
    let e = inv.ends _ _ c.requires.ends.3 in
    let nodes = c.requires.ends.3.grows.same.nodes in
    let lt : c.loop-node.node < c.requires.ends.0.nodes = omega (arith, c.loop-node-test.true, c.nodes-nodes.ensures, nodes) in
    let room = room_for_one _ _ _ _ _ _ _ _ e lt inv.shut (sym (e.known.each _ lt) ∙ marked c.loop-node.opened.items c.loop-node.node c.index.result.now (omega (arith, c.loop-node-test.true, c.nodes-nodes.ensures, c.loop-node.invariant.count)) c.index.ensures ∙ c.if-index.true) in
    omega (arith, room, nodes, c.nodes-nodes.ensures, c.nodes-nodes.type_inv)

pub returns-in_default-clause-goes : goal.returns-in_default-clause-goes
returns-in_default-clause-goes g c = goes_trans _ _ _ _ c.loop-node.invariant.goes c.do_command-called.ensures.goes

pub returns-in_default-clause-works : goal.returns-in_default-clause-works
returns-in_default-clause-works g c =
    let inv = c.loop-node.invariant in
    let back = rw (rw (not_there _ c.in_default.not-Some) at c.in_ok-result_unless_busy.ensures.busy) at (puts_back_comes _ _ _ _ c.do_command-called.new.begun (answer_of c.do_command-called.result c.do_command-called.new.reply) (rw c.no_progress-begun.ensures at c.do_command-called.ensures.proceeds)) in
    λ old commands count e. rw inv.same (works_closing _ _ _ _ _ _ _ _ (rw count c.requires.room) (ends_stop _ c.loop-node.node _ _ _ _ _ _ _ no_progress (inv.ends old commands e) c.do_command-called.ensures.goes back) (sym count) refl)

pub loop-node-preserved : goal.loop-node-preserved
loop-node-preserved g c =
    let fronts = g.S.Steps.fronts in
    let inv = c.loop-node.invariant in
    let mid = fronts c.loop-node.steps in
    let who = c.args.worker in
    let node = c.loop-node.node in
    elim c.if-index.branch [
      | then-index+in_ok-result_unless_busy+in-Some w ↦
          let called = w.do_command-called in
          let new = fronts called.new.steps in
          let goes = called.ensures.goes in
          let said = w.in-Some.field-0 in
          let answer : Reaction = answer_of said called.new.reply in
          let back = cell_comes no_progress (PutsBack who node mid new) called.result said called.new.reply (rw w.in-Some.is at w.in_ok-result_unless_busy.ensures.some) (rw w.in-Some.is at w.in_ok-result_unless_busy.ensures.memory) (puts_back_comes _ _ _ _ called.new.begun (answer_of called.result called.new.reply) (rw w.no_progress-begun.ensures at called.ensures.proceeds)) in
          rw (w.steps-is, w.closed-is, w.opened-is) (record {
            goes = goes_trans _ _ _ _ inv.goes goes;
            ends = λ old commands e.
                let lt : node < old.nodes = omega (arith, c.loop-node-test.true, c.nodes-nodes.ensures, e.grows.same.nodes) in
                let now = inv.ends old commands e in
                ends_more _ _ _ _ _ _ _ _ now lt inv.shut (sym (now.known.each node lt) ∙ marked c.loop-node.opened.items c.loop-node.node c.index.result.now (omega (arith, c.loop-node-test.true, c.nodes-nodes.ensures, c.loop-node.invariant.count)) c.index.ensures ∙ w.if-index.true) new answer goes back;
            same = inv.same;
            count = length-set c.loop-node.opened.items node false ∙ inv.count;
            shut = shut_put who node mid new answer inv.shut back;
          })
      | else-index w ↦
          rw (w.steps-is, w.closed-is, w.opened-is) (record {
            goes = inv.goes;
            ends = inv.ends;
            same = inv.same;
            count = inv.count;
            shut =
                let e = inv.ends _ _ c.requires.ends.3 in
                let lt : node < c.requires.ends.0.nodes = omega (arith, c.loop-node-test.true, c.nodes-nodes.ensures, c.requires.ends.3.grows.same.nodes) in
                shut_more who node mid inv.shut (not_open (mid.batches who node) (sym (e.known.each node lt) ∙ marked c.loop-node.opened.items c.loop-node.node c.index.result.now (omega (arith, c.loop-node-test.true, c.nodes-nodes.ensures, c.loop-node.invariant.count)) c.index.ensures ∙ w.if-index.false));
          })
    ]

pub returns-clause-works : goal.returns-clause-works
returns-clause-works g c =
    let inv = c.loop-node.invariant in
    λ old commands count e. rw inv.same (works_end _ _ _ _ _ _ _ c.loop-node.node (rw count c.requires.room) (inv.ends old commands e) (omega (arith, c.loop-node-test.false, c.nodes-nodes.ensures, e.grows.same.nodes)) inv.shut)

pub returns-in_err-result_unless_busy-clause-wants : goal.returns-in_err-result_unless_busy-clause-wants
returns-in_err-result_unless_busy-clause-wants g c =
    if_err _ _ (may_want _ _ (put_back_on c.loop-node.node) _ _ _ (inr refl) c.loop-node.invariant.goes (c.do_command-called.ensures.wants c.in_err-result_unless_busy.ensures.lacking))
