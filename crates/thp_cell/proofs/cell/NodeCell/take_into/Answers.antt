-- One call of the node within a hold.
use Rattle.std.proofs.Common.{rules, refl, length}
use Rattle.thp_history.specs.Prelude.{refusal, take_events}
use Rattle.thp_history.specs.Refusals as call
use Rattle.thp_cell.specs.Prelude.{DidTake}
use Rattle.thp_cell.proofs.Calling.{holds, may_leave, after, went, batches_stay, refused, called}
use Rattle.thp_cell.proofs.cell.NodeCell.take_into.Goals as goal
use Rattle.thp_cell.proofs.cell.NodeCell.take_into.Goals.{in-Ok, in-Err}

pub end_call-requires : goal.end_call-requires
end_call-requires g c =
    let held = holds _ _ c.pass.inside.seat c.begin_call.new.seat _ c.pass.view_is (c.begin_call.ensures.took c.if-not-begin_call.false) c.node.ensures.value in
    let did = c.take_into-answer.ensures in
    record { cell = search rules; kept = may_leave _ _ _ _ held (went _ _ _ _ _ _ _ _ _ _ c.requires.caller.from c.requires.caller.below held.legal did.recorded did.refused) }

pub returns-clause-recorded : goal.returns-clause-recorded
returns-clause-recorded g c =
    let held = holds _ _ c.pass.inside.seat c.begin_call.new.seat _ c.pass.view_is (c.begin_call.ensures.took c.if-not-begin_call.false) c.node.ensures.value in
    elim c.match-answer.branch [
      | in-Ok w ↦
          let done = w.in-Ok.ensures in
          rw w.result-is (called _ _ _ _ _ _ _ (λ s. DidTake s c.args.caller c.args.n c.take_into-answer.new.batch) held c.requires.caller (after _ _ c.end_call.new.seat _ c.take_into-answer.new.self held c.end_call.ensures.same) done.recorded record { allowed = done.allowed; recorded = refl; batch = done.batch })
      | in-Err w ↦ rw w.result-is tt
    ]

pub returns-clause-failed : goal.returns-clause-failed
returns-clause-failed g c =
    let held = holds _ _ c.pass.inside.seat c.begin_call.new.seat _ c.pass.view_is (c.begin_call.ensures.took c.if-not-begin_call.false) c.node.ensures.value in
    elim c.match-answer.branch [
      | in-Ok w ↦ rw w.result-is tt
      | in-Err w ↦ rw w.result-is (refused _ _ _ _ _ (λ s h. refusal s h (call.take c.args.caller)) (λ s h. length (take_events s h c.args.caller c.args.n)) _ held (after _ _ c.end_call.new.seat _ c.take_into-answer.new.self held c.end_call.ensures.same) w.in-Err.ensures.refused)
    ]

pub returns-clause-batches : goal.returns-clause-batches
returns-clause-batches g c =
    let held = holds _ _ c.pass.inside.seat c.begin_call.new.seat _ c.pass.view_is (c.begin_call.ensures.took c.if-not-begin_call.false) c.node.ensures.value in
    λ b has other front. batches_stay c.args.pass.now _ c.begin_call.new.seat c.node.result.now c.take_into-answer.new.self b held (after _ _ c.end_call.new.seat _ c.take_into-answer.new.self held c.end_call.ensures.same) has front (c.take_into-answer.ensures.fronts b other)
