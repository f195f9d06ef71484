use Rattle.std.proofs.Common.{◌≡◌, ◌*◌, length, refl, ap, sym, ◌∙◌, inl, inr, arith}
use Rattle.thp_history.specs.Prelude.{queue, refusal, take_events}
use Rattle.thp_history.specs.Refusals as call
use Rattle.thp_node.specs.Prelude.{JournalState, NodeState}
use Rattle.thp_node.proofs.CallLemmas.{node_of, fails_as}
use Rattle.thp_node.proofs.BatchRuns.{refused_take, unrefused_take, queue_length, take_length}
use Rattle.thp_node.proofs.node.Node.admit_take.Goals as goal

pub returns-then-flying-ne0-clause-refused : goal.returns-then-flying-ne0-clause-refused
returns-then-flying-ne0-clause-refused g c =
    let j = c.self.inside.journal in
    record {
      same = refl;
      cause = inl (ap (λ (n : NodeState). refusal n.shape n.journal (call.take c.args.caller)) (sym c.self.view_is) ∙ refused_take j.shape j.events c.args.caller (omega (arith, c.flying.ensures)));
    }

pub returns-clause-allowed : goal.returns-clause-allowed
returns-clause-allowed g c =
    let j = c.self.inside.journal in
    ap (λ (n : NodeState). refusal n.shape n.journal (call.take c.args.caller)) (sym c.self.view_is) ∙ unrefused_take j.shape j.events c.args.caller (omega (arith, c.flying.ensures))

pub returns-in_err-reserve-clause-refused : goal.returns-in_err-reserve-clause-refused
returns-in_err-reserve-clause-refused g c =
    let j = c.self.inside.journal in
    let b = c.self.inside.blocks in
    let wanted : c.min-count.result ≡ length (take_events c.args.self.now.shape c.args.self.now.journal c.args.caller c.args.n) =
    omega (
      arith,
      c.min-count.ensures,
      c.len.ensures,
      ap length (rw c.store.ensures at c.queue.ensures.value),
      take_length c.args.self.now.shape c.args.self.now.journal c.args.caller c.args.n,
      ap (λ (n : NodeState). length (queue n.shape n.journal)) c.self.view_is,
      queue_length j.shape j.events b.table b.queue c.self.invariant,
    ) in
    fails_as c.from_residual.result c.in_err-reserve.field-0.0 _ c.from_residual.ensures.1 record {
      same = ap (λ (k : JournalState). node_of k b) c.in_err-reserve.ensures.err ∙ c.self.view_is;
      cause = inr (
        ap (λ (n : NodeState). refusal n.shape n.journal (call.take c.args.caller)) (sym c.self.view_is) ∙ unrefused_take j.shape j.events c.args.caller (omega (arith, c.flying.ensures)),
        c.in_err-reserve.ensures.memory,
        omega (arith, c.in_err-reserve.ensures.full, ap (λ (n : NodeState). n.room) c.self.view_is, ap (λ k. c.args.each * k) wanted),
      );
    }
