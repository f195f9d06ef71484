use Rattle.std.proofs.Common.{◌≡◌, false, [], ◌∷◌, ◌++◌, refl, sym, ◌∙◌, subst, ap, arith, inl, inr}
use Rattle.thp_history.specs.declared.shape.Shape.{Shape}
use Rattle.thp_history.specs.declared.events.What.TheVariants as what
use Rattle.thp_history.specs.Prelude.{History, by, refusal}
use Rattle.thp_history.specs.Refusals as call
use Rattle.thp_live_pages.specs.Prelude.{IsNode}
use Rattle.thp_node.specs.Prelude.{JournalState, NodeState}
use Rattle.thp_node.proofs.CallLemmas.{node_of, fails_as}
use Rattle.thp_live_pages.proofs.Closing.{refused_close, allowed_close}
use Rattle.thp_live_pages.proofs.ListEvents.{closed_node}
use Rattle.thp_node.proofs.Fronts.{fronts_grown}
use Rattle.thp_node.proofs.node.Node.close.Goals as goal

pub returns-then-is_closed-clause-refused : goal.returns-then-is_closed-clause-refused
returns-then-is_closed-clause-refused g c = record {
  same = refl;
  cause = inl (ap (λ (n : NodeState). refusal n.shape n.journal call.close) (sym c.self.view_is)
      ∙ refused_close c.self.inside.journal.shape c.self.inside.journal.events (sym c.is_closed.ensures ∙ c.if-is_closed.true));
}

pub returns-in_err-reserve-clause-refused : goal.returns-in_err-reserve-clause-refused
returns-in_err-reserve-clause-refused g c = fails_as c.from_residual.result c.in_err-reserve.field-0.0 _ c.from_residual.ensures.1 record {
  same = ap (λ (j : JournalState). node_of j c.self.inside.blocks) c.in_err-reserve.ensures.err ∙ c.self.view_is;
  cause = inr (
    ap (λ (n : NodeState). refusal n.shape n.journal call.close) (sym c.self.view_is)
        ∙ allowed_close c.self.inside.journal.shape c.self.inside.journal.events (sym c.is_closed.ensures ∙ c.if-is_closed.false),
    c.in_err-reserve.ensures.memory,
    omega (arith, ap (λ (n : NodeState). n.room) c.self.view_is, c.in_err-reserve.ensures.full),
  );
}

pub record-requires-clause-fits : goal.record-requires-clause-fits
record-requires-clause-fits g c =
    allowed_close c.reserve.new.self.shape c.reserve.new.self.events
    (let P : History → Type 0 = λ h. Rattle.thp_history.specs.Counts.is_closed h ≡ false in subst P (sym c.in_ok-reserve.ensures.events) (sym c.is_closed.ensures ∙ c.if-is_closed.false))

pub invariant_of-self-2 : goal.invariant_of-self-2
invariant_of-self-2 g c =
    let j = c.self.inside.journal in
    let b = c.self.inside.blocks in
    let open_is = allowed_close j.shape j.events (sym c.is_closed.ensures ∙ c.if-is_closed.false) in
    let node : IsNode j.shape (j.events ++ by c.args.caller what.Close ∷ []) b.table b.queue = closed_node j.shape j.events c.args.caller b.table b.queue c.self.invariant open_is in
    let P : Shape → History → Type 0 = λ s h. IsNode s h b.table b.queue in
    let shape : c.record.new.self.shape ≡ j.shape = c.record.ensures.shape ∙ c.in_ok-reserve.ensures.shape in
    let events : c.record.new.self.events ≡ j.events ++ by c.args.caller what.Close ∷ [] = c.record.ensures.events ∙ ap (λ h. h ++ by c.args.caller what.Close ∷ []) c.in_ok-reserve.ensures.events in
    subst (λ h. P c.record.new.self.shape h) (sym events) (subst (λ s. P s (j.events ++ by c.args.caller what.Close ∷ [])) (sym shape) node)

pub returns-clause-allowed : goal.returns-clause-allowed
returns-clause-allowed g c =
    ap (λ (n : NodeState). refusal n.shape n.journal call.close) (sym c.self.view_is)
    ∙ allowed_close c.self.inside.journal.shape c.self.inside.journal.events (sym c.is_closed.ensures ∙ c.if-is_closed.false)

pub returns-clause-fronts : goal.returns-clause-fronts
returns-clause-fronts g c =
    fronts_grown c.args.self.now.journal _ (by c.args.caller what.Close ∷ [])
    (c.record.ensures.events ∙ ap (λ h. h ++ by c.args.caller what.Close ∷ []) (c.in_ok-reserve.ensures.events ∙ ap (λ (n : NodeState). n.journal) c.self.view_is))
    (λ d. refl)
