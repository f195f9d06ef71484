use Rattle.std.proofs.Common.{[], ◌∷◌, ◌++◌, cond, take, ap, sym, ◌∙◌, eq-eqb, ne_eqb}
use Rattle.thp_history.proofs.Asked.{flight_next, pages_by}
use Rattle.thp_history.proofs.ListPlaces.{append_none}
use Rattle.thp_model.proofs.slow_check.places.flight.Goals as goal
use Rattle.thp_model.proofs.slow_check.places.flight.Goals.{then-flight-caller+in_ok-push_back, else-flight-caller}

pub loop-flight-preserved : goal.loop-flight-preserved
loop-flight-preserved c =
    let fs = c.as_slice-flight-items.result.now in
    let k = c.loop-flight.flight-index in
    let f = c.flight-item.result in
    let next = flight_next fs c.args.caller k f c.loop-flight-test.true c.flight-item.is in
    elim c.if-flight-caller.branch [
      | then-flight-caller+in_ok-push_back w ↦
          rw (w.pages-is)
          (w.in_ok-push_back.ensures.items
          ∙ ap (λ ps. ps ++ f.1 ∷ []) c.loop-flight.invariant
          ∙ sym (next ∙ ap (λ b. pages_by c.args.caller (take k fs) ++ cond b (f.1 ∷ []) []) (eq-eqb f.0 c.args.caller w.if-flight-caller.true)))
      | else-flight-caller w ↦
          rw (w.pages-is)
          (c.loop-flight.invariant
          ∙ sym (next ∙ ap (λ b. pages_by c.args.caller (take k fs) ++ cond b (f.1 ∷ []) []) (ne_eqb f.0 c.args.caller w.if-flight-caller.false) ∙ append_none (pages_by c.args.caller (take k fs))))
    ]
