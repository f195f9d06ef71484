use Rattle.std.proofs.Common.{ℕ, [], ◌∷◌, ◌++◌, map, take, ap, sym, ◌∙◌, append_assoc}
use Rattle.thp_history.specs.Prelude.{queue}
use Rattle.thp_history.proofs.Asked.{pages_next}
use Rattle.thp_model.proofs.slow_check.places.standing.Goals as goal

pub loop-flight-preserved : goal.loop-flight-preserved
loop-flight-preserved c =
    let fs = c.as_slice-flight-items.result.now in
    let k = c.loop-flight.flight-index in
    let f = c.flight-item.result in
    let q = queue c.args.shape c.args.events.now in
    c.in_ok-push_back.ensures.items
    ∙ ap (λ ps. ps ++ f.1 ∷ []) c.loop-flight.invariant
    ∙ append_assoc q (map (λ (x : ℕ × ℕ). x.1) (take k fs)) (f.1 ∷ [])
    ∙ ap (λ ps. q ++ ps) (sym (pages_next fs k f c.loop-flight-test.true c.flight-item.is))
