use Rattle.std.proofs.Common.{◌≡◌, rules, sym, ◌∙◌}
use Rattle.thp_history.proofs.WordLemmas.{same_set-Decides}
use Rattle.thp_model.proofs.slow_check.kinds.gives.Goals as goal

pub returns-then-eq : goal.returns-then-eq
returns-then-eq c =
    let recorded = c.args.recorded.now in
    let same : recorded.outcome ≡ c.outcome.result = search rules in (
      λ e. record { outcome_is = same ∙ c.outcome.ensures; set_is = (same_set-Decides recorded.released c.released.result).0 (sym c.eq-then-eq.ensures ∙ e) ∙ c.released.ensures },
      λ w. c.eq-then-eq.ensures ∙ (same_set-Decides recorded.released c.released.result).1 (w.set_is ∙ sym c.released.ensures),
    )
