use Rattle.std.proofs.Common.{rules, ℕ, not, nat_eq, ap, sym, ◌∙◌}
use Rattle.std.proofs.lemmas.Fn.{filter_same}
use Rattle.thp_history.specs.Prelude.{flights_by}
use Rattle.thp_model.proofs.slow_check.places.flights_outcome.Goals as goal

pub returns-in-Freed : goal.returns-in-Freed
returns-in-Freed c =
    filter_same _ (λ (f : ℕ × ℕ). not (nat_eq f.1 c.args.page)) _ (λ x b f' k. search rules) _ _ c.retain.ensures.filtered
    ∙ ap (flights_by c.args.flights.now.items c.args.page) (sym c.in-Freed.is)
