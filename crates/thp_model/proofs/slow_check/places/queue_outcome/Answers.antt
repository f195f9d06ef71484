use Rattle.std.proofs.Common.{rules, not, nat_eq, ap, sym, ◌∙◌}
use Rattle.std.proofs.lemmas.Fn.{filter_same}
use Rattle.thp_history.specs.Prelude.{queue_by}
use Rattle.thp_model.proofs.slow_check.places.queue_outcome.Goals as goal

pub returns-in-Freed : goal.returns-in-Freed
returns-in-Freed c =
    filter_same _ (λ q. not (nat_eq q c.args.page)) _ (λ x b f' k. search rules) _ _ c.retain.ensures.filtered
    ∙ ap (queue_by c.args.queue.now.items c.args.page) (sym c.in-Freed.is)
