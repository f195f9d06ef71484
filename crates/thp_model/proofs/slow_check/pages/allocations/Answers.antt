use Rattle.std.proofs.Common.{rules}
use Rattle.thp_history.specs.Prelude.{is_alloc}
use Rattle.thp_model.proofs.slow_check.pages.allocations.Goals as goal

pub returns : goal.returns
returns c = c.count_events.ensures (is_alloc) (λ w b k. search rules)
