use Rattle.std.proofs.Common.{rules}
use Rattle.thp_history.specs.Prelude.{closes}
use Rattle.thp_model.proofs.slow_check.pages.is_closed.Goals as goal

pub returns : goal.returns
returns c = c.any_event.ensures (closes) (λ w b k. search rules)
