use Rattle.std.proofs.Common.{rules}
use Rattle.thp_history.specs.Prelude.{splits}
use Rattle.thp_model.proofs.slow_check.pages.is_split.Goals as goal

pub returns : goal.returns
returns c = c.any_event.ensures (splits c.args.p) (λ w b k. search rules)
