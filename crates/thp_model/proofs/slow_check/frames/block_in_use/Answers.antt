use Rattle.std.proofs.Common.{rules}
use Rattle.thp_history.specs.Prelude.{places_live}
use Rattle.thp_model.proofs.slow_check.frames.block_in_use.Goals as goal

pub returns : goal.returns
returns c = c.any_event.ensures (places_live c.args.events.now c.args.block) (λ w b k. search rules)
