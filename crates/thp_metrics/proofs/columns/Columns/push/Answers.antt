use Rattle.std.proofs.Common.{◌^◌, ◌<◌, List, length, subst, sym}
use Rattle.thp_metrics.specs.Prelude.{Numbers}
use Rattle.thp_metrics.proofs.Widths.{has_room}
use Rattle.thp_metrics.proofs.columns.Columns.push.Goals as goal

pub push-requires : goal.push-requires
push-requires c = has_room c.self.inside.past c.self.inside.folded c.self.invariant.0 (subst (λ (past : List Numbers). length past < 2 ^ 64) (sym c.self.view_is) c.requires)
