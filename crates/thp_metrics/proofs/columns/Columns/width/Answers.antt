use Rattle.std.proofs.Common.{List, length, subst}
use Rattle.thp_metrics.specs.Prelude.{IsWidth, Numbers}
use Rattle.thp_metrics.proofs.Widths.{width_is}
use Rattle.thp_metrics.proofs.columns.Columns.width.Goals as goal

pub returns : goal.returns
returns c = subst (λ (past : List Numbers). IsWidth (length past) c.self.inside.folded.width) c.self.view_is (width_is c.self.inside.past c.self.inside.folded c.self.invariant.0)
