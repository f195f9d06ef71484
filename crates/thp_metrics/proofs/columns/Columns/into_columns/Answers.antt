use Rattle.std.proofs.Common.{◌∙◌, List, length, ap, subst}
use Rattle.thp_metrics.specs.Prelude.{IsWidth, columns_of, Numbers}
use Rattle.thp_metrics.proofs.Widths.{width_is, one_width, columns_are}
use Rattle.thp_metrics.proofs.columns.Columns.into_columns.Goals as goal

pub returns : goal.returns
returns c w is =
    let past = c.self.inside.past in
    let folded = c.self.inside.folded in
    let known : IsWidth (length c.args.self) folded.width = subst (λ (ns : List Numbers). IsWidth (length ns) folded.width) c.self.view_is (width_is past folded c.self.invariant.0) in
    columns_are past folded c.push_reserved.new.self.items c.self.invariant.0 c.push_reserved.ensures.items
    ∙ ap (columns_of folded.width) c.self.view_is
    ∙ ap (λ v. columns_of v c.args.self) (one_width (length c.args.self) folded.width w known is)
