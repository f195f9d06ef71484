use Rattle.std.proofs.Common.{◌∙◌, ap, sym, nat_lt}
use Rattle.thp_page.proofs.Seen.{mapped_at, seen_at}
use Rattle.thp_page.proofs.map_counts.MapCounts.is_mapped.Goals as goal

pub returns : goal.returns
returns c =
    c.contains.ensures ∙ mapped_at c.self.inside.planes.sets c.self.inside.planes.used c.args.i c.self.inside.mapped c.self.invariant.mapped c.requires
    ∙ ap (λ n. nat_lt 0 n) (sym (seen_at c.self.inside.planes.sets c.self.inside.planes.used c.args.i c.args.self.now c.self.view_is c.requires))
