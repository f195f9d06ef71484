use Rattle.std.proofs.Common.{◌∙◌, ◌&&◌, ap, sym, nat_eq}
use Rattle.thp_history.specs.Prelude.{covers}
use Rattle.thp_history.proofs.Below.{some_below-ext}
use Rattle.thp_page.proofs.Seen.{seen_at}
use Rattle.thp_page.proofs.map_counts.MapCounts.has_count.Goals as goal

pub returns : goal.returns
returns c =
    c.has_count.ensures
    ∙ some_below-ext 512 _ _
    (λ i below. ap (λ n. covers c.args.first c.args.count i && nat_eq n c.args.n) (sym (seen_at c.self.inside.planes.sets c.self.inside.planes.used i c.args.self.now c.self.view_is below)))
