use Rattle.std.proofs.Common.{◌∙◌, ap, sym, nat_lt}
use Rattle.thp_history.proofs.WordLemmas.{set_of-ext}
use Rattle.thp_page.proofs.Seen.{seen_at}
use Rattle.thp_page.proofs.map_counts.MapCounts.mapped.Goals as goal

pub returns : goal.returns
returns c =
    c.self.invariant.mapped
    ∙ set_of-ext _ _ (λ i below. ap (λ n. nat_lt 0 n) (sym (seen_at c.self.inside.planes.sets c.self.inside.planes.used i c.args.self.now c.self.view_is below)))
