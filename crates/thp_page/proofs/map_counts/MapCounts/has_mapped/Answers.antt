use Rattle.std.proofs.Common.{◌∙◌, ap, sym, nat_lt, slice_index}
use Rattle.thp_history.specs.Prelude.{has}
use Rattle.thp_page.proofs.Seen.{mapped_at, seen_at, some_found}
use Rattle.thp_page.proofs.map_counts.MapCounts.has_mapped.Goals as goal

pub returns : goal.returns
returns c =
    some_found _ (has c.self.inside.mapped) (λ i. nat_lt 0 (slice_index c.args.self.now i)) c.is_empty.ensures.none
    (λ i below.
    mapped_at c.self.inside.planes.sets c.self.inside.planes.used i c.self.inside.mapped c.self.invariant.mapped below
    ∙ ap (λ n. nat_lt 0 n) (sym (seen_at c.self.inside.planes.sets c.self.inside.planes.used i c.args.self.now c.self.view_is below)))
