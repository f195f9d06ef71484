use Rattle.std.proofs.Common.{◌∙◌, ◌&&◌, not, ap, sym, nat_eq, slice_index}
use Rattle.thp_history.specs.Prelude.{has, covers, get_or-set_of}
use Rattle.thp_page.specs.Prelude.{in_word}
use Rattle.thp_page.proofs.Seen.{seen_at, mapped_at, some_found, not_mapped}
use Rattle.thp_page.proofs.map_counts.MapCounts.has_unmapped.Goals as goal

pub returns-in-Some : goal.returns-in-Some
returns-in-Some c =
    some_found _ (in_word c.outside.result.at c.outside.result.bits) (λ i. covers c.args.first c.args.count i && nat_eq (slice_index c.args.self.now i) 0) c.is_empty.ensures
    (λ i below.
    c.outside.ensures i below ∙ ap (λ b. b && not (has c.self.inside.mapped i)) (c.in-Some.ensures i)
    ∙ ap (λ b. covers c.args.first c.args.count i && b)
    (ap not (mapped_at c.self.inside.planes.sets c.self.inside.planes.used i c.self.inside.mapped c.self.invariant.mapped below) ∙ not_mapped _
    ∙ ap (λ n. nat_eq n 0) (sym (seen_at c.self.inside.planes.sets c.self.inside.planes.used i c.args.self.now c.self.view_is below))))

pub returns : goal.returns
returns c =
    some_found _ (has c.outside-2.result) (λ i. covers c.args.first c.args.count i && nat_eq (slice_index c.args.self.now i) 0) c.is_empty-2.ensures.none
    (λ i below.
    c.outside-2.ensures i below ∙ ap (λ b. b && not (has c.self.inside.mapped i)) (ap (λ t. has t i) c.range-range.ensures ∙ get_or-set_of (covers c.args.first c.args.count) i below)
    ∙ ap (λ b. covers c.args.first c.args.count i && b)
    (ap not (mapped_at c.self.inside.planes.sets c.self.inside.planes.used i c.self.inside.mapped c.self.invariant.mapped below) ∙ not_mapped _
    ∙ ap (λ n. nat_eq n 0) (sym (seen_at c.self.inside.planes.sets c.self.inside.planes.used i c.args.self.now c.self.view_is below))))
