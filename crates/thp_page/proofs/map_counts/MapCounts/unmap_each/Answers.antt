use Rattle.std.proofs.Common.{◌∙◌, ◌+◌, ◌&&◌, ap, sym, arith, cond, nat_eq, slice_index}
use Rattle.thp_history.specs.Prelude.{has}
use Rattle.thp_history.proofs.WordLemmas.{set_of-ext}
use Rattle.thp_page.proofs.Seen.{seen_at, count_at, mapped_at, mapped_less, was_one, some_found}
use Rattle.thp_page.proofs.map_counts.MapCounts.unmap_each.Goals as goal

pub take-requires-clause-positive : goal.take-requires-clause-positive
take-requires-clause-positive g c = λ i below chosen.
    omega (arith, seen_at c.self.inside.planes.sets c.self.inside.planes.used i c.args.self.now c.self.view_is below, c.requires i below chosen)

pub invariant_of-self : goal.invariant_of-self
invariant_of-self g c = record {
  most = omega (arith, c.self.invariant.most, c.take.ensures.used);
  mapped =
      c.toggle.ensures
      ∙ set_of-ext _ _
      (λ i below.
      mapped_less (has c.self.inside.mapped i) (g.S.Subpages.chosen c.args.subpages i) (g.S.Subpages.chosen c.with_count-unmapped.result i) _ _
      (mapped_at c.self.inside.planes.sets c.self.inside.planes.used i c.self.inside.mapped c.self.invariant.mapped below)
      (c.with_count-unmapped.ensures i below)
      (c.take.ensures.counts i below));
}

pub returns-clause-taken : goal.returns-clause-taken
returns-clause-taken g c = λ i below.
    seen_at c.self.inside.planes.sets c.self.inside.planes.used i c.args.self.now c.self.view_is below ∙ sym (c.take.ensures.counts i below)
    ∙ ap (λ n. n + cond (g.S.Subpages.chosen c.args.subpages i) 1 0) (sym (count_at c.take.new.self.sets c.take.new.self.used i below))

pub returns-clause-unmapped : goal.returns-clause-unmapped
returns-clause-unmapped g c =
    some_found _ (g.S.Subpages.chosen c.with_count-unmapped.result) (λ i. g.S.Subpages.chosen c.args.subpages i && nat_eq (slice_index c.args.self.now i) 1) c.is_empty.ensures
    (λ i below.
    was_one (g.S.Subpages.chosen c.args.subpages i) (g.S.Subpages.chosen c.with_count-unmapped.result i) _ _ (c.with_count-unmapped.ensures i below) (c.take.ensures.counts i below)
    ∙ ap (λ n. g.S.Subpages.chosen c.args.subpages i && nat_eq n 1) (sym (seen_at c.self.inside.planes.sets c.self.inside.planes.used i c.args.self.now c.self.view_is below)))
