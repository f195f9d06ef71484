use Rattle.std.proofs.Common.{◌∙◌, ◌+◌, ap, sym, arith, cond}
use Rattle.thp_history.specs.Prelude.{has}
use Rattle.thp_history.proofs.WordLemmas.{set_of-ext}
use Rattle.thp_page.proofs.Seen.{seen_at, count_at, mapped_at, mapped_more}
use Rattle.thp_page.proofs.map_counts.MapCounts.map_each.Goals as goal

pub add-requires-clause-small : goal.add-requires-clause-small
add-requires-clause-small g c = λ i below chosen.
    omega (arith, seen_at c.self.inside.planes.sets c.self.inside.planes.used i c.args.self.now c.self.view_is below, c.requires i below chosen)

pub invariant_of-self : goal.invariant_of-self
invariant_of-self g c = record {
  most = c.add.ensures.most;
  mapped =
      c.toggle.ensures
      ∙ set_of-ext _ _
      (λ i below.
      mapped_more (has c.self.inside.mapped i) (g.S.Subpages.chosen c.args.subpages i) (g.S.Subpages.chosen c.outside.result i) _ _
      (mapped_at c.self.inside.planes.sets c.self.inside.planes.used i c.self.inside.mapped c.self.invariant.mapped below)
      (c.outside.ensures i below)
      (c.add.ensures.counts i below));
}

pub returns : goal.returns
returns g c = λ i below.
    count_at c.add.new.self.sets c.add.new.self.used i below ∙ c.add.ensures.counts i below
    ∙ ap (λ n. n + cond (g.S.Subpages.chosen c.args.subpages i) 1 0) (sym (seen_at c.self.inside.planes.sets c.self.inside.planes.used i c.args.self.now c.self.view_is below))
