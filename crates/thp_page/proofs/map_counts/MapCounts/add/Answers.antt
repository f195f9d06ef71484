use Rattle.std.proofs.Common.{◌+◌, ◌∙◌, ap, sym, arith, cond}
use Rattle.thp_history.specs.Prelude.{has}
use Rattle.thp_history.proofs.WordLemmas.{set_of-ext}
use Rattle.thp_page.proofs.Seen.{seen_at, count_at, mapped_at, mapped_any}
use Rattle.thp_page.proofs.map_counts.MapCounts.add.Goals as goal

pub add_number-requires-clause-small : goal.add_number-requires-clause-small
add_number-requires-clause-small c = λ i below chosen.
    omega (arith, seen_at c.self.inside.planes.sets c.self.inside.planes.used i c.args.self.now c.self.view_is below, c.requires i below chosen)

pub invariant_of-self : goal.invariant_of-self
invariant_of-self c = record {
  most = c.add_number.ensures.most;
  mapped =
      c.union-self-inside.ensures
      ∙ set_of-ext _ _
      (λ i below.
      mapped_any (has c.self.inside.mapped i) (has c.args.subpages i) c.args.n _ _ c.if-n-gt0.true
      (mapped_at c.self.inside.planes.sets c.self.inside.planes.used i c.self.inside.mapped c.self.invariant.mapped below)
      (c.add_number.ensures.counts i below));
}

pub returns-then-n-gt0 : goal.returns-then-n-gt0
returns-then-n-gt0 c = λ i below.
    count_at c.add_number.new.self.sets c.add_number.new.self.used i below ∙ c.add_number.ensures.counts i below
    ∙ ap (λ m. m + cond (has c.args.subpages i) c.args.n 0) (sym (seen_at c.self.inside.planes.sets c.self.inside.planes.used i c.args.self.now c.self.view_is below))
