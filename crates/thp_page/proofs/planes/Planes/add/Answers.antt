use Rattle.std.proofs.Common.{◌^◌, ap, sym, ◌∙◌, arith, ◌≡◌, ◌&&◌, cond, ◌+◌}
use Rattle.std.proofs.Math.Pow.{pow_mono}
use Rattle.thp_history.specs.Prelude.{has}
use Rattle.thp_page.specs.Prelude.{tally}
use Rattle.thp_page.proofs.Carries.{carried, ends_without, no_carry_out, counts_below, at_plane, turned_at}
use Rattle.thp_page.proofs.Chosen.{none_chosen}
use Rattle.thp_page.proofs.planes.Planes.add.Goals as goal

pub returns-then-is_empty-clause-counts : goal.returns-then-is_empty-clause-counts
returns-then-is_empty-clause-counts g c = λ i below.
    ends_without _ _ _ _ (none_chosen (g.S.Subpages.chosen c.loop-k.carry) c.is_empty.result i c.is_empty.ensures c.if-is_empty.true below) (c.loop-k.invariant.counts i below)

pub loop-k-preserved : goal.loop-k-preserved
loop-k-preserved g c = record {
  used = c.loop-k.invariant.used;
  reached = omega arith;
  counts = λ i below.
      carried c.loop-k.self.sets c.loop-k.self.used c.loop-k.k i _ (g.S.Subpages.chosen c.loop-k.carry i) (g.S.Subpages.chosen c.within-next.result i) _
      (omega arith) (omega arith)
      (turned_at c.loop-k.self.sets c.loop-k.k i _ _ (g.S.Subpages.chosen c.loop-k.carry) (omega arith) below c.toggle.ensures)
      (c.within-next.ensures i below ∙ ap (λ s. g.S.Subpages.chosen c.loop-k.carry i && has s i) (at_plane c.loop-k.self.sets c.loop-k.k _ (omega arith)))
      (c.loop-k.invariant.counts i below);
}

pub returns-clause-counts : goal.returns-clause-counts
returns-clause-counts g c = λ i below.
    let last : c.loop-k.k ≡ 16 = omega arith in
    no_carry_out (tally c.loop-k.self i) (tally c.args.self.now i) (2 ^ c.args.from) (g.S.Subpages.chosen c.args.subpages i) (g.S.Subpages.chosen c.loop-k.carry i)
    (ap (λ k. tally c.loop-k.self i + cond (g.S.Subpages.chosen c.loop-k.carry i) (2 ^ k) 0) (sym last) ∙ c.loop-k.invariant.counts i below)
    (omega (arith, counts_below c.args.self.now.sets c.args.self.now.used i, pow_mono {i = c.args.self.now.used} {j = 16} c.requires.most))
    (c.requires.small i below)
