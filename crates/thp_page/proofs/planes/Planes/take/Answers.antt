use Rattle.std.proofs.Common.{◌^◌, ap, ◌∙◌, arith, ◌≡◌, ◌&&◌, cond, ◌+◌, get_or-set_same}
use Rattle.thp_history.specs.Prelude.{has}
use Rattle.thp_page.specs.Prelude.{tally}
use Rattle.thp_page.proofs.Carries.{borrowed, ends_even, no_borrow_out, counts_below, turned_at}
use Rattle.thp_page.proofs.Chosen.{none_chosen}
use Rattle.thp_page.proofs.planes.Planes.take.Goals as goal

pub returns-then-is_empty-clause-counts : goal.returns-then-is_empty-clause-counts
returns-then-is_empty-clause-counts g c = λ i below.
    ends_even _ _ _ _ _ (none_chosen (g.S.Subpages.chosen c.loop-k.borrow) c.is_empty.result i c.is_empty.ensures c.if-is_empty.true below) (c.loop-k.invariant.counts i below)

pub loop-k-preserved : goal.loop-k-preserved
loop-k-preserved g c = record {
  used = c.loop-k.invariant.used;
  counts = λ i below.
      borrowed c.loop-k.self.sets c.loop-k.self.used c.loop-k.k i _ (g.S.Subpages.chosen c.loop-k.borrow i) (g.S.Subpages.chosen c.within-borrow.result i) _ _
      (omega arith) (omega arith)
      (turned_at c.loop-k.self.sets c.loop-k.k i _ _ (g.S.Subpages.chosen c.loop-k.borrow) (omega arith) below c.toggle.ensures)
      (c.within-borrow.ensures i below ∙ ap (λ s. g.S.Subpages.chosen c.loop-k.borrow i && has s i) (get_or-set_same c.loop-k.self.sets c.loop-k.k _ _ (omega arith)))
      (c.loop-k.invariant.counts i below);
}

pub returns-clause-counts : goal.returns-clause-counts
returns-clause-counts g c = λ i below.
    let last : c.loop-k.k ≡ c.loop-k.self.used = omega arith in
    no_borrow_out (tally c.loop-k.self i) (tally c.args.self.now i) (2 ^ c.loop-k.self.used) (g.S.Subpages.chosen c.args.subpages i) (g.S.Subpages.chosen c.loop-k.borrow i)
    (c.loop-k.invariant.counts i below ∙ ap (λ k. tally c.args.self.now i + cond (g.S.Subpages.chosen c.loop-k.borrow i) (2 ^ k) 0) last)
    (counts_below c.loop-k.self.sets c.loop-k.self.used i)
    (c.requires.positive i below)
