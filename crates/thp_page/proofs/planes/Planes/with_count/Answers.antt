use Rattle.std.proofs.Common.{◌^◌, ◌%◌, ap, sym, ◌∙◌, arith, ◌≡◌, ◌&&◌, nat_eq, Bool, List, eq-eqb, ne_eqb}
use Rattle.std.specs.Int.{bit_at}
use Rattle.thp_history.specs.Prelude.{has}
use Rattle.thp_page.specs.Prelude.{count_in}
use Rattle.thp_page.proofs.Carries.{at_plane}
use Rattle.thp_page.proofs.Chosen.{none_chosen, alike_before, compared, none_left, all_compared, with_bit, without_bit, bit_read}
use Rattle.thp_page.proofs.planes.Planes.with_count.Goals as goal
use Rattle.thp_page.proofs.planes.Planes.with_count.Goals.{then-n-k-eq1, else-n-k-eq1}

pub loop-k-init : goal.loop-k-init
loop-k-init g c = λ i below. alike_before c.args.self.now.sets c.args.n i (g.S.Subpages.chosen c.args.subpages i)

pub returns-then-is_empty : goal.returns-then-is_empty
returns-then-is_empty g c = λ i below.
    none_left c.args.self.now.sets c.args.n c.loop-k.k c.args.self.now.used i (g.S.Subpages.chosen c.args.subpages i) (g.S.Subpages.chosen c.loop-k.left i) (omega arith) c.requires.fits
    (c.loop-k.invariant i below) (none_chosen (g.S.Subpages.chosen c.loop-k.left) c.is_empty.result i c.is_empty.ensures c.if-is_empty.true below)

pub loop-k-preserved : goal.loop-k-preserved
loop-k-preserved g c = λ i below.
    let planes : List (List Bool) = c.args.self.now.sets in
    compared planes c.args.n c.loop-k.k i (g.S.Subpages.chosen c.args.subpages i) (g.S.Subpages.chosen c.loop-k.left i) (g.S.Subpages.chosen c.if-n-k-eq1.left i)
    (c.loop-k.invariant i below)
    (elim c.if-n-k-eq1.branch [
      | then-n-k-eq1 w ↦
          ap (λ s. g.S.Subpages.chosen s i) w.left-is ∙ w.within-left.ensures i below
          ∙ with_bit (g.S.Subpages.chosen c.loop-k.left i) (nat_eq (bit_at c.args.n c.loop-k.k) 1) _ _ (ap (λ s. has s i) (at_plane planes c.loop-k.k _ (omega arith))) (sym (bit_read c.args.n c.loop-k.k) ∙ eq-eqb _ 1 w.if-n-k-eq1.true)
      | else-n-k-eq1 w ↦
          ap (λ s. g.S.Subpages.chosen s i) w.left-is ∙ w.outside-left.ensures i below
          ∙ without_bit (g.S.Subpages.chosen c.loop-k.left i) (nat_eq (bit_at c.args.n c.loop-k.k) 1) _ _ (ap (λ s. has s i) (at_plane planes c.loop-k.k _ (omega arith))) (sym (bit_read c.args.n c.loop-k.k) ∙ ne_eqb _ 1 w.if-n-k-eq1.false)
    ])

pub returns : goal.returns
returns g c = λ i below.
    let last : c.loop-k.k ≡ c.args.self.now.used = omega arith in
    all_compared c.args.self.now.sets c.args.n c.args.self.now.used i (g.S.Subpages.chosen c.args.subpages i) (g.S.Subpages.chosen c.loop-k.left i) c.requires.fits
    (c.loop-k.invariant i below ∙ ap (λ k. g.S.Subpages.chosen c.args.subpages i && nat_eq (count_in c.args.self.now.sets k i) (c.args.n % 2 ^ k)) last)
