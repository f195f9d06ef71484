use Rattle.std.proofs.Common.{◌∙◌, ◌^◌, ap, sym, arith, cond}
use Rattle.std.proofs.Math.Pow.{pow_mono}
use Rattle.thp_history.specs.Prelude.{has}
use Rattle.thp_page.proofs.Carries.{at_plane, counts_below, no_planes, one_more}
use Rattle.thp_page.proofs.planes.Planes.count.Goals as goal
use Rattle.thp_page.proofs.planes.Planes.count.Goals.{then-contains, else-contains}

pub loop-k-init : goal.loop-k-init
loop-k-init c = sym (no_planes c.args.self.now.sets c.args.i)

pub overflow_add-count : goal.overflow_add-count
overflow_add-count c = omega (arith, c.loop-k.invariant, counts_below c.args.self.now.sets c.loop-k.k c.args.i, pow_mono {i = c.loop-k.k} {j = 15} (omega arith))

pub loop-k-preserved : goal.loop-k-preserved
loop-k-preserved c =
    let planes = c.args.self.now.sets in
    let k = c.loop-k.k in
    let read = ap (λ s. has s c.args.i) (at_plane planes k _ (omega arith)) in
    let adds = one_more planes k c.args.i in
    elim c.if-contains.branch [
      | then-contains w ↦
          let here = sym read ∙ sym c.contains.ensures ∙ w.if-contains.true in
          omega (arith, w.count-is, c.loop-k.invariant, pow_mono {i = k} {j = 15} (omega arith), adds, ap (λ b. cond b (2 ^ k) 0) here)
      | else-contains w ↦
          let here = sym read ∙ sym c.contains.ensures ∙ w.if-contains.false in
          omega (arith, w.count-is, c.loop-k.invariant, adds, ap (λ b. cond b (2 ^ k) 0) here)
    ]
