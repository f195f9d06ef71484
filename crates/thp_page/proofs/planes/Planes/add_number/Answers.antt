use Rattle.std.proofs.Common.{◌∙◌, ◌+◌, ◌^◌, ap, sym, arith, cond, eq-eqb, ne_eqb}
use Rattle.thp_history.specs.Prelude.{has}
use Rattle.thp_page.specs.Prelude.{Planes, tally}
use Rattle.thp_page.proofs.Chosen.{added_bit, nothing, room_for_bit, bit_read}
use Rattle.thp_page.proofs.planes.Planes.add_number.Goals as goal
use Rattle.thp_page.proofs.planes.Planes.add_number.Goals.{then-n-k-eq1, else-n-k-eq1}

pub add-requires-clause-small : goal.add-requires-clause-small
add-requires-clause-small c = λ i below chosen.
    room_for_bit _ (tally c.args.self.now i) c.args.n c.loop-k.k (has c.args.subpages i) chosen (sym (bit_read c.args.n c.loop-k.k) ∙ eq-eqb _ 1 c.if-n-k-eq1.true)
    (c.widen.ensures.counts i ∙ c.loop-k.invariant.counts i below) (c.requires.small i below chosen)

pub loop-k-preserved : goal.loop-k-preserved
loop-k-preserved c = record {
  most = elim c.if-n-k-eq1.branch [
    | then-n-k-eq1 w ↦ omega (arith, ap (λ (p : Planes). p.used) w.self-is, w.add.ensures.most)
    | else-n-k-eq1 w ↦ omega (arith, ap (λ (p : Planes). p.used) w.self-is, c.loop-k.invariant.most)
  ];
  counts = λ i below.
      elim c.if-n-k-eq1.branch [
        | then-n-k-eq1 w ↦
            added_bit (has c.args.subpages i) _ (tally c.args.self.now i) _ c.args.n c.loop-k.k (w.widen.ensures.counts i ∙ c.loop-k.invariant.counts i below)
            (ap (λ s. tally s i) w.self-is ∙ w.add.ensures.counts i below ∙ sym (ap (λ b. tally w.widen.new.self i + cond (has c.args.subpages i) (cond b (2 ^ c.loop-k.k) 0) 0) (sym (bit_read c.args.n c.loop-k.k) ∙ eq-eqb _ 1 w.if-n-k-eq1.true)))
        | else-n-k-eq1 w ↦
            added_bit (has c.args.subpages i) _ (tally c.args.self.now i) _ c.args.n c.loop-k.k (c.loop-k.invariant.counts i below)
            (ap (λ s. tally s i) w.self-is ∙ nothing _ (has c.args.subpages i) ∙ sym (ap (λ b. tally c.loop-k.self i + cond (has c.args.subpages i) (cond b (2 ^ c.loop-k.k) 0) 0) (sym (bit_read c.args.n c.loop-k.k) ∙ ne_eqb _ 1 w.if-n-k-eq1.false)))
      ];
}
