use Rattle.std.proofs.Common.{◌∙◌, arith}
use Rattle.thp_page.proofs.Carries.{adds_nothing}
use Rattle.thp_page.proofs.planes.Planes.widen.Goals as goal

pub loop-self-preserved : goal.loop-self-preserved
loop-self-preserved c = record {
  most = omega arith;
  counts = λ i. adds_nothing _ _ c.empty.result i _ c.empty.ensures (c.open.ensures.counts i) ∙ c.loop-self.invariant.counts i;
}
