-- How many subpages a page has.
use Rattle.std.proofs.Common.{◌<◌, ◌≤◌, arith}
use Rattle.std.proofs.Math.Pow.{pow_mono}
use Rattle.thp_history.specs.Prelude.{Shape, subpages}

-- a page has a subpage
pub some_subpages : (shape : Shape) → 0 < subpages shape
unfolding subpages
some_subpages shape = omega (arith, pow_mono {i = 0} {j = shape.order} (omega arith))

-- a page of order 9 at most has 512 subpages at most
pub few_subpages : (shape : Shape) → shape.order ≤ 9 → subpages shape ≤ 512
unfolding subpages
few_subpages shape h = omega (arith, pow_mono {i = shape.order} {j = 9} h)
