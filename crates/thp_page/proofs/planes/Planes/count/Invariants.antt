use Rattle.std.proofs.Common.{◌≡◌}
use Rattle.thp_page.specs.Prelude.{count_in}
use Rattle.thp_page.proofs.planes.Planes.count.Given as goal

abbrev pub invariant-loop-k : goal.invariant-loop-k
invariant-loop-k l = l.count ≡ count_in l.self.sets l.k l.i
