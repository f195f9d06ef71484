use Rattle.std.proofs.Common.{◌≡◌, ℕ, ◌<◌, ◌^◌, ◌%◌, ◌&&◌, nat_eq}
use Rattle.thp_page.specs.Prelude.{count_in}
use Rattle.thp_page.proofs.planes.Planes.with_count.Given as goal

abbrev pub invariant-loop-k : goal.invariant-loop-k
invariant-loop-k g l =
    (i : ℕ) → i < 512 → g.S.Subpages.chosen l.left i ≡ (g.S.Subpages.chosen l.fn.subpages i && nat_eq (count_in l.self.sets l.k i) (l.n % 2 ^ l.k))
