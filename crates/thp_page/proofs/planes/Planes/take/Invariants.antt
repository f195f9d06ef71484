use Rattle.std.proofs.Common.{◌≡◌, ℕ, ◌+◌, ◌<◌, ◌^◌, cond}
use Rattle.thp_page.specs.Prelude.{tally}
use Rattle.thp_page.proofs.planes.Planes.take.Given as goal

abbrev pub invariant-loop-k : goal.invariant-loop-k
invariant-loop-k g l = record {
  used : l.self.used ≡ l.fn.self.used;
  counts : (i : ℕ) → i < 512 →
      tally l.self i + cond (g.S.Subpages.chosen l.fn.subpages i) 1 0 ≡ tally l.fn.self i + cond (g.S.Subpages.chosen l.borrow i) (2 ^ l.k) 0;
}
