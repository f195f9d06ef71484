use Rattle.std.proofs.Common.{◌≡◌, ℕ, ◌+◌, ◌<◌, ◌≤◌, ◌^◌, cond}
use Rattle.thp_page.specs.Prelude.{tally}
use Rattle.thp_page.proofs.planes.Planes.add.Given as goal

abbrev pub invariant-loop-k : goal.invariant-loop-k
invariant-loop-k g l = record {
  used : l.self.used ≡ l.fn.self.used;
  reached : l.k ≤ l.self.used;
  counts : (i : ℕ) → i < 512 →
      tally l.self i + cond (g.S.Subpages.chosen l.carry i) (2 ^ l.k) 0 ≡ tally l.fn.self i + cond (g.S.Subpages.chosen l.fn.subpages i) (2 ^ l.fn.from) 0;
}
