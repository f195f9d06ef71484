use Rattle.std.proofs.Common.{◌≡◌, ℕ, ◌+◌, ◌<◌, ◌≤◌, ◌^◌, ◌%◌, cond}
use Rattle.thp_history.specs.Prelude.{has}
use Rattle.thp_page.specs.Prelude.{tally}
use Rattle.thp_page.proofs.planes.Planes.add_number.Given as goal

abbrev pub invariant-loop-k : goal.invariant-loop-k
invariant-loop-k l = record {
  most : l.self.used ≤ 16;
  counts : (i : ℕ) → i < 512 → tally l.self i ≡ tally l.fn.self i + cond (has l.subpages i) (l.n % 2 ^ l.k) 0;
}
