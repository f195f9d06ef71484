use Rattle.std.proofs.Common.{◌≡◌, ℕ, ◌&&◌, cond, nat_lt, not, true}
use Rattle.thp_live_pages.proofs.free_blocks.insert_between.Given as goal

-- the numbers so far are in the set
abbrev pub invariant-loop-i : goal.invariant-loop-i
invariant-loop-i g l = record {
  with_them : (k : ℕ) → g.S.LeastSet.has l.set k ≡ cond (not (nat_lt k l.first) && nat_lt k l.i) true (g.S.LeastSet.has l.initial.set k);
  room : g.S.LeastSet.room l.set ≡ g.S.LeastSet.room l.initial.set;
}
