use Rattle.std.proofs.Common.{◌≡◌, ◌&&◌, ℕ, true, cond, nat_lt, not, subst, arith}
use Rattle.thp_live_pages.proofs.free_blocks.insert_between.Goals as goal

pub returns-clause-with_them : goal.returns-clause-with_them
returns-clause-with_them g c = λ k.
    let last : c.loop-i.i ≡ c.args.end = omega (arith, c.loop-i-test.false, c.loop-i.auto.i-end c.requires.order) in
    let P : ℕ → Type 0 = λ n. g.S.LeastSet.has c.loop-i.set k ≡ cond (not (nat_lt k c.args.first) && nat_lt k n) true (g.S.LeastSet.has c.args.set.now k) in
    subst P last (c.loop-i.invariant.with_them k)
