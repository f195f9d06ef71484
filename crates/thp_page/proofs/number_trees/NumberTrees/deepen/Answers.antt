use Rattle.std.proofs.Common.{◌≡◌, ◌<◌, ◌^◌, suc, length, refl, arith, inl, inr}
use Rattle.std.proofs.Math.Pow.{pow_mono}
use Rattle.std.proofs.lemmas.Bool.{cases_lt}
use Rattle.std.proofs.lemmas.Nat.{pow_pos}
use Rattle.thp_page.specs.Prelude.{block_in, number_at}
use Rattle.thp_page.proofs.LowBits.{double}
use Rattle.thp_page.proofs.Splitting.{deepened}
use Rattle.thp_page.proofs.TreeSteps.{searchable_from}
use Rattle.thp_page.proofs.number_trees.NumberTrees.deepen.Goals as goal

pub returns-then-len-self-clause-searchable : goal.returns-then-len-self-clause-searchable
returns-then-len-self-clause-searchable c =
    let t = c.args.self.now in
    let s = c.requires.searchable in
    let all : length t.roots.items ≡ 2 ^ suc t.bits = omega (arith, s.hung.most, s.mask, pow_pos (suc t.bits)) in
    let few : suc t.bits < 64 = elim (cases_lt (suc t.bits) 33) [
      | inl less ↦ omega (arith, less)
      | inr more ↦ absurd (omega (arith, pow_mono more, all, c.requires.few))
    ] in
    searchable_from _ (suc t.bits) (length t.roots.items) (deepened (λ b. number_at t b) (λ p. block_in t p) t.bits (length t.roots.items) s.hung all few)
    (omega arith) refl (omega (arith, s.mask, double (suc t.bits), pow_pos (suc t.bits))) s.small s.both
