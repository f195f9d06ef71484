use Rattle.std.proofs.Common.{arith, ◌∙◌, ◌≡◌, ℕ, nat_lt, ap}
use Rattle.std.proofs.lemmas.Bool.Decides.{nat_tests}
use Rattle.std.proofs.lemmas.Nat.{one_shl}
use Rattle.std.proofs.Math.Pow.{pow_mono}
use Rattle.thp_history.specs.Prelude.{covers, set_of}
use Rattle.thp_history.proofs.WordLemmas.{set_of-ext}
use Rattle.thp_history.proofs.sub_set.SubSet.full.Goals as goal

pub range-requires : goal.range-requires
range-requires c = omega (arith, one_shl c.args.order 32 (omega arith), pow_mono {i = c.args.order} {j = 9} c.requires)

pub returns : goal.returns
returns c = c.range.ensures ∙ ap (λ n. set_of (covers 0 n)) (one_shl c.args.order 32 (omega arith)) ∙ set_of-ext _ _ (λ i below. from_0 _ i) where
  from_0 : (n i : ℕ) → covers 0 n i ≡ nat_lt i n
  from_0 n i = grind (arith, nat_tests)
