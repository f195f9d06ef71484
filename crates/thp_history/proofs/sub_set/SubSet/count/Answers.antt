use Rattle.std.proofs.Common.{arith, ap, ◌∙◌, count_ones, sum_by, take_all}
use Rattle.std.proofs.lemmas.List.Sums.{sum_by_more}
use Rattle.std.proofs.lemmas.Nat.{ones-le}
use Rattle.thp_history.specs.Prelude.{set_size}
use Rattle.thp_history.proofs.WordLemmas.{set_size-words}
use Rattle.thp_history.proofs.sub_set.SubSet.count.Goals as goal

pub loop-word-preserved : goal.loop-word-preserved
loop-word-preserved c = record {
  sum = omega (arith, sum_by_more count_ones c.self.inside.words c.loop-word.word-index 0 (omega arith));
  few = omega (arith, ones-le 64 _ (c.self.invariant.fit c.loop-word.word-index 0 (omega arith)));
}

pub returns : goal.returns
returns c =
    c.loop-word.invariant.sum
    ∙ ap (λ ws. sum_by count_ones ws) (take_all c.loop-word.word-index c.self.inside.words (omega arith))
    ∙ set_size-words c.self.inside.words c.self.invariant
    ∙ ap set_size c.self.view_is
