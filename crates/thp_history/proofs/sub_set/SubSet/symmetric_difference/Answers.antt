use Rattle.std.proofs.Common.{ap, ◌∙◌}
use Rattle.thp_history.specs.Prelude.{has, set_of, one_alone, in_words}
use Rattle.thp_history.proofs.WordLemmas.{xor_words-AreWords, xor_words-set_of}
use Rattle.thp_history.proofs.sub_set.SubSet.symmetric_difference.Goals as goal

pub invariant_of-result : goal.invariant_of-result
invariant_of-result c = xor_words-AreWords c.self.inside.words c.other.inside.words c.self.invariant c.other.invariant

pub returns : goal.returns
returns c =
    xor_words-set_of c.self.inside.words c.other.inside.words
    ∙ ap (λ t. set_of (λ i. one_alone (has t i) (has (set_of (in_words c.other.inside.words)) i))) c.self.view_is
    ∙ ap (λ t. set_of (λ i. one_alone (has c.args.self i) (has t i))) c.other.view_is
