use Rattle.std.proofs.Common.{ap, ◌∙◌, ◌&&◌, not}
use Rattle.thp_history.specs.Prelude.{has, set_of, in_words}
use Rattle.thp_history.proofs.WordLemmas.{without_words-AreWords, without_words-set_of}
use Rattle.thp_history.proofs.sub_set.SubSet.difference.Goals as goal

pub invariant_of-result : goal.invariant_of-result
invariant_of-result c = without_words-AreWords c.self.inside.words c.other.inside.words c.self.invariant

pub returns : goal.returns
returns c =
    without_words-set_of c.self.inside.words c.other.inside.words c.other.invariant
    ∙ ap (λ t. set_of (λ i. has t i && not (has (set_of (in_words c.other.inside.words)) i))) c.self.view_is
    ∙ ap (λ t. set_of (λ i. has c.args.self i && not (has t i))) c.other.view_is
