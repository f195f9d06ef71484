use Rattle.std.proofs.Common.{ap, ◌∙◌, slice_set, true}
use Rattle.thp_history.proofs.WordLemmas.{with_bit-AreWords, with_bit-set_of}
use Rattle.thp_history.proofs.sub_set.SubSet.insert.Goals as goal

pub invariant_of-self : goal.invariant_of-self
invariant_of-self c = with_bit-AreWords c.self.inside.words c.args.i c.requires c.self.invariant

pub returns : goal.returns
returns c =
    with_bit-set_of c.self.inside.words c.args.i c.requires c.self.invariant.eight ∙ ap (λ t. slice_set t c.args.i true) c.self.view_is
