use Rattle.std.proofs.Common.{ap, ◌∙◌}
use Rattle.thp_history.specs.Prelude.{has}
use Rattle.thp_history.proofs.WordLemmas.{has_word}
use Rattle.thp_history.proofs.sub_set.SubSet.contains.Goals as goal

pub returns : goal.returns
returns c = has_word c.self.inside.words c.args.i c.requires ∙ ap (λ t. has t c.args.i) c.self.view_is
