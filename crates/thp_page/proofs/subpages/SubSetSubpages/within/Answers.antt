use Rattle.std.proofs.Common.{ap, ◌∙◌, ◌&&◌}
use Rattle.thp_history.specs.Prelude.{has, get_or-set_of}
use Rattle.thp_page.proofs.subpages.SubSetSubpages.within.Goals as goal

pub returns : goal.returns
returns c = λ i below. ap (λ t. has t i) c.intersection.ensures ∙ get_or-set_of (λ j. has c.args.self.now j && has c.args.set.now j) i below
