use Rattle.std.proofs.Common.{ap, ◌∙◌}
use Rattle.thp_history.specs.Prelude.{zero_count}
use Rattle.thp_page.specs.Prelude.{state_of}
use Rattle.thp_page.proofs.ZeroSets.{set_size-zeros}
use Rattle.thp_page.proofs.page.Page.zero_count.Goals as goal

pub returns : goal.returns
returns c = c.count.ensures ∙ set_size-zeros (state_of c.self.inside) c.self.invariant.page.most_order c.self.invariant.zero_inside ∙ ap zero_count c.self.view_is
