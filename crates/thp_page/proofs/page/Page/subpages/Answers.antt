use Rattle.std.proofs.Common.{ap, ◌∙◌, arith}
use Rattle.thp_history.specs.Prelude.{size}
use Rattle.thp_page.specs.Prelude.{state_of}
use Rattle.thp_page.proofs.PageSizes.{shifted_is_size, size_most}
use Rattle.thp_page.proofs.page.Page.subpages.Goals as goal

pub returns-clause-size : goal.returns-clause-size
returns-clause-size c = shifted_is_size (state_of c.self.inside) c.self.invariant.page.most_order ∙ ap size c.self.view_is

pub returns-clause-most : goal.returns-clause-most
returns-clause-most c = omega (arith, shifted_is_size (state_of c.self.inside) c.self.invariant.page.most_order, size_most (state_of c.self.inside) c.self.invariant.page.most_order)
