use Rattle.std.proofs.Common.{ap, ◌∙◌, arith}
use Rattle.thp_history.specs.Prelude.{PageState, size, zero_at, some_in_range}
use Rattle.thp_page.specs.Prelude.{state_of}
use Rattle.thp_page.proofs.PageSizes.{size_most}
use Rattle.thp_page.proofs.ZeroSets.{some_zero}
use Rattle.thp_page.proofs.page.Page.has_zero_filled.Goals as goal

pub overflow_cast-first : goal.overflow_cast-first
overflow_cast-first c = omega (arith, size_most (state_of c.self.inside) c.self.invariant.page.most_order, ap size c.self.view_is)

pub overflow_cast-count : goal.overflow_cast-count
overflow_cast-count c = omega (arith, size_most (state_of c.self.inside) c.self.invariant.page.most_order, ap size c.self.view_is)

pub range-range-requires : goal.range-range-requires
range-range-requires c = omega (arith, size_most (state_of c.self.inside) c.self.invariant.page.most_order, ap size c.self.view_is)

pub returns : goal.returns
returns c =
    let s : PageState = state_of c.self.inside in
    some_zero s c.args.first c.args.count c.range-range.result c.intersection.result c.is_empty.result
    (omega (arith, ap size c.self.view_is)) (size_most s c.self.invariant.page.most_order) c.range-range.ensures c.intersection.ensures c.is_empty.ensures.none
    ∙ ap (λ t. some_in_range t c.args.first c.args.count (zero_at t)) c.self.view_is
