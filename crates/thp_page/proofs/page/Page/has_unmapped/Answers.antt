use Rattle.std.proofs.Common.{ap, sym, ◌∙◌, arith, nat_eq}
use Rattle.thp_history.specs.Prelude.{PageState, size, own_at, some_in_range}
use Rattle.thp_page.specs.Prelude.{state_of}
use Rattle.thp_page.proofs.PageSizes.{size_most, range_test}
use Rattle.thp_page.proofs.page.Page.has_unmapped.Goals as goal

pub has_unmapped-requires : goal.has_unmapped-requires
has_unmapped-requires c = omega (arith, size_most (state_of c.self.inside) c.self.invariant.page.most_order, ap size c.self.view_is)

pub returns : goal.returns
returns c =
    let s : PageState = state_of c.self.inside in
    c.has_unmapped.ensures
    ∙ sym (range_test (size s) c.args.first c.args.count (λ i. nat_eq (own_at s i) 0) (omega (arith, ap size c.self.view_is)) (size_most s c.self.invariant.page.most_order))
    ∙ ap (λ t. some_in_range t c.args.first c.args.count (λ i. nat_eq (own_at t i) 0)) c.self.view_is
