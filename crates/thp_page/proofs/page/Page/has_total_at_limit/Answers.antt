use Rattle.std.proofs.Common.{◌≡◌, ◌+◌, ◌-◌, ◌≤◌, ◌&&◌, ℕ, ap, sym, ◌∙◌, arith, nat_eq}
use Rattle.std.proofs.lemmas.Bool.Decides.{nat_tests}
use Rattle.thp_history.specs.Prelude.{covers, most, PageState, size, own_at, total_at, some_in_range}
use Rattle.thp_page.specs.Prelude.{state_of}
use Rattle.thp_history.proofs.Below.{some_below-ext}
use Rattle.thp_page.proofs.PageSizes.{size_least, size_most, range_test}
use Rattle.thp_page.proofs.page.Page.has_total_at_limit.Goals as goal

pub has_count-requires : goal.has_count-requires
has_count-requires c = omega (arith, size_most (state_of c.self.inside) c.self.invariant.page.most_order, ap size c.self.view_is)

-- a total is at the limit where the own count is what the whole mappings leave of it
at_limit : (whole own : ℕ) → whole ≤ most → nat_eq own (most - whole) ≡ nat_eq (whole + own) most
at_limit whole own fits = grind (arith, nat_tests)

pub returns : goal.returns
returns c =
    let s : PageState = state_of c.self.inside in
    let fits : s.whole ≤ most = omega (arith, c.self.invariant.page.bounded 0 (omega (arith, size_least s c.self.invariant.page.least_order))) in
    c.has_count.ensures
    ∙ sym (range_test (size s) c.args.first c.args.count (λ i. nat_eq (own_at s i) (most - s.whole)) (omega (arith, ap size c.self.view_is)) (size_most s c.self.invariant.page.most_order))
    ∙ some_below-ext (size s) (λ i. covers c.args.first c.args.count i && nat_eq (own_at s i) (most - s.whole)) (λ i. covers c.args.first c.args.count i && nat_eq (total_at s i) most)
    (λ i below. ap (λ b. covers c.args.first c.args.count i && b) (at_limit s.whole (own_at s i) fits))
    ∙ ap (λ t. some_in_range t c.args.first c.args.count (λ i. nat_eq (total_at t i) most)) c.self.view_is
