use Rattle.std.proofs.Common.{rules, ℕ, Bool, ◌&&◌, nat_eq, ap, ◌∙◌}
use Rattle.thp_history.specs.Prelude.{total, refusal, most, covers, some_below}
use Rattle.thp_model.proofs.slow_check.kinds.of_map.Goals as goal

pub returns : goal.returns
unfolding refusal
returns c =
    let test : ℕ → Bool = λ i. covers c.args.first c.args.count i && nat_eq (total c.args.events.now c.args.page i) most in
    let full = c.any_below-is_full.ensures test (λ i b below k. search rules) ∙ ap (λ n. some_below n test) c.subpages.ensures in
    rw (c.no_page.ensures, c.bad_range.ensures, c.gone.ensures, full) at c.first_of.ensures
