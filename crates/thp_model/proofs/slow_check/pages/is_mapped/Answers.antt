use Rattle.std.proofs.Common.{rules, ℕ, Bool, nat_lt, ap, ◌∙◌}
use Rattle.thp_history.specs.Prelude.{total, some_below}
use Rattle.thp_model.proofs.slow_check.pages.is_mapped.Goals as goal

pub returns : goal.returns
returns c =
    let test : ℕ → Bool = λ i. nat_lt 0 (total c.args.events.now c.args.page i) in
    c.any_below.ensures test (λ i b below k. search rules) ∙ ap (λ n. some_below n test) c.subpages.ensures
