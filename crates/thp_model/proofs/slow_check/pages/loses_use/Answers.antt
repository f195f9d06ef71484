use Rattle.std.proofs.Common.{rules, ℕ, Bool, ◌&&◌, nat_lt, nat_eq, ap, ◌∙◌}
use Rattle.thp_history.specs.Prelude.{total, some_below}
use Rattle.thp_model.proofs.slow_check.pages.loses_use.Goals as goal

pub returns : goal.returns
returns c =
    let test : ℕ → Bool = λ i. nat_lt 0 (total c.args.before.now c.args.page i) && nat_eq (total c.args.after.now c.args.page i) 0 in
    c.any_below.ensures test (λ i b below k. search rules) ∙ ap (λ n. some_below n test) c.subpages.ensures
