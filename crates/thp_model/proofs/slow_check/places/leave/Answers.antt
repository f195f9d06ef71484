use Rattle.std.proofs.Common.{rules, ℕ, not, ◌&&◌, nat_eq}
use Rattle.std.proofs.lemmas.Fn.{filter_same}
use Rattle.thp_model.proofs.slow_check.places.leave.Goals as goal

pub returns : goal.returns
returns c =
    filter_same _ (λ (f : ℕ × ℕ). not (nat_eq f.0 c.args.caller && nat_eq f.1 c.args.page)) _ (λ x b f' k. search rules) _ _ c.retain.ensures.filtered
