use Rattle.std.proofs.Common.{rules, arith}
use Rattle.thp_history.specs.Prelude.{maps, unmaps}
use Rattle.thp_model.proofs.slow_check.pages.total.Goals as goal

pub returns : goal.returns
returns c =
    let more = c.count_events-mapped.ensures (maps c.args.p c.args.i) (λ w b k. search rules) in
    let less = c.count_events-unmapped.ensures (unmaps c.args.p c.args.i) (λ w b k. search rules) in
    omega (arith, more, less)
