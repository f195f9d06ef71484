use Rattle.std.proofs.Common.{rules, arith, sym, ◌∙◌}
use Rattle.thp_history.specs.Prelude.{maps_whole, unmaps_whole}
use Rattle.thp_model.proofs.slow_check.pages.whole.Goals as goal

pub returns : goal.returns
returns c =
    let more = c.count_events-mapped.ensures (maps_whole c.args.p) (λ w b k. search rules) in
    let less = c.count_events-unmapped.ensures (unmaps_whole c.args.p) (λ w b k. search rules) in
    rw (sym c.is_split.ensures ∙ c.if-is_split.false) (omega (arith, more, less))
