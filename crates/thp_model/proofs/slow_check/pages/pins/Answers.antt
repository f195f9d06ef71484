use Rattle.std.proofs.Common.{rules, arith}
use Rattle.thp_history.specs.Prelude.{pins_page, unpins_page}
use Rattle.thp_model.proofs.slow_check.pages.pins.Goals as goal

pub returns : goal.returns
returns c =
    let more = c.count_events-pinned.ensures (pins_page c.args.p) (λ w b k. search rules) in
    let less = c.count_events-unpinned.ensures (unpins_page c.args.p) (λ w b k. search rules) in
    omega (arith, more, less)
