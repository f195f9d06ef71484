use Rattle.std.proofs.Common.{sym, ◌∙◌}
use Rattle.thp_check.proofs.Showing.{held_unsplit, held_split}
use Rattle.thp_check.proofs.live_page.held_set.Goals as goal

pub returns-then-not-is_split : goal.returns-then-not-is_split
returns-then-not-is_split c = c.full.ensures ∙ held_unsplit c.args.page.now c.order.result c.order.ensures.value (sym c.is_split.ensures ∙ c.if-not-is_split.true)

pub returns-then-gives_zero : goal.returns-then-gives_zero
returns-then-gives_zero c =
    let split = sym c.is_split.ensures ∙ c.if-not-is_split.false in
    c.difference.ensures ∙ held_split c.args.page.now c.in_use_set-used.result c.zero_set.result c.in_use_set-used.ensures c.zero_set.ensures split (c.requires split ∙ c.if-gives_zero.true)
