use Rattle.std.proofs.Common.{sym, ◌∙◌}
use Rattle.thp_check.proofs.TakeSteps.{pinned_absent, pinned_idle, pinned_goes, pinned_not}
use Rattle.thp_check.proofs.node_state.NodeState.find_pinned.Goals as goal

pub returns-in-None : goal.returns-in-None
returns-in-None c = λ s h m. pinned_absent s h c.args.caller c.args.page c.args.self.now m c.in-None.ensures.none

pub returns-then-pins-eq0 : goal.returns-then-pins-eq0
returns-then-pins-eq0 c = λ s h m.
    let at = c.in-Some.ensures.there in
    pinned_not s h c.args.caller c.args.page c.in-Some.block c.args.self.now m at (sym (c.pins.ensures at.slot at.at) ∙ c.if-pins-eq0.true)

pub returns-else-is_split_candidate : goal.returns-else-is_split_candidate
returns-else-is_split_candidate c = λ s h m.
    let at = c.in-Some.ensures.there in
    pinned_idle s h c.args.caller c.args.page c.in-Some.block c.args.self.now m at (sym (c.is_split_candidate.ensures at.slot at.at) ∙ c.if-is_split_candidate.false)
    (λ e. c.if-pins-eq0.false (c.pins.ensures at.slot at.at ∙ e))

pub returns-then-is_split_candidate : goal.returns-then-is_split_candidate
returns-then-is_split_candidate c = λ s h m.
    let at = c.in-Some.ensures.there in
    pinned_goes s h c.args.caller c.args.page c.in-Some.block c.args.self.now m at (sym (c.is_split_candidate.ensures at.slot at.at) ∙ c.if-is_split_candidate.true)
    (λ e. c.if-pins-eq0.false (c.pins.ensures at.slot at.at ∙ e))
