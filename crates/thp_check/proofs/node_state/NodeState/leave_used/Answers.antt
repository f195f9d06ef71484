use Rattle.std.proofs.Common.{ℕ, Contains, refl, sym, ◌∙◌, subst}
use Rattle.thp_check.specs.Prelude.{blocks_in}
use Rattle.thp_check.proofs.TakeSteps.{used_absent, used_not, used_goes, is_there, same_some}
use Rattle.thp_check.proofs.node_state.NodeState.leave_used.Goals as goal

pub returns-in-None : goal.returns-in-None
returns-in-None c = λ s h m. used_absent s h c.args.caller c.args.page c.args.self.now m c.in-None.ensures.none

pub returns-then-is_split_candidate : goal.returns-then-is_split_candidate
returns-then-is_split_candidate c = λ s h m.
    let at = c.in-Some.ensures.there in
    used_not s h c.args.caller c.args.page c.in-Some.block c.args.self.now m at (sym (c.is_split_candidate.ensures at.slot at.at) ∙ c.if-is_split_candidate.true)

pub leave-requires : goal.leave-requires
leave-requires c = λ d e.
    let k = c.requires in
    let P : ℕ → Type 0 = λ n. Contains (blocks_in c.args.self.now.flights n) c.in-Some.block in
    subst P (same_some c.args.caller d e) (is_there k.shape k.history c.args.caller c.args.page c.in-Some.block c.args.self.now k.means c.in-Some.ensures.there)

pub returns : goal.returns
returns c = λ s h m.
    let at = c.in-Some.ensures.there in
    used_goes s h c.args.caller c.args.page c.in-Some.block c.args.self.now m at _ (sym (c.is_split_candidate.ensures at.slot at.at) ∙ c.if-is_split_candidate.false) (c.drop_out.ensures at.slot at.at) c.leave.ensures.left c.leave.ensures.size refl refl refl
