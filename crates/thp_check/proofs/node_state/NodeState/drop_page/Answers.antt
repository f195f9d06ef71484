use Rattle.std.proofs.Common.{ℕ, Contains, refl, sym, ◌∙◌, subst}
use Rattle.std.proofs.lemmas.Result.{err_from_is_err_and}
use Rattle.thp_history.specs.declared.events.What.TheVariants.{Dropped}
use Rattle.thp_history.specs.Prelude.{by}
use Rattle.thp_check.specs.Prelude.{IsMisfit, Misfit, blocks_in}
use Rattle.thp_check.proofs.TakeSteps.{dropped_other, dropped_goes, dropped_not, is_there, same_some}
use Rattle.thp_check.proofs.node_state.NodeState.drop_page.Goals as goal

pub returns-in_err-block : goal.returns-in_err-block
returns-in_err-block c = λ s h m.
    let other = c.in_err-block.ensures.other in
    let P : Misfit → Type 0 = λ x. IsMisfit s h (by c.args.caller (Dropped c.args.page)) x in
    let p = err_from_is_err_and c.from_residual.result c.from_residual.ensures.1 in
    rw (p.1, p.2) (subst P (sym other.1) (dropped_other s h c.args.caller c.args.page other.0 (other.2 s h m) other.3))

pub returns-then-not-is_dropped : goal.returns-then-not-is_dropped
returns-then-not-is_dropped c = λ s h m.
    let at = c.in_ok-block.ensures.there in
    dropped_not s h c.args.caller c.args.page c.in_ok-block.block c.args.self.now m at (sym (c.is_dropped.ensures at.slot at.at) ∙ c.if-not-is_dropped.true) c.in_ok-block.ensures.first

pub leave-requires : goal.leave-requires
leave-requires c = λ d e.
    let k = c.requires in
    let P : ℕ → Type 0 = λ n. Contains (blocks_in c.args.self.now.flights n) c.in_ok-block.block in
    subst P (same_some c.args.caller d e) (is_there k.shape k.history c.args.caller c.args.page c.in_ok-block.block c.args.self.now k.means c.in_ok-block.ensures.there)

pub returns : goal.returns
returns c = λ s h m.
    let at = c.in_ok-block.ensures.there in
    dropped_goes s h c.args.caller c.args.page c.in_ok-block.block c.args.self.now m at _ (sym (c.is_dropped.ensures at.slot at.at) ∙ c.if-not-is_dropped.false) c.in_ok-block.ensures.first (c.drop_out.ensures at.slot at.at) c.leave.ensures.left c.leave.ensures.size refl refl refl
