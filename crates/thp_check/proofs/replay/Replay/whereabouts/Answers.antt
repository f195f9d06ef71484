use Rattle.std.proofs.Common.{ap, sym, ◌∙◌}
use Rattle.thp_history.specs.Prelude.{is_live}
use Rattle.thp_check.specs.Prelude.{NodeState, Replayed}
use Rattle.thp_check.proofs.Showing.{seen, unseen}
use Rattle.thp_check.proofs.replay.Replay.whereabouts.Goals as goal

pub returns-in_err-block-clause-live : goal.returns-in_err-block-clause-live
returns-in_err-block-clause-live c =
    let i = c.self.inside in
    let same = c.table-table.ensures ∙ ap (λ (r : NodeState). r.places.table) c.deref.ensures in
    rw c.from_residual.ensures (sym (unseen i.state.value.shape i.past i.state.value c.self.invariant.0 c.table-table.result.now same c.args.page c.in_err-block.ensures.absent) ∙ ap (λ (r : Replayed). is_live r.history c.args.page) c.self.view_is)

pub returns-clause-live : goal.returns-clause-live
returns-clause-live c =
    let i = c.self.inside in
    let same = c.table-table.ensures ∙ ap (λ (r : NodeState). r.places.table) c.deref.ensures in
    let k = seen i.state.value.shape i.past i.state.value c.self.invariant.0 c.table-table.result.now same c.args.page c.in_ok-block.block c.in_ok-block.ensures.found c.in-Some.state.now c.in-Some.ensures.page in
    sym k.0 ∙ ap (λ (r : Replayed). is_live r.history c.args.page) c.self.view_is
