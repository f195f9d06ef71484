use Rattle.std.proofs.Common.{ap, sym, ◌∙◌}
use Rattle.thp_history.specs.Prelude.{flight, has_page}
use Rattle.thp_node.specs.Prelude.{NodeState}
use Rattle.thp_live_pages.proofs.Admitting.{Found, found, flies_not_there, flies_nowhere}
use Rattle.thp_node.proofs.BatchRuns.{flies_there}
use Rattle.thp_node.proofs.node.Node.flying_block.Goals as goal

pub returns-then-is_in_batch-clause-flies : goal.returns-then-is_in_batch-clause-flies
returns-then-is_in_batch-clause-flies g c =
    let j = c.self.inside.journal in
    let b = c.self.inside.blocks in
    let w : Found j.shape j.events b.table c.args.page c.in_ok-block.block = found j.shape j.events b.table b.queue c.args.page c.in_ok-block.block c.self.invariant (rw c.store.ensures at c.in_ok-block.ensures) in
    ap (λ (n : NodeState). has_page c.args.page (flight n.journal c.args.caller)) (sym c.self.view_is)
    ∙ flies_there j.shape j.events b.table b.queue c.args.caller c.args.page c.in_ok-block.block c.self.invariant w (((rw c.store-2.ensures at c.is_in_batch.ensures) w.slot w.at).0 c.if-is_in_batch.true)

pub returns-else-is_in_batch-clause-none : goal.returns-else-is_in_batch-clause-none
returns-else-is_in_batch-clause-none g c =
    let j = c.self.inside.journal in
    let b = c.self.inside.blocks in
    let w : Found j.shape j.events b.table c.args.page c.in_ok-block.block = found j.shape j.events b.table b.queue c.args.page c.in_ok-block.block c.self.invariant (rw c.store.ensures at c.in_ok-block.ensures) in
    ap (λ (n : NodeState). has_page c.args.page (flight n.journal c.args.caller)) (sym c.self.view_is)
    ∙ flies_not_there j.shape j.events b.table b.queue c.args.caller c.args.page c.in_ok-block.block c.self.invariant w
    (λ e. let yes = ((rw c.store-2.ensures at c.is_in_batch.ensures) w.slot w.at).1 e in let no = c.if-is_in_batch.false in cc)

pub returns-in_err-block-clause-none : goal.returns-in_err-block-clause-none
returns-in_err-block-clause-none g c =
    let j = c.self.inside.journal in
    let b = c.self.inside.blocks in
    rw c.from_residual.ensures
    (ap (λ (n : NodeState). has_page c.args.page (flight n.journal c.args.caller)) (sym c.self.view_is)
    ∙ flies_nowhere j.shape j.events b.table b.queue c.args.caller c.args.page c.self.invariant (rw c.store.ensures at c.in_err-block.ensures))
