use Rattle.std.proofs.Common.{[], sym, subst}
use Rattle.thp_history.specs.declared.shape.Shape.{Shape}
use Rattle.thp_history.specs.Prelude.{History}
use Rattle.thp_live_pages.specs.Prelude.{IsNode}
use Rattle.thp_live_pages.proofs.Starting.{node_none}
use Rattle.thp_node.proofs.node.Node.with_recorder.Goals as goal

pub invariant_of-result : goal.invariant_of-result
invariant_of-result g c =
    let b = c.in-Ok.blocks in
    let P : History → Type 0 = λ h. IsNode c.in-Ok-new.journal.shape h b.table b.queue in
    let Q : Shape → Type 0 = λ s. IsNode s [] b.table b.queue in
    subst P (sym c.in-Ok-new.ensures.events)
    (subst Q (sym c.in-Ok-new.ensures.shape) (node_none c.args.shape b.table b.queue c.in-Ok.ensures.size c.in-Ok.ensures.order c.in-Ok.ensures.empty c.in-Ok.ensures.queue))
