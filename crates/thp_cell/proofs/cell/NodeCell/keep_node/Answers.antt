-- The node that was taken is kept.
use Rattle.thp_cell.proofs.Keeping.{kept_of, follows_taken, numbered_taken}
use Rattle.thp_cell.proofs.cell.NodeCell.keep_node.Goals as goal

pub invariant_of-pass-2 : goal.invariant_of-pass-2
invariant_of-pass-2 g c =
    let has = c.begin_call.ensures.took c.if-not-begin_call.false in
    (numbered_taken _ _ _ c.begin_call.new.seat c.pass.invariant.0 has, kept_of _ c.begin_call.new.seat has)

pub returns-clause-follows : goal.returns-clause-follows
returns-clause-follows g c = follows_taken _ _ c.begin_call.new.seat c.pass.view_is (c.begin_call.ensures.took c.if-not-begin_call.false)
