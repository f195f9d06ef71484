use Rattle.std.proofs.Common.{arith}
use Rattle.thp_worker.proofs.PartLaws.{held_below, held_from}
use Rattle.thp_worker.proofs.node_pass.NodePass.split.Goals as goal

pub invariant_of-result : goal.invariant_of-result
invariant_of-result g c =
    let after = rw (← c.self.view_is) at c.requires.after in
    let before = rw (← c.self.view_is) at c.requires.before in
    rw (c.split-left.ensures.left, c.in_ok-rest.ensures.items) (held_below _ _ _ c.args.at _ c.self.invariant (omega (arith, after, c.callers-first.ensures.first)) (omega (arith, before)))

pub invariant_of-result-2 : goal.invariant_of-result-2
invariant_of-result-2 g c =
    let after = rw (← c.self.view_is) at c.requires.after in
    let before = rw (← c.self.view_is) at c.requires.before in
    rw (c.split-left.ensures.right, c.in_ok-rest.ensures.tail) (held_from _ _ _ c.args.at _ c.self.invariant (omega (arith, after, c.callers-first.ensures.first)) (omega (arith, before)))
