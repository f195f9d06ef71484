use Rattle.std.proofs.Common.{subst}
use Rattle.thp_worker.specs.Prelude.{Held, OpenStay}
use Rattle.thp_worker.proofs.PartLaws.{held_joined, joined_left_open, joined_right_open}
use Rattle.thp_cell.specs.Prelude.{IsJoined}
use Rattle.thp_worker.proofs.node_pass.NodePass.join.Goals as goal

pub invariant_of-result : goal.invariant_of-result
invariant_of-result g c =
    let j = c.join.ensures in
    let adjacent = rw (← c.self.view_is, ← c.other.view_is) at c.requires.adjacent in
    held_joined _ _ c.other.inside.pass _ _ _ _ c.self.invariant (rw (← c.other.invariant.cell_is) at c.other.invariant) j.fronts j.left_batches j.right_batches adjacent c.in_ok-append.ensures.items

pub returns-clause-left_batches : goal.returns-clause-left_batches
returns-clause-left_batches g c =
    let now : Held = record { pass = c.join.result; batches = c.append.new.self.items } in
    subst (λ (x : Held). OpenStay x now) c.self.view_is (joined_left_open _ _ _ _ _ _ _ c.self.invariant c.join.ensures.fronts c.in_ok-append.ensures.items)

pub returns-clause-right_batches : goal.returns-clause-right_batches
returns-clause-right_batches g c =
    let adjacent = rw (← c.self.view_is, ← c.other.view_is) at c.requires.adjacent in
    let now : Held = record { pass = c.join.result; batches = c.append.new.self.items } in
    subst (λ (x : Held). OpenStay x now) c.other.view_is (joined_right_open _ _ _ _ _ _ _ c.self.invariant c.join.ensures.fronts adjacent c.in_ok-append.ensures.items)

pub returns-clause-passes : goal.returns-clause-passes
returns-clause-passes g c =
    subst (λ (x : Held). IsJoined x.pass c.args.other.pass c.join.result) c.self.view_is
    (subst (λ (y : Held). IsJoined c.self.inside.pass y.pass c.join.result) c.other.view_is c.join.ensures.fronts)
