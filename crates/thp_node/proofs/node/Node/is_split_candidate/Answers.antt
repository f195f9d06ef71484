use Rattle.std.proofs.Common.{ap, sym, ◌∙◌}
use Rattle.thp_history.specs.Prelude.{is_split_candidate, is_worth_split}
use Rattle.thp_node.specs.Prelude.{NodeState}
use Rattle.thp_node.proofs.BatchRuns.{flies_inside, worth_there}
use Rattle.thp_node.proofs.node.Node.is_split_candidate.Goals as goal

pub returns-clause-worth : goal.returns-clause-worth
returns-clause-worth g c = λ caller p flies.
    let j = c.self.inside.journal in
    let w = flies_inside _ c.args.self.now caller p c.args.block c.self.view_is flies in
    (rw c.store.ensures at c.is_split_candidate.ensures) w.slot w.at ∙ ap (λ s. is_split_candidate s.underused w.slot.page) c.shape.ensures.value
    ∙ sym (worth_there j.shape j.events caller p c.args.block c.self.inside.blocks c.self.invariant w)
    ∙ ap (λ (n : NodeState). is_worth_split n.shape n.journal p) c.self.view_is
