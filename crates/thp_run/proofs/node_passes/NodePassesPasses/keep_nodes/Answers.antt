use Rattle.std.proofs.Common.{◌∙◌, ap}
use Rattle.thp_run.specs.Passes.{fronts_in, fronts_of}
use Rattle.thp_run.proofs.EachLaws.{agree_of_all, kept_agree, kept_fronts}
use Rattle.thp_run.proofs.node_passes.NodePassesPasses.keep_nodes.Goals as goal

pub keep_each-requires : goal.keep_each-requires
keep_each-requires g c = agree_of_all _ _ _ _ (rw (← c.self.view_is) at c.requires) c.self.invariant

pub invariant_of-self : goal.invariant_of-self
invariant_of-self g c = rw c.keep_each.ensures (kept_agree _ _ _ _ c.self.invariant)

pub returns-clause-fronts : goal.returns-clause-fronts
returns-clause-fronts g c =
    let i = c.self.inside in
    ap (fronts_of i.callers i.first i.end) c.keep_each.ensures ∙ (kept_fronts i.callers i.first i.end i.nodes.items ∙ ap fronts_in c.self.view_is)
