use Rattle.std.proofs.Common.{◌∙◌, ap, arith, sym}
use Rattle.thp_links.proofs.Members.{Contains-from_first}
use Rattle.thp_links.proofs.OneTable.{Stands-inside}
use Rattle.thp_metrics.specs.Prelude.{first_since}
use Rattle.thp_metrics.proofs.Arriving.{first_is}
use Rattle.thp_metrics.proofs.arrivals.Arrivals.first.Goals as goal

pub index-requires : goal.index-requires
index-requires c =
    let i = c.self.inside in
    omega (arith, Stands-inside c.in_ok-block.block c.self.invariant.stands (Contains-from_first i.order c.in_ok-block.block (sym c.front.ensures ∙ c.in_ok-block.was)), c.self.invariant.sizes, i.since.ok.0)

pub returns : goal.returns
returns c =
    let i = c.self.inside in
    first_is i.order i.since.items c.in_ok-block.block c.index.result.now (sym c.front.ensures ∙ c.in_ok-block.was)
    (omega (arith, Stands-inside c.in_ok-block.block c.self.invariant.stands (Contains-from_first i.order c.in_ok-block.block (sym c.front.ensures ∙ c.in_ok-block.was)), c.self.invariant.sizes))
    c.index.ensures
    ∙ ap first_since c.self.view_is
