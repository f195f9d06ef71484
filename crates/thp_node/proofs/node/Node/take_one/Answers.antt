use Rattle.std.proofs.Common.{◌||◌, ap, sym, ◌∙◌, slice_get}
use Rattle.thp_history.specs.declared.events.What.TheVariants.{Taken}
use Rattle.thp_history.specs.Prelude.{by, FitsTaken, queue, flight, no_pages, is_taking}
use Rattle.thp_node.specs.Prelude.{NodeState}
use Rattle.thp_node.proofs.BatchRuns.{node_recorded}
use Rattle.thp_live_pages.proofs.Homing.{legal_homed}
use Rattle.thp_live_pages.proofs.ListEvents.{first_is, taken_fits, taken_node}
use Rattle.thp_node.proofs.node.Node.take_one.Goals as goal

pub record-requires-clause-fits : goal.record-requires-clause-fits
record-requires-clause-fits g c =
    let j = c.self.inside.journal in
    taken_fits j.shape j.events c.args.caller c.self.inside.blocks c.take_first-page.new.self c.take_first-page.result (legal_homed j.shape j.events c.self.invariant.legal) c.self.invariant c.take_first-page.ensures
    (ap (λ (n : NodeState). no_pages (flight n.journal c.args.caller) || is_taking n.journal c.args.caller) c.self.view_is ∙ c.requires.may_take)

pub invariant_of-self : goal.invariant_of-self
invariant_of-self g c =
    let j = c.self.inside.journal in
    let homed = legal_homed j.shape j.events c.self.invariant.legal in
    let fits : FitsTaken j.shape j.events c.args.caller c.take_first-page.result =
    taken_fits j.shape j.events c.args.caller c.self.inside.blocks c.take_first-page.new.self c.take_first-page.result homed c.self.invariant c.take_first-page.ensures
    (ap (λ (n : NodeState). no_pages (flight n.journal c.args.caller) || is_taking n.journal c.args.caller) c.self.view_is ∙ c.requires.may_take) in
    node_recorded c.record.new.self.shape j.shape c.record.new.self.events j.events (by c.args.caller (Taken c.take_first-page.result)) c.take_first-page.new.self
    c.record.ensures.shape c.record.ensures.events
    (taken_node j.shape j.events c.args.caller c.self.inside.blocks c.take_first-page.new.self c.take_first-page.result homed c.self.invariant c.take_first-page.ensures fits)

pub returns-clause-oldest : goal.returns-clause-oldest
returns-clause-oldest g c =
    let j = c.self.inside.journal in
    ap (λ (n : NodeState). slice_get (queue n.shape n.journal) 0) (sym c.self.view_is)
    ∙ first_is j.shape j.events c.args.caller c.self.inside.blocks c.take_first-page.new.self c.take_first-page.result (legal_homed j.shape j.events c.self.invariant.legal) c.self.invariant c.take_first-page.ensures
