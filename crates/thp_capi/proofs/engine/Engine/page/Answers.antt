-- What the table has of the page is what the journal determines.
use Rattle.std.proofs.Common.{◌∙◌, ap, sym}
use Rattle.thp_history.specs.Prelude.{is_live}
use Rattle.thp_capi.specs.Engines.{EngineState}
use Rattle.thp_capi.specs.Reading.{page_state_of}
use Rattle.thp_capi.proofs.Reading.{at_block, page_is, standing_is, state_is, unseen}
use Rattle.thp_capi.proofs.engine.Engine.page.Goals as goal

pub returns-in_default-clause-gone : goal.returns-in_default-clause-gone
returns-in_default-clause-gone g c =
    let t = c.table-table.ensures in
    ap (λ (e : EngineState). is_live e.node.journal c.args.page) (sym c.self.view_is) ∙ unseen c.self.inside.node _ t.value t.live c.args.page c.in_default.ensures.absent

pub returns-clause-live : goal.returns-clause-live
returns-clause-live g c =
    let t = c.table-table.ensures in
    let w = at_block c.self.inside.node _ t.value t.slots t.homes c.args.page c.in-Some.block c.in-Some.ensures.found in
    ap (λ (e : EngineState). is_live e.node.journal c.args.page) (sym c.self.view_is) ∙ w.live

pub returns-clause-state : goal.returns-clause-state
returns-clause-state g c =
    let n = c.self.inside.node in
    let t = c.table-table.ensures in
    let w = at_block n _ t.value t.slots t.homes c.args.page c.in-Some.block c.in-Some.ensures.found in
    let x = c.in-Some-page.state.now in
    let o = c.of.ensures in
    state_is n c.args.page x c.standing-standing.result c.of.result (page_is n _ c.args.page c.in-Some.block w x c.in-Some-page.ensures.page)
    (standing_is n _ c.args.page c.in-Some.block w c.standing-standing.result c.standing-standing.ensures) o.whole o.pins o.partly o.split o.list o.caller
    ∙ ap (λ (e : EngineState). page_state_of e.node c.args.page) c.self.view_is
