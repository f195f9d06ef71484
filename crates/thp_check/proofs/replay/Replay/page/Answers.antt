use Rattle.std.proofs.Common.{◌&&◌, nat_lt, ap, sym, ◌∙◌, is_some}
use Rattle.thp_history.specs.Prelude.{is_live, is_used, pins, whole, is_held, is_split_candidate, set_of, subpages, is_worth_split, is_zero_filled}
use Rattle.thp_history.proofs.Tallying.{pins_is, whole_is}
use Rattle.thp_live_pages.proofs.Worth.{worth_is}
use Rattle.thp_check.specs.Prelude.{NodeState, Replayed}
use Rattle.thp_check.proofs.Showing.{seen, unseen, shrinks_is, used_is, zero_is, frames_are}
use Rattle.thp_check.proofs.replay.Replay.page.Goals as goal

pub returns-in_err-block-clause-live : goal.returns-in_err-block-clause-live
returns-in_err-block-clause-live c =
    let i = c.self.inside in
    let same = c.table-table.ensures ∙ ap (λ (r : NodeState). r.places.table) c.deref.ensures in
    rw c.from_residual.ensures (sym (unseen i.state.value.shape i.past i.state.value c.self.invariant.0 c.table-table.result.now same c.args.page c.in_err-block.ensures.absent) ∙ ap (λ (r : Replayed). is_live r.history c.args.page) c.self.view_is)

pub returns-clause-live : goal.returns-clause-live
returns-clause-live c =
    let i = c.self.inside in
    let same = c.table-table.ensures ∙ ap (λ (r : NodeState). r.places.table) c.deref.ensures in
    let k = seen i.state.value.shape i.past i.state.value c.self.invariant.0 c.table-table.result.now same c.args.page c.in_ok-block.block c.in_ok-block.ensures.found c.in-Some.state.now c.in-Some.ensures.page in
    sym k.0 ∙ ap (λ (r : Replayed). is_live r.history c.args.page) c.self.view_is

pub of-requires : goal.of-requires
of-requires c = λ split.
    let i = c.self.inside in
    let same = c.table-table.ensures ∙ ap (λ (r : NodeState). r.places.table) c.deref.ensures in
    let k = seen i.state.value.shape i.past i.state.value c.self.invariant.0 c.table-table.result.now same c.args.page c.in_ok-block.block c.in_ok-block.ensures.found c.in-Some.state.now c.in-Some.ensures.page in
    k.1.freed_zero_frames split ∙ shrinks_is i.state.value.shape ∙ ap (λ (r : NodeState). is_some r.shape.underused) (sym c.deref-2.ensures)

pub returns-clause-worth : goal.returns-clause-worth
returns-clause-worth c =
    let i = c.self.inside in
    let same = c.table-table.ensures ∙ ap (λ (r : NodeState). r.places.table) c.deref.ensures in
    let k = seen i.state.value.shape i.past i.state.value c.self.invariant.0 c.table-table.result.now same c.args.page c.in_ok-block.block c.in_ok-block.ensures.found c.in-Some.state.now c.in-Some.ensures.page in
    c.of.ensures.worth ∙ ap (λ (r : NodeState). is_split_candidate r.shape.underused c.in-Some.state.now) c.deref-2.ensures ∙ worth_is i.state.value.shape i.past c.args.page c.in-Some.state.now k.1
    ∙ ap (λ (r : Replayed). is_worth_split r.shape r.history c.args.page) c.self.view_is

pub returns-clause-pins : goal.returns-clause-pins
returns-clause-pins c =
    let i = c.self.inside in
    let same = c.table-table.ensures ∙ ap (λ (r : NodeState). r.places.table) c.deref.ensures in
    let k = seen i.state.value.shape i.past i.state.value c.self.invariant.0 c.table-table.result.now same c.args.page c.in_ok-block.block c.in_ok-block.ensures.found c.in-Some.state.now c.in-Some.ensures.page in
    c.of.ensures.pins ∙ sym (pins_is i.state.value.shape i.past c.args.page c.in-Some.state.now k.1)
    ∙ ap (λ (r : Replayed). pins r.history c.args.page) c.self.view_is

pub returns-clause-whole : goal.returns-clause-whole
returns-clause-whole c =
    let i = c.self.inside in
    let same = c.table-table.ensures ∙ ap (λ (r : NodeState). r.places.table) c.deref.ensures in
    let k = seen i.state.value.shape i.past i.state.value c.self.invariant.0 c.table-table.result.now same c.args.page c.in_ok-block.block c.in_ok-block.ensures.found c.in-Some.state.now c.in-Some.ensures.page in
    c.of.ensures.whole ∙ sym (whole_is i.state.value.shape i.past c.args.page c.in-Some.state.now k.1)
    ∙ ap (λ (r : Replayed). whole r.history c.args.page) c.self.view_is

pub returns-clause-used : goal.returns-clause-used
returns-clause-used c =
    let i = c.self.inside in
    let same = c.table-table.ensures ∙ ap (λ (r : NodeState). r.places.table) c.deref.ensures in
    let k = seen i.state.value.shape i.past i.state.value c.self.invariant.0 c.table-table.result.now same c.args.page c.in_ok-block.block c.in_ok-block.ensures.found c.in-Some.state.now c.in-Some.ensures.page in
    c.of.ensures.used ∙ used_is i.state.value.shape i.past c.args.page c.in-Some.state.now k.1 k.0
    ∙ ap (λ (r : Replayed). set_of (λ n. nat_lt n (subpages r.shape) && is_used r.history c.args.page n)) c.self.view_is

pub returns-clause-zero : goal.returns-clause-zero
returns-clause-zero c =
    let i = c.self.inside in
    let same = c.table-table.ensures ∙ ap (λ (r : NodeState). r.places.table) c.deref.ensures in
    let k = seen i.state.value.shape i.past i.state.value c.self.invariant.0 c.table-table.result.now same c.args.page c.in_ok-block.block c.in_ok-block.ensures.found c.in-Some.state.now c.in-Some.ensures.page in
    c.of.ensures.zero ∙ zero_is i.state.value.shape i.past c.args.page c.in-Some.state.now k.1 k.0
    ∙ ap (λ (r : Replayed). set_of (λ n. nat_lt n (subpages r.shape) && is_zero_filled r.history c.args.page n)) c.self.view_is

pub returns-clause-held : goal.returns-clause-held
returns-clause-held c =
    let i = c.self.inside in
    let same = c.table-table.ensures ∙ ap (λ (r : NodeState). r.places.table) c.deref.ensures in
    let k = seen i.state.value.shape i.past i.state.value c.self.invariant.0 c.table-table.result.now same c.args.page c.in_ok-block.block c.in_ok-block.ensures.found c.in-Some.state.now c.in-Some.ensures.page in
    c.of.ensures.held ∙ frames_are i.state.value.shape i.past c.args.page c.in-Some.state.now k.1 k.0
    ∙ ap (λ (r : Replayed). set_of (is_held r.shape r.history c.args.page)) c.self.view_is
