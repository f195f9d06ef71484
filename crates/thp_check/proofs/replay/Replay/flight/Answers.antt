use Rattle.std.proofs.Common.{◌≡◌, ℕ, List, ap, ◌∙◌, subst, IfOk}
use Rattle.thp_history.specs.Prelude.{flight}
use Rattle.thp_check.specs.Prelude.{NodeState, blocks_in, Replayed}
use Rattle.thp_check.proofs.Showing.{each_of, pages_are}
use Rattle.thp_check.proofs.replay.Replay.flight.Goals as goal

abbrev flying : ℕ → NodeState → List ℕ
flying c r = blocks_in r.flights c

pub pages_of-requires : goal.pages_of-requires
pages_of-requires c =
    let i = c.self.inside in
    let m = c.self.invariant.0 in
    each_of i.state.value.shape i.past i.state.value m (flying c.args.caller) (flight i.past c.args.caller) (m.kept.flying c.args.caller) c.deref.result.now c.deref-2.result.now c.deref.ensures c.deref-2.ensures c.in_ok-blocks.blocks.items c.deref-3.result.now c.in_ok-blocks.ensures c.deref-3.ensures.value

pub returns : goal.returns
returns c =
    let i = c.self.inside in
    let m = c.self.invariant.0 in
    let P : List ℕ → Type 0 = λ ps. IfOk c.pages_of.result (λ pages. pages.items ≡ ps) in
    subst P
    (pages_are i.state.value.shape i.past i.state.value m (flying c.args.caller) (flight i.past c.args.caller) (m.kept.flying c.args.caller) c.deref.result.now c.deref-2.result.now c.deref.ensures c.deref-2.ensures c.in_ok-blocks.blocks.items c.deref-3.result.now c.in_ok-blocks.ensures c.deref-3.ensures.value
    ∙ ap (λ (r : Replayed). flight r.history c.args.caller) c.self.view_is)
    c.pages_of.ensures
