-- The node is in the slot at the end, and its journal is the pass's front.
use Rattle.std.proofs.Common.{◌≡◌, ◌∙◌, ◌<◌, arith, subst, ap, sym, false, All}
use Rattle.std.proofs.lemmas.List.Elements.{All-weaker}
use Rattle.thp_history.specs.declared.events.Event.{Event}
use Rattle.thp_history.specs.Prelude.{events_of}
use Rattle.thp_node.specs.Prelude.{NodeState}
use Rattle.thp_cell.specs.Prelude.{IsOwn, returning_node, SeatIsWhole, PassState, HasAll, Place, pass_state}
use Rattle.thp_cell.proofs.Ending.{EndsWith, ends}
use Rattle.thp_cell.proofs.Keeping.{returned}
use Rattle.thp_cell.proofs.cell.NodeCell.finish.Goals as goal

-- the node at the end, by the pass
record EndsPass (p : PassState) (node : NodeState) : Type 0 where
  shape : node.shape ≡ p.shape
  journal : node.journal ≡ p.front
  callers : All (λ (e : Event). e.caller < p.callers) node.journal

ends_pass : (p : PassState) (s : Place) (node : NodeState) → pass_state false s ≡ p → HasAll p → EndsWith s.me.0 node → EndsPass p node
ends_pass p s node is all e = subst (λ x. EndsPass x node) is record {
  shape = e.shape;
  journal = e.journal;
  callers = All-weaker (IsOwn s.me.0.first s.me.0.end) (λ (x : Event). x.caller < s.me.0.callers)
      (λ x own. let last : s.me.0.end ≡ s.me.0.callers = (subst HasAll (sym is) all).to in let under = own.1 in omega arith) node.journal e.callers;
}

is_whole : (p : PassState) (s : Place) → pass_state false s ≡ p → HasAll p → SeatIsWhole s.me.0
is_whole p s is all = let whole = subst HasAll (sym is) all in record { from = whole.from; to = whole.to }

pub returns : goal.returns
returns g c =
    let s = c.pass.inside.seat in
    let seat = returned c.pass.inside.keeps s c.args.pass (c.pass.view_is ∙ c.return_node.ensures) c.pass.invariant.1 in
    let free = seat.0 in
    let is = seat.1 in
    let all : HasAll (returning_node c.args.pass) = record { from = c.requires.all.from; to = c.requires.all.to } in
    let t = ends _ _ _ s.me.0 _ _ _ free.no_node free.callers (is_whole _ s is all) c.close_with-closed.ensures.values.2 c.take-node.ensures.value in
    let e = ends_pass (returning_node c.args.pass) s c.take-node.result is all t in record {
      shape = e.shape;
      journal = e.journal;
      legal = t.legal;
      parts = λ k. ap (events_of k) e.journal;
      callers = e.callers;
      oldest = c.laws.ensures.oldest;
      once = c.laws.ensures.once;
      whole = c.laws.ensures.whole;
      freed = c.laws.ensures.freed;
      closed = c.laws.ensures.closed;
      frames = c.laws.ensures.frames;
      sum = c.laws.ensures.sum;
    }
