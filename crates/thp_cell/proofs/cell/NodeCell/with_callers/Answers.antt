-- The rule holds of the new table.
use Rattle.std.proofs.Common.{rules, arith, refl, ◌≡◌, ◌*◌, ◌∷◌, [], ◌<◌, ◌≤◌, ℕ, false, List, length, subst, sym, ap, ◌∙◌}
use Rattle.atomic_table.specs.Table.{opening}
use Rattle.thp_node.specs.Prelude.{NodeState}
use Rattle.std.proofs.lemmas.List.Elements.{All-weaker}
use Rattle.thp_history.specs.declared.events.Event.{Event}
use Rattle.thp_history.specs.declared.shape.Shape.{Shape}
use Rattle.thp_history.specs.Prelude.{events_of, max_order}
use Rattle.thp_cell.specs.Prelude.{IsOwn, Place, RuleHolds, SeatValue, root, seat_front}
use Rattle.thp_cell.proofs.Ending.{opens}
use Rattle.thp_cell.proofs.cell.NodeCell.with_callers.Goals as goal

-- what the first seat of a cell knows
record Begins (callers : ℕ) (node : NodeState) (s : Place) : Type 0 where
  callers_are : s.me.0.callers ≡ callers
  first : s.me.0.first ≡ 0
  last : s.me.0.end ≡ callers
  shape : s.me.0.shape ≡ node.shape
  front : seat_front s.me.1 s.me.0.front ≡ node.journal
  known : s.me.0.front ≡ node.journal
  no_node : s.me.0.has_node ≡ false
  no_old_fronts : s.me.0.old_fronts ≡ []
  no_slot : s.me.1 ≡ []

begins : (callers : ℕ) (node reported : NodeState) (s : Place) → s.me ≡ (root callers reported, []) → reported ≡ node → Begins callers node s
begins callers node reported s is same = record {
  callers_are = ap (λ (m : SeatValue). m.0.callers) is;
  first = ap (λ (m : SeatValue). m.0.first) is;
  last = ap (λ (m : SeatValue). m.0.end) is;
  shape = ap (λ (m : SeatValue). m.0.shape) is ∙ ap (λ (n : NodeState). n.shape) same;
  front = ap (λ (m : SeatValue). seat_front m.1 m.0.front) is ∙ ap (λ (n : NodeState). n.journal) same;
  known = ap (λ (m : SeatValue). m.0.front) is ∙ ap (λ (n : NodeState). n.journal) same;
  no_node = ap (λ (m : SeatValue). m.0.has_node) is;
  no_old_fronts = ap (λ (m : SeatValue). m.0.old_fronts) is;
  no_slot = ap (λ (m : SeatValue). m.1) is;
}

pub new-requires : goal.new-requires
new-requires g c =
    let node = c.args.node in
    let callers : 0 < c.args.callers = omega arith in
    let only = All-weaker (λ (e : Event). e.caller < c.args.callers) (IsOwn 0 c.args.callers) (λ e below. (omega arith, below)) node.journal c.requires in
    let short = c.queue_len.type_inv in
    let reported : c.of.result.value ≡ node = search rules in
    let slots : c.push_reserved.new.self.items ≡ node ∷ [] = search rules in
    let kept = opens c.args.callers node.shape node refl callers c.laws.ensures.legal only (omega arith) (2 * c.from-word.result) (omega arith) in
    let P : NodeState × List NodeState → Type 0 = λ z. RuleHolds c.args.callers z.0.shape (opening (2 * c.from-word.result ∷ []) z.1 (root c.args.callers z.0)) in
    subst P (λ i. (sym reported i, sym slots i)) kept

pub returns-clause-callers : goal.returns-clause-callers
returns-clause-callers g c =
    let b : Begins c.args.callers c.args.node c.in-Ok-new.seat = begins c.args.callers c.args.node c.of.result.value c.in-Ok-new.seat c.in-Ok-new.ensures.ok.4 (search rules) in
    b.callers_are

pub returns-clause-all : goal.returns-clause-all
returns-clause-all g c =
    let b : Begins c.args.callers c.args.node c.in-Ok-new.seat = begins c.args.callers c.args.node c.of.result.value c.in-Ok-new.seat c.in-Ok-new.ensures.ok.4 (search rules) in
    record { from = b.first; to = b.last ∙ sym b.callers_are }

pub returns-clause-shape : goal.returns-clause-shape
returns-clause-shape g c =
    let b : Begins c.args.callers c.args.node c.in-Ok-new.seat = begins c.args.callers c.args.node c.of.result.value c.in-Ok-new.seat c.in-Ok-new.ensures.ok.4 (search rules) in
    b.shape

pub returns-clause-front : goal.returns-clause-front
returns-clause-front g c =
    let b : Begins c.args.callers c.args.node c.in-Ok-new.seat = begins c.args.callers c.args.node c.of.result.value c.in-Ok-new.seat c.in-Ok-new.ensures.ok.4 (search rules) in
    b.front

pub returns-clause-legal : goal.returns-clause-legal
returns-clause-legal g c =
    let b : Begins c.args.callers c.args.node c.in-Ok-new.seat = begins c.args.callers c.args.node c.of.result.value c.in-Ok-new.seat c.in-Ok-new.ensures.ok.4 (search rules) in
    rw (b.shape, b.front) c.laws.ensures.legal

pub returns-clause-parts : goal.returns-clause-parts
returns-clause-parts g c =
    let b : Begins c.args.callers c.args.node c.in-Ok-new.seat = begins c.args.callers c.args.node c.of.result.value c.in-Ok-new.seat c.in-Ok-new.ensures.ok.4 (search rules) in
    λ k. ap (events_of k) b.front

pub returns-clause-cell : goal.returns-clause-cell
returns-clause-cell g c = c.in-Ok-new.ensures.ok.2

pub returns-clause-free : goal.returns-clause-free
returns-clause-free g c = refl

pub invariant_of-pass : goal.invariant_of-pass
invariant_of-pass g c =
    let b : Begins c.args.callers c.args.node c.in-Ok-new.seat = begins c.args.callers c.args.node c.of.result.value c.in-Ok-new.seat c.in-Ok-new.ensures.ok.4 (search rules) in
    let order : c.args.node.shape.order ≤ max_order = search rules in (
      record { first_is = sym b.first; end_is = sym b.last; few = omega arith; order = subst (λ (s : Shape). s.order ≤ max_order) (sym b.shape) order },
      record {
        callers = omega (arith, b.first, b.last);
        inside = omega (arith, b.last, b.callers_are);
        no_node = b.no_node;
        no_old_fronts = b.no_old_fronts;
        no_slot = b.no_slot;
        legal = rw (b.shape, b.known) c.laws.ensures.legal;
      },
    )

pub invariant_of-result : goal.invariant_of-result
invariant_of-result g c =
    let slots : c.push_reserved.new.self.items ≡ c.args.node ∷ [] = search rules in
    (c.in-Ok-new.ensures.ok.0, c.in-Ok-new.ensures.ok.1 ∙ ap (λ (ns : List NodeState). length ns) slots)
