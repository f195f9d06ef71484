-- The join of two seats and the load after it keep the rule, and show that both fronts begin the new one.
use Rattle.std.proofs.Common.{rules, arith, ap, subst, sym, ◌∙◌, ◌≡◌, ◌≤◌, ◌<◌, [], false}
use Rattle.thp_history.specs.Prelude.{IsLegal}
use Rattle.thp_cell.specs.Prelude.{SeatValue, PassState, returning_node, IsJoined, known_state, pass_state}
use Rattle.thp_cell.proofs.Keeping.{free_state, returned}
use Rattle.thp_cell.proofs.Locking.{looks_at}
use Rattle.thp_cell.proofs.Passes.{joined_pass, joined_left, joined_right, batches_stay_on}
use Rattle.thp_cell.proofs.Splitting.{joins}
use Rattle.thp_cell.proofs.cell.NodeCell.join.Goals as goal

pub join_seat-requires : goal.join_seat-requires
join_seat-requires g c =
    let s = returned c.joined.inside.keeps c.joined.inside.seat c.args.left (c.joined.view_is ∙ c.return_node.ensures) c.joined.invariant.1 in
    let t = returned c.other.inside.keeps c.other.inside.seat c.args.right (c.other.view_is ∙ c.return_node-2.ensures) c.other.invariant.1 in
    let free = s.0 in
    let free' = t.0 in
    let l : c.joined.inside.seat.me.0.end ≡ c.other.inside.seat.me.0.first = ap (λ (x : PassState). x.end) s.1 ∙ (c.requires.adjacent ∙ sym (ap (λ (x : PassState). x.first) t.1)) in
    (search rules, search rules, free'.no_slot, search rules, joins _ _ _ _ _ _ free.no_node free'.no_node free.callers free'.callers l)

pub load-requires : goal.load-requires
load-requires g c =
    let s = returned c.joined.inside.keeps c.joined.inside.seat c.args.left (c.joined.view_is ∙ c.return_node.ensures) c.joined.invariant.1 in
    let t = returned c.other.inside.keeps c.other.inside.seat c.args.right (c.other.view_is ∙ c.return_node-2.ensures) c.other.invariant.1 in
    let free = s.0 in
    let free' = t.0 in
    let l : c.joined.inside.seat.me.0.end ≡ c.other.inside.seat.me.0.first = ap (λ (x : PassState). x.end) s.1 ∙ (c.requires.adjacent ∙ sym (ap (λ (x : PassState). x.first) t.1)) in
    let e = c.join_seat.ensures.2 in
    let a : c.join_seat.new.seat.me.0.first ≡ c.joined.inside.seat.me.0.first = ap (λ (m : SeatValue). m.0.first) e in
    let z : c.join_seat.new.seat.me.0.end ≡ c.other.inside.seat.me.0.end = ap (λ (m : SeatValue). m.0.end) e in
    let before = free.callers in
    let after = free'.callers in
    (search rules, search rules, looks_at _ _ _ _ _ (ap (λ (m : SeatValue). m.1) e ∙ free.no_slot) (ap (λ (m : SeatValue). m.0.has_node) e) (omega arith))

-- what the load shows of the three passes
pub returns : goal.returns
returns g c =
    let s = c.joined.inside.seat in
    let t = c.other.inside.seat in
    let seat = returned c.joined.inside.keeps s c.args.left (c.joined.view_is ∙ c.return_node.ensures) c.joined.invariant.1 in
    let seat' = returned c.other.inside.keeps t c.args.right (c.other.view_is ∙ c.return_node-2.ensures) c.other.invariant.1 in
    let p = c.args.left in
    let q = c.args.right in
    let r = known_state c.joined.inside.keeps c.load.new.seat in
    let left : pass_state false s ≡ returning_node p = seat.1 in
    let right : pass_state false t ≡ returning_node q = seat'.1 in
    let none : c.load.new.seat.me.1 ≡ [] = ap (λ (m : SeatValue). m.1) c.load.ensures.2.now ∙ (ap (λ (m : SeatValue). m.1) c.join_seat.ensures.2 ∙ seat.0.no_slot) in
    let known : r ≡ pass_state false c.load.new.seat = ap (λ b. known_state b c.load.new.seat) (ap (λ (x : PassState). x.keeps) (c.joined.view_is ∙ c.return_node.ensures)) ∙ free_state false c.load.new.seat none in
    let seats : IsJoined (pass_state false s) (pass_state false t) r = subst (IsJoined (pass_state false s) (pass_state false t)) (sym known) (joined_pass false false s t c.load.new.seat c.join_seat.new.seat.me _ c.join_seat.ensures.2 (c.load.ensures.0 ∙ c.join_seat.ensures.0) c.load.ensures.2.now c.load.ensures.2.both) in
    let both : IsJoined (returning_node p) (returning_node q) r = subst (λ (x : PassState × PassState). IsJoined x.0 x.1 r) (λ i. (left i, right i)) seats in
    let j : IsJoined p q r = record { callers = both.callers; longer = both.longer; left = both.left; right = both.right } in
    let legal : IsLegal r.shape r.front = subst (λ (x : PassState). IsLegal x.shape x.front) (sym known) (subst (λ (m : SeatValue). IsLegal m.0.shape m.0.front) (sym c.load.ensures.2.now) c.load.ensures.2.legal) in
    let inside : r.end ≤ r.callers = subst (λ (m : SeatValue). m.0.end ≤ m.0.callers) (sym c.load.ensures.2.now) c.load.ensures.2.inside in
    let first : r.first ≡ p.first = ap (λ (x : PassState). x.first) j.callers in
    let end : r.end ≡ q.end = ap (λ (x : PassState). x.end) j.callers in
    let mid : p.end ≡ q.first = c.requires.adjacent in
    let some : p.first < p.end = subst (λ (x : PassState). x.first < x.end) left seat.0.callers in
    let more : q.first < q.end = subst (λ (x : PassState). x.first < x.end) right seat'.0.callers in
    record {
      fronts = j;
      inside = inside;
      legal = legal;
      left_callers = λ k has. let a = has.from in let z = has.below in record { from = omega arith; below = omega arith };
      right_callers = λ k has. let a = has.from in let z = has.below in record { from = omega arith; below = omega arith };
      left_parts = joined_left p q r j;
      right_parts = joined_right p q r j;
      left_batches = batches_stay_on r.shape p r j.left legal;
      right_batches = batches_stay_on r.shape q r j.right legal;
    }
