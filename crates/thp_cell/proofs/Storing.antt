-- The store that ends a hold keeps the rule: the node is in the slot again, with the events of the hold.
use Rattle.std.proofs.Common.{◌≡◌, inr, ℕ, ◌*◌, ◌^◌, ◌<◌, true, false, List, [], ◌∷◌, set, length, refl, sym, ap, ◌∙◌, subst, arith, true≢false, cond, sum_by}
use Rattle.std.proofs.lemmas.List.Elements.{All-nil}
use mathlib.Core.Option.{some, none}
use Rattle.atomic_table.specs.Table.{gives, rest, step, Allows}
use Rattle.thp_history.specs.declared.shape.Shape.{Shape}
use Rattle.thp_history.specs.Prelude.{IsLegal, queue}
use Rattle.thp_node.specs.Prelude.{NodeState}
use Rattle.thp_cell.specs.Prelude.{SeatKnowledge, ExtendsBy, holding, RuleHolds, Place, IsFree, IsLent, HasSlot, SeatValue, seat_with_front, Stored}
use Rattle.thp_cell.proofs.Fronts.{since_same}
use Rattle.thp_cell.proofs.Sums.{sum_set, share_of_one}
use Rattle.thp_cell.proofs.Seating.{reseated}

-- a slot's node is the one that was put there
pub same_node : (x y : NodeState) → ◌≡◌ {A = List (ℕ × NodeState)} ((0, x) ∷ []) ((0, y) ∷ []) → x ≡ y
same_node x y e = grind arith

module _ (n : ℕ) (s : Shape) where
  stores : (slots id : ℕ) (v : SeatKnowledge) (node : NodeState) (new : ℕ) → v.has_node ≡ true → v.first < v.end → node.shape ≡ v.shape → IsLegal node.shape node.journal → length (queue node.shape node.journal) < 2 ^ 32
      → new ≡ 2 * length (queue node.shape node.journal) → ExtendsBy v.first v.end v.front node.journal
      → Allows (RuleHolds n s) slots id (v, (0, node) ∷ []) 0 (λ _. new) (λ _. Stored (step slots 0 new 0 none) (v, (0, node) ∷ []) new)
  stores slots id v node new mine live shape legal short is adds t r wide at small =
      let was = (r.seats id v at).knows live in
      let few = r.home.one_at_most in
      let one_mine : holding v ≡ 1 = ap (λ b. cond b 1 0) mine in
      let least = share_of_one holding t.views id v at in
      let out : sum_by holding t.views ≡ 1 = omega arith in
      let w : SeatKnowledge = seat_with_front v false node.journal in
      let sum = sum_set holding t.views id v w at in
      let now : sum_by holding (set t.views id w) ≡ 0 = omega arith in
      let shape' : node.shape ≡ s = shape ∙ was.shape in
      let short' : length (queue s node.journal) < 2 ^ 32 = subst (λ z. length (queue z node.journal) < 2 ^ 32) shape' short in
      let is' : new ≡ 2 * length (queue s node.journal) = subst (λ z. new ≡ 2 * length (queue z node.journal)) shape' is in (
        w,
        gives,
        tt,
        reseated n s t r id v w node.journal (set t.words 0 new) (set t.homes 0 (some node)) at (inr (mine, subst (λ l. ExtendsBy v.first v.end l node.journal) (was.at_node mine) adds)) refl refl live
            (subst (λ z. IsLegal z node.journal) shape' legal) short'
            (ap (λ l. set l 0 new) r.word ∙ ap (λ (y : ℕ). y ∷ []) (omega arith))
            record {
              one_at_most = omega arith;
              in_slot = λ _. record { node = node; at_home = ap (λ l. set l 0 (some node)) (r.home.out out); shape = shape'; journal = refl };
              out = λ one_now. absurd (omega arith);
            }
            record {
              lives = λ e. absurd (true≢false (sym e));
              knows = λ _. record {
                callers = was.callers;
                shape = was.shape;
                inside = was.inside;
                since = since_same v.first v.end node.journal;
                old_fronts = All-nil _;
                at_node = λ e. absurd (true≢false (sym e));
              };
            },
        λ other e. ap (λ (x : NodeState). (seat_with_front v false x.journal, [])) (same_node node other e),
      )

  -- the same, of a seat that is known by its parts: the node y is what its slot was read to have
  pub stores_at : (slots id : ℕ) (m : SeatValue) (node y : NodeState) (new : ℕ) → m.1 ≡ (0, node) ∷ [] → m.1 ≡ (0, y) ∷ [] → m.0.has_node ≡ true → m.0.first < m.0.end → node.shape ≡ m.0.shape
      → IsLegal node.shape node.journal → ExtendsBy m.0.first m.0.end m.0.front node.journal → length (queue y.shape y.journal) < 2 ^ 32 → new ≡ 2 * length (queue y.shape y.journal)
      → Allows (RuleHolds n s) slots id (m.0, (0, y) ∷ rest m.1) 0 (λ _. new) (λ _. Stored (step slots 0 new 0 none) (m.0, (0, y) ∷ rest m.1) new)
  stores_at slots id m node y new out read mine live shape legal adds short word =
      let none_left : rest m.1 ≡ [] = ap rest out in
      let same : node ≡ y = same_node node y (sym out ∙ read) in
      subst (λ (l : List (ℕ × NodeState)). Allows (RuleHolds n s) slots id (m.0, (0, y) ∷ l) 0 (λ _. new) (λ _. Stored (step slots 0 new 0 none) (m.0, (0, y) ∷ l) new)) (sym none_left)
      (subst (λ (z : NodeState). length (queue z.shape z.journal) < 2 ^ 32 → new ≡ 2 * length (queue z.shape z.journal) → Allows (RuleHolds n s) slots id (m.0, (0, z) ∷ []) 0 (λ _. new) (λ _. Stored (step slots 0 new 0 none) (m.0, (0, z) ∷ []) new)) same
      (λ few is. stores slots id m.0 node new mine live shape legal few is adds) short word)

-- the seat is free after the store
pub freed : (s u : Place) (lent : IsLent s) → u.me ≡ (seat_with_front s.me.0 false lent.node.journal, []) → IsFree u
freed s u lent e = grind arith

-- what the lending of a slot asks of the seat that has it
pub may_lend : (s : Place) → HasSlot s → (old : NodeState) × (s.me.1 ≡ (0, old) ∷ rest s.me.1)
may_lend s has = (has.node, has.slot ∙ ap (λ (l : List (ℕ × NodeState)). (0, has.node) ∷ rest l) (sym has.slot))
