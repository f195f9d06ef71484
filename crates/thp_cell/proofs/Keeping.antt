-- A pass that keeps its node, and one that doesn't: what their seats know.
use Rattle.std.proofs.Common.{◌≡◌, ◌<◌, ◌≤◌, ℕ, Bool, true, false, List, [], ◌∷◌, refl, sym, ap, ◌∙◌, subst}
use Rattle.atomic_table.specs.Table.{rest}
use Rattle.atomic_table.specs.Lent.{seat_with}
use Rattle.thp_history.specs.Prelude.{IsLegal}
use Rattle.thp_node.specs.Prelude.{NodeState}
use Rattle.thp_cell.specs.Prelude.{ExtendsBy, AllBelow, at_front, keeping, locking, Follows, PassState, Place, returning_node, seat_front, pass_state, known_state, IsFree, IsIn, IsLocked, IsNumbered, HasTaken}
use Rattle.thp_cell.proofs.Fronts.{since_same}
use Rattle.thp_cell.proofs.Passes.{follows}

pub in_free : (keeps : Bool) (s : Place) → keeps ≡ false → IsIn keeps s → IsFree s
in_free keeps s is held = subst (λ b. IsIn b s) is held

pub in_kept : (keeps : Bool) (s : Place) → keeps ≡ true → IsIn keeps s → IsLocked s
in_kept keeps s is held = subst (λ b. IsIn b s) is held

-- a seat without the slot knows its front
pub free_state : (keeps : Bool) (s : Place) → s.me.1 ≡ [] → known_state keeps s ≡ pass_state keeps s
free_state keeps s none = ap (λ l. at_front (pass_state keeps s) (seat_front l s.me.0.front)) none

-- the seat of a pass that was p and keeps no node
pub returned : (keeps : Bool) (s : Place) (p : PassState) → known_state keeps s ≡ returning_node p → IsIn keeps s → IsFree s × (pass_state false s ≡ returning_node p)
returned keeps s p is held =
    let k : keeps ≡ false = ap (λ (x : PassState). x.keeps) is in
    let free = in_free keeps s k held in
    (free, sym (free_state false s free.no_slot) ∙ (ap (λ b. known_state b s) (sym k) ∙ is))

-- and one with the slot the node's journal
kept_front : (s : Place) (node : NodeState) → s.me.1 ≡ (0, node) ∷ [] → seat_front s.me.1 s.me.0.front ≡ node.journal
kept_front s node slot = ap (λ l. seat_front l s.me.0.front) slot

-- nothing changed for a pass that keeps its node
pub follows_kept : (keeps : Bool) (p : PassState) (s : Place) → known_state keeps s ≡ p → IsLocked s → Follows p p
follows_kept keeps p s is k =
    let lent = k.lent in
    let front = kept_front s lent.node lent.slot in
    let q = known_state keeps s in
    subst (λ (x : PassState). Follows x x) is (follows q q refl (since_same q.first q.end q.front) (subst (AllBelow s.me.0.callers) (sym front) k.known)
    (subst (IsLegal s.me.0.shape) (sym front) (subst (λ z. IsLegal z lent.node.journal) lent.shape lent.legal)))

-- a node that was taken may be kept
pub kept_of : (p : PassState) (s : Place) → HasTaken p s → IsLocked s
kept_of p s has =
    let is = sym has.same in record {
      lent = record {
        callers = subst (λ (q : PassState). q.first < q.end) is has.callers;
        inside = subst (λ (q : PassState). q.end ≤ q.callers) is has.inside;
        has_node = has.has_node;
        node = has.node;
        slot = has.slot;
        shape = has.shape ∙ ap (λ (q : PassState). q.shape) is;
        legal = has.legal;
        adds = subst (λ (q : PassState). ExtendsBy q.first q.end s.me.0.front has.node.journal) is has.adds;
      };
      known = subst (λ (q : PassState). AllBelow q.callers has.node.journal) is has.known;
    }

-- and its pass knows the node's journal
taken_state : (p : PassState) (s : Place) (has : HasTaken p s) → known_state true s ≡ at_front (keeping (locking p)) has.node.journal
taken_state p s has =
    ap (at_front (pass_state true s)) (kept_front s has.node has.slot) ∙ ap (λ (q : PassState). at_front (keeping q) has.node.journal) has.same

pub follows_taken : (p q : PassState) (s : Place) → p ≡ q → HasTaken p s → Follows (keeping (locking q)) (known_state true s)
follows_taken p q s is has =
    let r = keeping (locking p) in
    let legal : IsLegal p.shape has.node.journal = subst (λ z. IsLegal z has.node.journal) has.shape has.legal in
    let at : Follows r (at_front r has.node.journal) = follows r (at_front r has.node.journal) refl has.since has.known legal in
    subst (λ (x : PassState). Follows (keeping (locking x)) (known_state true s)) is (subst (Follows r) (sym (taken_state p s has)) at)

-- its numbers are what they were
pub numbered_taken : (first end : ℕ) (p : PassState) (s : Place) → IsNumbered first end p → HasTaken p s → IsNumbered first end (known_state true s)
numbered_taken first end p s n has =
    subst (IsNumbered first end) (sym (taken_state p s has)) record { first_is = n.first_is; end_is = n.end_is; few = n.few; order = n.order }

-- a node that was only looked at lies in its slot as it did
pub same_seat : (s : Place) (node : NodeState) → s.me.1 ≡ (0, node) ∷ [] → seat_with s 0 node ≡ s
same_seat s node slot = ap (λ (l : List (ℕ × NodeState)). record s { me = (s.me.0, l) }) (ap (λ (l : List (ℕ × NodeState)). (0, node) ∷ rest l) slot ∙ sym slot)
