-- Passes with their open batches, divided and joined.
use Rattle.std.proofs.Common.{◌≡◌, ◌∙◌, ◌⊎◌, ◌++◌, ◌+◌, ◌<◌, ◌≤◌, ℕ, zero, suc, List, [], ◌∷◌, length, take, drop, refl, sym, inl, inr, arith, length-append, length-drop, Option, Some, slice_get, nat_le, length-take}
use Rattle.std.proofs.lemmas.Bool.Decides.{nat_tests}
use Rattle.std.proofs.lemmas.Option.{slice_get_within}
use Rattle.atomic_table.specs.Seated.{TableId}
use Rattle.thp_node.specs.Prelude.{BatchState}
use Rattle.thp_cell.specs.Prelude.{BatchesStay, below, from, IsJoined, PassState}
use Rattle.thp_worker.specs.Prelude.{Held, IsHolding, OpenStay, batch_of, lower_part, upper_part}

module _ {A : Type 0} where
  slice_get-take : (xs : List A) (k i : ℕ) (x : A) → slice_get (take k xs) i ≡ Some x → slice_get xs i ≡ Some x
  slice_get-take [] zero i x e = e
  slice_get-take [] (suc k) i x e = e
  slice_get-take (y ∷ xs) zero i x e = absurd (cc)
  slice_get-take (y ∷ xs) (suc k) zero x e = e
  slice_get-take (y ∷ xs) (suc k) (suc i) x e = slice_get-take xs k i x e

  slice_get-drop : (xs : List A) (k i : ℕ) → slice_get (drop k xs) i ≡ slice_get xs (k + i)
  slice_get-drop xs zero i = let e : 0 + i ≡ i = omega arith in rw e refl
  slice_get-drop [] (suc k) i = refl
  slice_get-drop (y ∷ xs) (suc k) i = let e : suc k + i ≡ suc (k + i) = omega arith in rw e (slice_get-drop xs k i)

  slice_get-within_front : (xs : List A) (k i : ℕ) → i < k → slice_get (take k xs) i ≡ slice_get xs i
  slice_get-within_front xs zero i lt = absurd (omega (arith, lt))
  slice_get-within_front [] (suc k) i lt = refl
  slice_get-within_front (y ∷ xs) (suc k) zero lt = refl
  slice_get-within_front (y ∷ xs) (suc k) (suc i) lt = slice_get-within_front xs k i (omega (arith, lt))

  slice_get-append_left : (xs ys : List A) (i : ℕ) → i < length xs → slice_get (xs ++ ys) i ≡ slice_get xs i
  slice_get-append_left [] ys i lt = absurd (omega (arith, lt))
  slice_get-append_left (y ∷ xs) ys zero lt = refl
  slice_get-append_left (y ∷ xs) ys (suc i) lt = slice_get-append_left xs ys i (omega (arith, lt))

  slice_get-append_right : (xs ys : List A) (j : ℕ) → slice_get (xs ++ ys) (length xs + j) ≡ slice_get ys j
  slice_get-append_right [] ys j = let e : 0 + j ≡ j = omega arith in rw e refl
  slice_get-append_right (y ∷ xs) ys j = let e : suc (length xs) + j ≡ suc (length xs + j) = omega arith in rw e (slice_get-append_right xs ys j)

  slice_get-append : (xs ys : List A) (i : ℕ) (x : A) → slice_get (xs ++ ys) i ≡ Some x → (slice_get xs i ≡ Some x) ⊎ ((j : ℕ) × (i ≡ length xs + j) × (slice_get ys j ≡ Some x))
  slice_get-append [] ys i x e = inr (i, omega arith, e)
  slice_get-append (y ∷ xs) ys zero x e = inl e
  slice_get-append (y ∷ xs) ys (suc i) x e = elim (slice_get-append xs ys i x e) [ inl l ↦ inl l | inr r ↦ inr (r.0, omega (arith, r.1), r.2) ]

pub held_below : (cell : TableId) (p : PassState) (bs : List (Option BatchState)) (at k : ℕ) → IsHolding cell p bs → k + p.first ≡ at → at ≤ p.end → IsHolding cell (below p at) (take k bs)
held_below cell p bs at k held is le = record {
  cell_is = held.cell_is;
  callers = omega (arith, length-take k bs, held.callers, is, le);
  each = λ i b e. held.each i b (slice_get-take bs k i (Some b) e);
}

pub held_from : (cell : TableId) (p : PassState) (bs : List (Option BatchState)) (at k : ℕ) → IsHolding cell p bs → k + p.first ≡ at → at ≤ p.end → IsHolding cell (from p at) (drop k bs)
held_from cell p bs at k held is le = record {
  cell_is = held.cell_is;
  callers = omega (arith, length-drop k bs, held.callers, is, le);
  each = λ i b e. let was = held.each (k + i) b (sym (slice_get-drop bs k i) ∙ e) in (omega (arith, was.0, is), was.1);
}

pub held_joined : (cell : TableId) (p q r : PassState) (bs cs all : List (Option BatchState)) → IsHolding cell p bs → IsHolding q.cell q cs → IsJoined p q r → BatchesStay p r → BatchesStay q r → p.end ≡ q.first → all ≡ bs ++ cs → IsHolding cell r all
held_joined cell p q r bs cs all left right j left-stay right-stay adjacent is = grind (arith, length-append, slice_get-append, slice_get_within)

-- the open batches of the callers of both are those of the joint pass
pub joined_left_open : (cell : TableId) (p q r : PassState) (bs cs all : List (Option BatchState)) → IsHolding cell p bs → IsJoined p q r → all ≡ bs ++ cs → OpenStay (record { pass = p; batches = bs }) (record { pass = r; batches = all })
joined_left_open cell p q r bs cs all held j is c has = grind (arith, nat_le, nat_tests, slice_get-append_left)

pub joined_right_open : (cell : TableId) (p q r : PassState) (bs cs all : List (Option BatchState)) → IsHolding cell p bs → IsJoined p q r → p.end ≡ q.first → all ≡ bs ++ cs → OpenStay (record { pass = q; batches = cs }) (record { pass = r; batches = all })
joined_right_open cell p q r bs cs all held j adjacent is c has = grind (arith, nat_le, nat_tests, slice_get-append_right)

-- and those of a part are those that were
pub lower_open : (h : Held) (at c : ℕ) → h.pass.first ≤ c → c < at → batch_of (lower_part h at) c ≡ batch_of h c
lower_open h at c le lt = grind (arith, nat_le, nat_tests, slice_get-within_front)

pub upper_open : (h : Held) (at c : ℕ) → h.pass.first < at → at ≤ c → batch_of (upper_part h at) c ≡ batch_of h c
upper_open h at c after le = grind (arith, nat_le, nat_tests, slice_get-drop)
