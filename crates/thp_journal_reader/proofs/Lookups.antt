-- The last allocation of each page after a write.
use Rattle.std.proofs.Common.{◌≡◌, ℕ, suc, zero, ◌<◌, ◌≤◌, Bool, true, false, cond, List, [], ◌∷◌, ◌++◌, length, set, get_or, refl, ap, sym, ◌∙◌, arith, nat_eq, nat_lt, eq-eqb, ne_eqb, Option, Some, None, slice_get, nat_cmp, is_eq, ltb-false, ltb-true, eqb-true}
use Rattle.std.proofs.lemmas.Option.{slice_get_past, slice_get-get_or}
use Rattle.std.proofs.lemmas.Bool.Decides.{eqb_tells}
use Rattle.thp_journal_reader.specs.declared.page_blocks.LastAllocations.{LastAllocations}
use Rattle.thp_journal_reader.specs.LastAllocations.{first_entry, last_allocation}
use Rattle.std.proofs.lemmas.Bool.{cases_lt}
use Rattle.std.specs.BTreeMap.{get}

-- numbers behind one more
one_on : (q i : ℕ) → nat_eq (suc q) (suc i) ≡ nat_eq q i
one_on q i = grind (arith, eqb_tells, eq-eqb, ne_eqb)

-- a number behind isn't the first
not_first : (q : ℕ) → nat_eq (suc q) 0 ≡ false
not_first q = ne_eqb (suc q) 0 (λ e. absurd (omega arith))

-- nor the other way round
first_not : (q : ℕ) → nat_eq 0 (suc q) ≡ false
first_not q = ne_eqb 0 (suc q) (λ e. absurd (omega arith))

-- one element changed
pub get-set : {X : Type 0} (xs : List X) (i : ℕ) (v : X) (q : ℕ) → i < length xs → slice_get (set xs i v) q ≡ cond (nat_eq q i) (Some v) (slice_get xs q)
get-set [] i v q h = absurd (omega arith)
get-set (x ∷ xs) zero v zero h = refl
get-set (x ∷ xs) zero v (suc q) h = sym (ap (λ b. cond b (Some v) (slice_get xs q)) (not_first q))
get-set (x ∷ xs) (suc i) v zero h = sym (ap (λ b. cond b (Some v) (Some x)) (first_not i))
get-set (x ∷ xs) (suc i) v (suc q) h = get-set xs i v q (omega arith) ∙ sym (ap (λ b. cond b (Some v) (slice_get xs q)) (one_on q i))

-- one more element
pub get-push : {X : Type 0} (xs : List X) (v : X) (q : ℕ) → slice_get (xs ++ v ∷ []) q ≡ cond (nat_eq q (length xs)) (Some v) (slice_get xs q)
get-push [] v zero = refl
get-push [] v (suc q) = sym (ap (λ b. cond b (Some v) None) (not_first q))
get-push (x ∷ xs) v zero = sym (ap (λ b. cond b (Some v) (Some x)) (first_not (length xs)))
get-push (x ∷ xs) v (suc q) = get-push xs v q ∙ sym (ap (λ b. cond b (Some v) (slice_get xs q)) (one_on q (length xs)))

-- the elements before one more
pub get-before : {X : Type 0} (xs : List X) (v : X) (q : ℕ) (x : X) → slice_get xs q ≡ Some x → slice_get (xs ++ v ∷ []) q ≡ Some x
get-before [] v q x e = absurd (cc)
get-before (y ∷ xs) v zero x e = e
get-before (y ∷ xs) v (suc q) x e = get-before xs v q x e

-- the last element
pub get-last : {X : Type 0} (xs : List X) (v : X) → slice_get (xs ++ v ∷ []) (length xs) ≡ Some v
get-last [] v = refl
get-last (x ∷ xs) v = get-last xs v

-- a lookup whose first place was changed
pub entry_first : (b : Bool) (k : Option ℕ) (o other : Option (Option ℕ)) → first_entry (cond b (Some k) o) other ≡ cond b k (first_entry o other)
entry_first x k o other = grind arith

-- a lookup whose second place was changed
pub entry_second : (b : Bool) (k : Option ℕ) (o other : Option (Option ℕ)) → (b ≡ true → o ≡ None) → first_entry o (cond b (Some k) other) ≡ cond b k (first_entry o other)
entry_second x k o other f = grind arith

-- the map finds the number that was put in
pub at_number : (p q : ℕ) → is_eq (nat_cmp p q) ≡ nat_eq q p
at_number p q = grind (arith, eqb_tells, is_eq, cases_lt)

-- an element that a lookup found
found_at : (xs : List (Option ℕ)) (i : ℕ) (x : Option ℕ) → true ≡ nat_lt i (length xs) → x ≡ get_or xs i x → slice_get xs i ≡ Some x
found_at xs i x t e = slice_get-get_or xs i x (ltb-true i (length xs) (sym t)) ∙ ap (λ y. Some y) (sym e)

-- none at a place behind the list
none_at : (xs : List (Option ℕ)) (i : ℕ) → false ≡ nat_lt i (length xs) → slice_get xs i ≡ None
none_at xs i t = slice_get_past xs i (ltb-false i (length xs) (sym t))

-- the last allocation of a page among the first ones
pub last_dense : (ps : LastAllocations) (xs : List (Option ℕ)) (i p : ℕ) (x : Option ℕ) → xs ≡ ps.dense.items → i ≡ p → true ≡ nat_lt i (length xs) → x ≡ get_or xs i x → x ≡ last_allocation ps p
unfolding last_allocation
last_dense ps xs i p x same e t f = grind (arith, nat_cmp, slice_get, found_at)

-- of another page
last_other : (ps : LastAllocations) (xs : List (Option ℕ)) (i p : ℕ) (o : Option (Option ℕ)) → xs ≡ ps.dense.items → i ≡ p → false ≡ nat_lt i (length xs) → o ≡ get nat_cmp ps.others i → first_entry None o ≡ last_allocation ps p
unfolding last_allocation
last_other ps xs i p o same e t f = grind (arith, nat_cmp, slice_get, none_at)

-- that was named
pub last_named : (ps : LastAllocations) (xs : List (Option ℕ)) (i p : ℕ) (x : Option ℕ) → xs ≡ ps.dense.items → i ≡ p → false ≡ nat_lt i (length xs) → Some x ≡ get nat_cmp ps.others i → x ≡ last_allocation ps p
last_named ps xs i p x = last_other ps xs i p (Some x)

-- that wasn't
pub last_unnamed : (ps : LastAllocations) (xs : List (Option ℕ)) (i p : ℕ) → xs ≡ ps.dense.items → i ≡ p → false ≡ nat_lt i (length xs) → None ≡ get nat_cmp ps.others i → None ≡ last_allocation ps p
last_unnamed ps xs i p = last_other ps xs i p None

-- a write among the first ones
pub last_set : (ps qs : LastAllocations) (i p : ℕ) (v : Option ℕ) (q : ℕ) → i ≡ p → i < length ps.dense.items → qs.dense.items ≡ set ps.dense.items i v → qs.others.entries ≡ ps.others.entries →
    last_allocation qs q ≡ cond (nat_eq q p) v (last_allocation ps q)
unfolding last_allocation
last_set ps qs i p v q e h d o = grind (arith, slice_get, nat_cmp, get-set, entry_first, nat_eq, is_eq)

-- one more behind them
pub last_push : (ps qs : LastAllocations) (i p : ℕ) (v : Option ℕ) (q : ℕ) → i ≡ p → i ≡ length ps.dense.items → qs.dense.items ≡ ps.dense.items ++ v ∷ [] → qs.others.entries ≡ ps.others.entries →
    last_allocation qs q ≡ cond (nat_eq q p) v (last_allocation ps q)
unfolding last_allocation
last_push ps qs i p v q e h d o = grind (arith, slice_get, nat_cmp, get-push, entry_first, nat_eq, is_eq)

-- a write in the map
pub last_insert : (ps qs : LastAllocations) (i p : ℕ) (v : Option ℕ) (q : ℕ) → i ≡ p → length ps.dense.items ≤ i → qs.dense.items ≡ ps.dense.items →
    get nat_cmp qs.others q ≡ cond (is_eq (nat_cmp i q)) (Some v) (get nat_cmp ps.others q) → last_allocation qs q ≡ cond (nat_eq q p) v (last_allocation ps q)
unfolding last_allocation
last_insert ps qs i p v q e h d o = grind (arith, slice_get, nat_cmp, at_number, entry_second, nat_eq, slice_get_past, eqb-true)

-- nothing written
pub last_stays : (ps qs : LastAllocations) (q : ℕ) → qs.dense.items ≡ ps.dense.items → qs.others.entries ≡ ps.others.entries → last_allocation qs q ≡ last_allocation ps q
unfolding last_allocation
last_stays ps qs q d o = grind (arith, slice_get, nat_cmp, is_eq)
