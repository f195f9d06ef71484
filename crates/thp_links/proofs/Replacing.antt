-- Links with one pair, or one side of a pair, replaced.
use Rattle.std.proofs.Common.{◌≡◌, ◌≢◌, ℕ, zero, suc, ◌<◌, ◌≤◌, List, [], ◌∷◌, length, set, Option, Some, ap, ◌∙◌, refl, arith, get_or-set_same, length-set, slice_get}
use Rattle.std.proofs.lemmas.Option.{slice_get-get_or, slice_get_past, slice_get_within}
use Rattle.thp_links.specs.Prelude.{Link, between, next_replaced, prev_replaced, with_next, with_prev}

-- the pair that was written is found
pub slice_get-set_same : (ls : List Link) (i : ℕ) (l : Link) → i < length ls → slice_get (set ls i l) i ≡ Some l
slice_get-set_same ls i l inside =
    slice_get-get_or (set ls i l) i l (omega (arith, length-set ls i l)) ∙ ap (λ (k : Link). Some k) (get_or-set_same ls i l l inside)

-- other pairs stay
pub slice_get-set_other : (ls : List Link) (i : ℕ) (l : Link) (j : ℕ) → j ≢ i → slice_get (set ls i l) j ≡ slice_get ls j
slice_get-set_other [] i l j ne = refl
slice_get-set_other (x ∷ xs) zero l zero ne = absurd (ne refl)
slice_get-set_other (x ∷ xs) zero l (suc j) ne = refl
slice_get-set_other (x ∷ xs) (suc i) l zero ne = refl
slice_get-set_other (x ∷ xs) (suc i) l (suc j) ne = slice_get-set_other xs i l j (λ e. ne (ap (λ (k : ℕ). suc k) e))

-- one side of the pair of i is replaced
pub with_next-at : (ls : List Link) (i n : ℕ) (l : Link) → slice_get ls i ≡ Some l → with_next ls i n ≡ set ls i (between l.prev n)
unfolding with_next
with_next-at ls i n l e = ap (λ (o : Option Link). next_replaced ls i n o) e

pub with_prev-at : (ls : List Link) (i p : ℕ) (l : Link) → slice_get ls i ≡ Some l → with_prev ls i p ≡ set ls i (between p l.next)
unfolding with_prev
with_prev-at ls i p l e = ap (λ (o : Option Link). prev_replaced ls i p o) e

-- where there is no i nothing changes
pub with_next_none : (ls : List Link) (i n : ℕ) → length ls ≤ i → with_next ls i n ≡ ls
unfolding with_next
with_next_none ls i n past = ap (λ (o : Option Link). next_replaced ls i n o) (slice_get_past ls i past)

pub with_prev_none : (ls : List Link) (i p : ℕ) → length ls ≤ i → with_prev ls i p ≡ ls
unfolding with_prev
with_prev_none ls i p past = ap (λ (o : Option Link). prev_replaced ls i p o) (slice_get_past ls i past)

pub length-with_next : (ls : List Link) (i n : ℕ) → length (with_next ls i n) ≡ length ls
unfolding with_next
length-with_next ls i n = grind (arith, slice_get, length-set)

pub length-with_prev : (ls : List Link) (i p : ℕ) → length (with_prev ls i p) ≡ length ls
unfolding with_prev
length-with_prev ls i p = grind (arith, slice_get, length-set)

-- the pair of i afterwards
pub with_next-same : (ls : List Link) (i n : ℕ) (l : Link) → slice_get ls i ≡ Some l → slice_get (with_next ls i n) i ≡ Some (between l.prev n)
with_next-same ls i n l e =
    ap (λ (ks : List Link). slice_get ks i) (with_next-at ls i n l e) ∙ slice_get-set_same ls i (between l.prev n) (slice_get_within ls i l e)

pub with_prev-same : (ls : List Link) (i p : ℕ) (l : Link) → slice_get ls i ≡ Some l → slice_get (with_prev ls i p) i ≡ Some (between p l.next)
with_prev-same ls i p l e =
    ap (λ (ks : List Link). slice_get ks i) (with_prev-at ls i p l e) ∙ slice_get-set_same ls i (between p l.next) (slice_get_within ls i l e)

-- other pairs stay
pub with_next-other : (ls : List Link) (i n j : ℕ) → j ≢ i → slice_get (with_next ls i n) j ≡ slice_get ls j
unfolding with_next
with_next-other ls i n j ne = grind (arith, slice_get, slice_get-set_other)

pub with_prev-other : (ls : List Link) (i p j : ℕ) → j ≢ i → slice_get (with_prev ls i p) j ≡ slice_get ls j
unfolding with_prev
with_prev-other ls i p j ne = grind (arith, slice_get, slice_get-set_other)
