-- Segments of links: what keeps them, what their ends are, and how two are joined.
use Rattle.std.proofs.Common.{◌≡◌, ◌≢◌, ℕ, ◌<◌, ◌≤◌, List, [], ◌∷◌, ◌++◌, length, get_or, set, Some, inl, inr, sym, ap, ◌∙◌, refl, arith, Contains, slice_get}
use Rattle.std.proofs.lemmas.Option.{slice_get_within}
use Rattle.thp_links.specs.Prelude.{Link, NIL, Distinct, last_or, between, Segment, Trail, with_next, with_prev}
use Rattle.thp_links.proofs.Members.{Contains-nil, Contains-head, Contains-behind, Contains-cons_cases, Contains-last, Distinct-head, Distinct-behind, differ, first_or-append}
use Rattle.thp_links.proofs.Replacing.{slice_get-set_other, with_next-same, with_next-other, with_next_none, with_prev-same, with_prev-other, with_prev_none}

-- a segment stays while the pairs of its indices do
pub Segment-kept : (ls ms : List Link) (p : ℕ) (xs : List ℕ) (n : ℕ) → ((j : ℕ) → Contains xs j → slice_get ms j ≡ slice_get ls j) → Segment ls p xs n → Segment ms p xs n
Segment-kept ls ms p [] n same s = tt
Segment-kept ls ms p (x ∷ xs) n same s =
    (same x (Contains-head x xs) ∙ s.0, Segment-kept ls ms x xs n (λ j m. same j (Contains-behind x xs j m)) s.1)

pub Segment-with_next : (ls : List Link) (i v p : ℕ) (xs : List ℕ) (n : ℕ) → (Contains xs i → ⊥) → Segment ls p xs n → Segment (with_next ls i v) p xs n
Segment-with_next ls i v p xs n out = Segment-kept ls _ p xs n (λ j m. with_next-other ls i v j (differ xs j i m out))

pub Segment-with_prev : (ls : List Link) (i v p : ℕ) (xs : List ℕ) (n : ℕ) → (Contains xs i → ⊥) → Segment ls p xs n → Segment (with_prev ls i v) p xs n
Segment-with_prev ls i v p xs n out = Segment-kept ls _ p xs n (λ j m. with_prev-other ls i v j (differ xs j i m out))

pub Segment-set : (ls : List Link) (i : ℕ) (l : Link) (p : ℕ) (xs : List ℕ) (n : ℕ) → (Contains xs i → ⊥) → Segment ls p xs n → Segment (set ls i l) p xs n
Segment-set ls i l p xs n out = Segment-kept ls _ p xs n (λ j m. slice_get-set_other ls i l j (differ xs j i m out))

-- each index of a segment is one of the table
pub Segment-inside : (ls : List Link) (p : ℕ) (xs : List ℕ) (n i : ℕ) → Segment ls p xs n → Contains xs i → i < length ls
Segment-inside ls p [] n i s m = absurd (Contains-nil i m)
Segment-inside ls p (x ∷ xs) n i s m = elim (Contains-cons_cases x xs i m) [
  | inl e ↦ let below : x < length ls = slice_get_within ls x _ s.0 in omega arith
  | inr k ↦ Segment-inside ls x xs n i s.1 k
]

-- an index past the table is in no segment
pub Segment-absent : (ls : List Link) (p : ℕ) (xs : List ℕ) (n i : ℕ) → length ls ≤ i → Segment ls p xs n → Contains xs i → ⊥
Segment-absent ls p xs n i past s m = let below : i < length ls = Segment-inside ls p xs n i s m in omega arith

-- the last index of a segment, if there is one, and the first
pub Segment-last : (ls : List Link) (p : ℕ) (xs : List ℕ) (n : ℕ) → Segment ls p xs n → last_or NIL xs ≢ NIL → last_or NIL xs < length ls
Segment-last ls p [] n s ne = absurd (ne refl)
Segment-last ls p (x ∷ xs) n s ne = Segment-inside ls p (x ∷ xs) n (last_or x xs) s (Contains-last x xs)

pub Segment-first : (ls : List Link) (p : ℕ) (xs : List ℕ) (n : ℕ) → Segment ls p xs n → get_or xs 0 NIL ≢ NIL → get_or xs 0 NIL < length ls
Segment-first ls p [] n s ne = absurd (ne refl)
Segment-first ls p (x ∷ xs) n s ne = slice_get_within ls x _ s.0

-- the successor of the last index is replaced
pub Segment-relast : (ls : List Link) (p : ℕ) (xs : List ℕ) (n m : ℕ) → Distinct xs → Segment ls p xs n → Segment (with_next ls (last_or NIL xs) m) p xs m
Segment-relast ls p [] n m d s = tt
Segment-relast ls p (x ∷ []) n m d s = (with_next-same ls x m (between p n) s.0, tt)
Segment-relast ls p (x ∷ (y ∷ zs)) n m d s =
    let other : x ≢ last_or y zs = λ e. differ (y ∷ zs) (last_or y zs) x (Contains-last y zs) (Distinct-head x (y ∷ zs) d) (sym e) in
    (with_next-other ls (last_or y zs) m x other ∙ s.0, Segment-relast ls x (y ∷ zs) n m (Distinct-behind x (y ∷ zs) d) s.1)

-- the predecessor of the first index is replaced
pub Segment-refirst : (ls : List Link) (p q : ℕ) (xs : List ℕ) (n : ℕ) → Distinct xs → Segment ls p xs n → Segment (with_prev ls (get_or xs 0 NIL) q) q xs n
Segment-refirst ls p q [] n d s = tt
Segment-refirst ls p q (x ∷ xs) n d s =
    (with_prev-same ls x q (between p (get_or xs 0 n)) s.0, Segment-with_prev ls x q x xs n (Distinct-head x xs d) s.1)

-- of what isn't in the list the pair stays, when the successor of the last index is replaced
pub relast-other : (ls : List Link) (xs : List ℕ) (v j : ℕ) → length ls ≤ NIL → (Contains xs j → ⊥) → slice_get (with_next ls (last_or NIL xs) v) j ≡ slice_get ls j
relast-other ls [] v j small out = ap (λ (ks : List Link). slice_get ks j) (with_next_none ls NIL v small)
relast-other ls (x ∷ xs) v j small out =
    with_next-other ls (last_or x xs) v j (λ e. differ (x ∷ xs) (last_or x xs) j (Contains-last x xs) out (sym e))

-- the same of the predecessor of the first index
pub refirst-other : (ls : List Link) (xs : List ℕ) (v j : ℕ) → length ls ≤ NIL → (Contains xs j → ⊥) → slice_get (with_prev ls (get_or xs 0 NIL) v) j ≡ slice_get ls j
refirst-other ls [] v j small out = ap (λ (ks : List Link). slice_get ks j) (with_prev_none ls NIL v small)
refirst-other ls (x ∷ xs) v j small out = with_prev-other ls x v j (λ e. out (0, omega arith, sym e))

-- two segments that meet are one
pub Segment-append : (ls : List Link) (p : ℕ) (xs ys : List ℕ) (n : ℕ) → Segment ls p xs (get_or ys 0 n) → Segment ls (last_or p xs) ys n → Segment ls p (xs ++ ys) n
Segment-append ls p [] ys n s t = t
Segment-append ls p (x ∷ xs) ys n s t =
    (s.0 ∙ ap (λ (k : ℕ). Some (between p k)) (sym (first_or-append xs ys n)), Segment-append ls x xs ys n s.1 t)

pub Segment-left : (ls : List Link) (p : ℕ) (xs ys : List ℕ) (n : ℕ) → Segment ls p (xs ++ ys) n → Segment ls p xs (get_or ys 0 n)
Segment-left ls p [] ys n s = tt
Segment-left ls p (x ∷ xs) ys n s =
    (s.0 ∙ ap (λ (k : ℕ). Some (between p k)) (first_or-append xs ys n), Segment-left ls x xs ys n s.1)

pub Segment-right : (ls : List Link) (p : ℕ) (xs ys : List ℕ) (n : ℕ) → Segment ls p (xs ++ ys) n → Segment ls (last_or p xs) ys n
Segment-right ls p [] ys n s = s
Segment-right ls p (x ∷ xs) ys n s = Segment-right ls x xs ys n s.1

-- a trail stays while the pairs of its indices do
pub Trail-kept : (ls ms : List Link) (xs : List ℕ) → ((j : ℕ) → Contains xs j → slice_get ms j ≡ slice_get ls j) → Trail ls xs → Trail ms xs
Trail-kept ls ms [] same t = tt
Trail-kept ls ms (x ∷ xs) same t =
    ((t.0.0, same x (Contains-head x xs) ∙ t.0.1), Trail-kept ls ms xs (λ j m. same j (Contains-behind x xs j m)) t.1)

-- each index of a trail is one of the table
pub Trail-inside : (ls : List Link) (xs : List ℕ) (i : ℕ) → Trail ls xs → Contains xs i → i < length ls
Trail-inside ls [] i t m = absurd (Contains-nil i m)
Trail-inside ls (x ∷ xs) i t m = elim (Contains-cons_cases x xs i m) [
  | inl e ↦ let below : x < length ls = slice_get_within ls x _ t.0.1 in omega arith
  | inr k ↦ Trail-inside ls xs i t.1 k
]
