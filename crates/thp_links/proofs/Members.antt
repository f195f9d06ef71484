-- Members of lists of indices, lists without repeats, and lists that have nothing in common.
use Rattle.std.proofs.Common.{◌≡◌, ◌≢◌, ℕ, suc, ◌<◌, ◌≤◌, Bool, cond, not, List, [], ◌∷◌, ◌++◌, length, get_or, drop, Some, None, ◌⊎◌, inl, inr, sym, ap, ◌∙◌, refl, subst, arith, eqb, Contains, slice_get, eqb-true}
use Rattle.std.proofs.lemmas.Bool.Decides.{eqb_tells, Decides-eqb}
use Rattle.std.proofs.lemmas.List.Elements.{Contains-get_or, Contains-append_left, Contains-append_right, Contains-append_cases, filter-append}
use Rattle.std.proofs.lemmas.List.Kept.{AllPairs-cons, AllPairs-filter}
use Rattle.std.proofs.lemmas.Option.{same_Some, none-some}
use Rattle.std.proofs.lemmas.Map.Made.{IsDistinct-from_AllPairs}
use Rattle.std.proofs.lemmas.Map.Views.{Contains-from_any}
use Rattle.std.proofs.lemmas.Map.Steps.{length-le_from_distinct_below}
use Rattle.thp_links.specs.Prelude.{Distinct, Apart, without_index, last_or}

-- nothing is in the empty list
pub Contains-nil : (i : ℕ) → Contains [] i → ⊥
Contains-nil i m = let below : m.0 < 0 = m.1 in omega arith

-- the first index is in the list
pub Contains-head : (x : ℕ) (xs : List ℕ) → Contains (x ∷ xs) x
Contains-head x xs = (0, omega arith, refl)

-- what is behind the first index is in the list
pub Contains-behind : (x : ℕ) (xs : List ℕ) (i : ℕ) → Contains xs i → Contains (x ∷ xs) i
Contains-behind x xs i m = let below : m.0 < length xs = m.1 in (suc m.0, omega arith, m.2)

-- an index of the list is the first or is behind it
pub Contains-cons_cases : (x : ℕ) (xs : List ℕ) (i : ℕ) → Contains (x ∷ xs) i → (i ≡ x) ⊎ Contains xs i
Contains-cons_cases x xs i y = grind arith

-- what is absent is not the first, and is absent behind it
pub absent_head : (x : ℕ) (xs : List ℕ) (i : ℕ) → (Contains (x ∷ xs) i → ⊥) → i ≢ x
absent_head x xs i out e = out (0, omega arith, sym e)

pub absent_after : (x : ℕ) (xs : List ℕ) (i : ℕ) → (Contains (x ∷ xs) i → ⊥) → Contains xs i → ⊥
absent_after x xs i out m = out (Contains-behind x xs i m)

-- what is absent from both parts is absent from the whole
pub absent_append : (xs ys : List ℕ) (i : ℕ) → (Contains xs i → ⊥) → (Contains ys i → ⊥) → Contains (xs ++ ys) i → ⊥
absent_append xs ys i f g m = elim (Contains-append_cases xs ys i m) [ inl a ↦ f a | inr b ↦ g b ]

-- a member and what is absent differ
pub differ : (xs : List ℕ) (j k : ℕ) → Contains xs j → (Contains xs k → ⊥) → j ≢ k
differ xs j k m out e = out (subst (λ (i : ℕ). Contains xs i) e m)

-- a member stands between two parts
pub parts_of : (xs : List ℕ) (i : ℕ) → Contains xs i → (before : List ℕ) × (after : List ℕ) × (xs ≡ before ++ i ∷ after)
parts_of [] i m = absurd (Contains-nil i m)
parts_of (x ∷ xs) i m = elim (Contains-cons_cases x xs i m) [
  | inl e ↦ ([], xs, ap (λ (k : ℕ). k ∷ xs) (sym e))
  | inr n ↦ let p = parts_of xs i n in (x ∷ p.0, p.1, ap (λ (ys : List ℕ). x ∷ ys) p.2)
]

-- the first index is a member
pub Contains-from_first : (xs : List ℕ) (i : ℕ) → slice_get xs 0 ≡ Some i → Contains xs i
Contains-from_first [] i e = absurd (none-some i e)
Contains-from_first (x ∷ xs) i e = (0, omega arith, same_Some x i e)

-- the list from its first index on
pub first_and_rest : (xs : List ℕ) (i : ℕ) → slice_get xs 0 ≡ Some i → xs ≡ i ∷ drop 1 xs
first_and_rest x i e = grind (arith, none-some, same_Some)

-- a list with no first index is empty
pub empty_from_first : (xs : List ℕ) → slice_get xs 0 ≡ None → xs ≡ []
empty_from_first [] e = refl
empty_from_first (x ∷ xs) e = absurd (none-some x (sym e))

-- a list without repeats, by its first index and the rest
pub Distinct-nil : Distinct []
Distinct-nil = λ i j d l m. absurd (let below : j < 0 = m in omega arith)

pub Distinct-head : (x : ℕ) (xs : List ℕ) → Distinct (x ∷ xs) → Contains xs x → ⊥
Distinct-head x xs d m = let below : m.0 < length xs = m.1 in d 0 (suc m.0) x (omega arith) (omega arith) (sym m.2)

pub Distinct-behind : (x : ℕ) (xs : List ℕ) → Distinct (x ∷ xs) → Distinct xs
Distinct-behind x xs d = λ i j n l m. d (suc i) (suc j) n (omega arith) (omega arith)

pub Distinct-cons : (x : ℕ) (xs : List ℕ) → (Contains xs x → ⊥) → Distinct xs → Distinct (x ∷ xs)
Distinct-cons x xs out d =
    AllPairs-cons (λ (a b : ℕ). a ≢ b) x xs (λ k n l e. out (subst (λ (i : ℕ). Contains xs i) (sym e) (Contains-get_or xs k n l))) d

pub Distinct-left : (xs ys : List ℕ) → Distinct (xs ++ ys) → Distinct xs
Distinct-left [] ys d = Distinct-nil
Distinct-left (x ∷ xs) ys d =
    Distinct-cons x xs (λ m. Distinct-head x (xs ++ ys) d (Contains-append_left xs ys x m)) (Distinct-left xs ys (Distinct-behind x (xs ++ ys) d))

pub Distinct-right : (xs ys : List ℕ) → Distinct (xs ++ ys) → Distinct ys
Distinct-right [] ys d = d
Distinct-right (x ∷ xs) ys d = Distinct-right xs ys (Distinct-behind x (xs ++ ys) d)

-- parts of a list without repeats have nothing in common
pub Apart-from_distinct : (xs ys : List ℕ) → Distinct (xs ++ ys) → Apart xs ys
Apart-from_distinct xs ys d = record { never_both = go xs d } where
  go : (zs : List ℕ) → Distinct (zs ++ ys) → (i : ℕ) → Contains zs i → Contains ys i → ⊥
  go [] d i m n = Contains-nil i m
  go (z ∷ zs) d i m n = elim (Contains-cons_cases z zs i m) [
    | inl e ↦ Distinct-head z (zs ++ ys) d (Contains-append_right zs ys z (subst (λ (k : ℕ). Contains ys k) e n))
    | inr k ↦ go zs (Distinct-behind z (zs ++ ys) d) i k n
  ]

pub Distinct-append : (xs ys : List ℕ) → Distinct xs → Distinct ys → Apart xs ys → Distinct (xs ++ ys)
Distinct-append [] ys d e a = e
Distinct-append (x ∷ xs) ys d e a =
    Distinct-cons x (xs ++ ys)
    (absent_append xs ys x (Distinct-head x xs d) (a.never_both x (Contains-head x xs)))
    (Distinct-append xs ys (Distinct-behind x xs d) e (record { never_both = λ i m. a.never_both i (Contains-behind x xs i m) }))

-- an index that is absent can be put behind all others
pub Distinct-push : (xs : List ℕ) (i : ℕ) → Distinct xs → (Contains xs i → ⊥) → Distinct (xs ++ i ∷ [])
Distinct-push xs i d out =
    Distinct-append xs (i ∷ []) d (Distinct-cons i [] (Contains-nil i) Distinct-nil)
    (record {
      never_both = λ j m n. elim (Contains-cons_cases i [] j n) [
        | inl e ↦ out (subst (λ (k : ℕ). Contains xs k) e m)
        | inr z ↦ Contains-nil j z
      ];
    })

-- a list without repeats, without one of its indices
pub Distinct-without : (i : ℕ) (xs : List ℕ) → Distinct xs → Distinct (without_index i xs)
Distinct-without i xs d = AllPairs-filter (λ (a b : ℕ). a ≢ b) (λ (j : ℕ). not (eqb j i)) xs d

-- taking out what is absent changes nothing
pub without_absent : (i : ℕ) (xs : List ℕ) → (Contains xs i → ⊥) → without_index i xs ≡ xs
without_absent i [] out = refl
without_absent i (x ∷ xs) out = elim (eqb_tells x i) [
  | inl y ↦ absurd (absent_head x xs i out (sym y.1))
  | inr n ↦ ap (λ (b : Bool). cond (not b) (x ∷ without_index i xs) (without_index i xs)) n.0
      ∙ ap (λ (ys : List ℕ). x ∷ ys) (without_absent i xs (absent_after x xs i out))
]

-- taking out an index that stands between two parts joins them
pub without_index-middle : (i : ℕ) (xs ys : List ℕ) → (Contains xs i → ⊥) → (Contains ys i → ⊥) → without_index i (xs ++ i ∷ ys) ≡ xs ++ ys
without_index-middle i xs ys f g = grind (arith, filter-append, without_absent, eqb_tells)

-- what is left after an index was taken out was there before, and is another
pub Contains-from_without : (i : ℕ) (xs : List ℕ) (j : ℕ) → Contains (without_index i xs) j → Contains xs j × (j ≢ i)
Contains-from_without i [] j m = absurd (Contains-nil j m)
Contains-from_without i (x ∷ xs) j m = elim (eqb_tells x i) [
  | inl y ↦ let n = Contains-from_without i xs j (subst (λ (ys : List ℕ). Contains ys j) (kept y.0) m) in (Contains-behind x xs j n.0, n.1)
  | inr y ↦ elim (Contains-cons_cases x (without_index i xs) j (subst (λ (ys : List ℕ). Contains ys j) (kept y.0) m)) [
    | inl e ↦ ((0, omega arith, sym e), (λ z. y.1 (sym e ∙ z)))
    | inr k ↦ let n = Contains-from_without i xs j k in (Contains-behind x xs j n.0, n.1)
  ]
] where
  kept : {b : Bool} → eqb x i ≡ b → without_index i (x ∷ xs) ≡ cond (not b) (x ∷ without_index i xs) (without_index i xs)
  kept e = ap (λ (c : Bool). cond (not c) (x ∷ without_index i xs) (without_index i xs)) e

-- another index stays when one is taken out
pub Contains-without : (i : ℕ) (xs : List ℕ) (j : ℕ) → Contains xs j → j ≢ i → Contains (without_index i xs) j
Contains-without i [] j m ne = m
Contains-without i (x ∷ xs) j m ne = elim (eqb_tells x i) [
  | inl y ↦ subst (λ (ys : List ℕ). Contains ys j) (sym (kept y.0)) (elim (Contains-cons_cases x xs j m) [
    | inl e ↦ absurd (ne (e ∙ y.1))
    | inr k ↦ Contains-without i xs j k ne
  ])
  | inr y ↦ subst (λ (ys : List ℕ). Contains ys j) (sym (kept y.0)) (elim (Contains-cons_cases x xs j m) [
    | inl e ↦ (0, omega arith, sym e)
    | inr k ↦ Contains-behind x (without_index i xs) j (Contains-without i xs j k ne)
  ])
] where
  kept : {b : Bool} → eqb x i ≡ b → without_index i (x ∷ xs) ≡ cond (not b) (x ∷ without_index i xs) (without_index i xs)
  kept e = ap (λ (c : Bool). cond (not c) (x ∷ without_index i xs) (without_index i xs)) e

-- what is behind the first index is in the list
pub Contains-from_rest : (xs : List ℕ) (j : ℕ) → Contains (drop 1 xs) j → Contains xs j
Contains-from_rest [] j m = m
Contains-from_rest (x ∷ xs) j m = Contains-behind x xs j m

-- the first index of two lists joined, and the last
pub first_or-append : (xs ys : List ℕ) (n : ℕ) → get_or (xs ++ ys) 0 n ≡ get_or xs 0 (get_or ys 0 n)
first_or-append [] ys n = refl
first_or-append (x ∷ xs) ys n = refl

pub last_or-append : (d : ℕ) (xs ys : List ℕ) → last_or d (xs ++ ys) ≡ last_or (last_or d xs) ys
last_or-append d [] ys = refl
last_or-append d (x ∷ xs) ys = last_or-append x xs ys

-- the last index is a member
pub Contains-last : (x : ℕ) (xs : List ℕ) → Contains (x ∷ xs) (last_or x xs)
Contains-last x [] = Contains-head x []
Contains-last x (y ∷ ys) = Contains-behind x (y ∷ ys) (last_or y ys) (Contains-last y ys)

-- the first index of one list, and the last of another, are in no list apart from theirs
pub first_or-absent : (d : ℕ) (xs ys : List ℕ) → (Contains xs d → ⊥) → Apart xs ys → Contains xs (get_or ys 0 d) → ⊥
first_or-absent d xs [] out a m = out m
first_or-absent d xs (y ∷ ys) out a m = a.never_both y m (Contains-head y ys)

pub last_or-absent : (d : ℕ) (xs ys : List ℕ) → (Contains ys d → ⊥) → Apart xs ys → Contains ys (last_or d xs) → ⊥
last_or-absent d [] ys out a m = out m
last_or-absent d (x ∷ xs) ys out a m = a.never_both (last_or x xs) (Contains-last x xs) m

-- indices below n with none twice are at most n
pub length-distinct : (xs : List ℕ) (n : ℕ) → Distinct xs → ((i : ℕ) → Contains xs i → i < n) → length xs ≤ n
length-distinct xs n d below =
    length-le_from_distinct_below xs n (IsDistinct-from_AllPairs Decides-eqb xs d) (λ q h. below q (Contains-from_any eqb-true q xs h))
