-- What a caller needs that keeps several lists in one table: a change of one leaves the others as they were.
use Rattle.std.proofs.Common.{◌≡◌, ℕ, ◌<◌, List, [], ◌∷◌, ◌++◌, length, drop, Some, inl, inr, refl, subst, Contains, slice_get}
use Rattle.std.proofs.lemmas.List.Elements.{Contains-append_cases}
use Rattle.thp_links.specs.Prelude.{Link, NIL, Distinct, Apart, without_index, Stands, ChainStands, SameOutside}
use Rattle.thp_links.proofs.Members.{Contains-nil, Contains-cons_cases, Contains-from_first, first_and_rest, Contains-from_rest, Contains-from_without, Distinct-nil, Distinct-head}
use Rattle.thp_links.proofs.Segments.{Segment-kept, Segment-inside, Trail-kept, Trail-inside}

-- the empty list stands in any table
pub Stands-nil : (ls : List Link) → Stands [] ls
Stands-nil ls = record { segment = tt; distinct = Distinct-nil }

pub ChainStands-nil : (ls : List Link) → ChainStands [] ls
ChainStands-nil ls = record { trail = tt; distinct = Distinct-nil }

-- a queue's list stays while only pairs apart from it change
pub Stands-kept : {xs ys : List ℕ} {ls ms : List Link} → Stands xs ls → SameOutside ys ls ms → Apart xs ys → Stands xs ms
Stands-kept {xs} {ys} {ls} {ms} s same apart = record {
  segment = Segment-kept ls ms NIL xs NIL (λ j m. same.same_pairs j (apart.never_both j m)) s.segment;
  distinct = s.distinct;
}

-- a chain's list stays while only pairs apart from it change
pub ChainStands-kept : {xs ys : List ℕ} {ls ms : List Link} → ChainStands xs ls → SameOutside ys ls ms → Apart xs ys → ChainStands xs ms
ChainStands-kept {xs} {ys} {ls} {ms} s same apart = record {
  trail = Trail-kept ls ms xs (λ j m. same.same_pairs j (apart.never_both j m)) s.trail;
  distinct = s.distinct;
}

-- each index of a list that stands is one of the table
pub Stands-inside : {xs : List ℕ} {ls : List Link} (i : ℕ) → Stands xs ls → Contains xs i → i < length ls
Stands-inside {xs} {ls} i s m = Segment-inside ls NIL xs NIL i s.segment m

pub ChainStands-inside : {xs : List ℕ} {ls : List Link} (i : ℕ) → ChainStands xs ls → Contains xs i → i < length ls
ChainStands-inside {xs} {ls} i s m = Trail-inside ls xs i s.trail m

-- lists that are apart are so in either order
pub Apart-sym : {xs ys : List ℕ} → Apart xs ys → Apart ys xs
Apart-sym a = record { never_both = λ i m n. a.never_both i n m }

-- the empty list is apart from any other
pub Apart-nil : (ys : List ℕ) → Apart [] ys
Apart-nil ys = record { never_both = λ i m n. Contains-nil i m }

-- A list stays apart from another when it is changed, by what each call says of the list that it leaves.

-- an index that isn't in the other list came behind all others
pub Apart-push_back : {xs ys zs : List ℕ} {i : ℕ} → zs ≡ xs ++ i ∷ [] → Apart xs ys → (Contains ys i → ⊥) → Apart zs ys
Apart-push_back {xs} {ys} {zs} {i} is a out = record {
  never_both = λ j m n. elim (Contains-append_cases xs (i ∷ []) j (subst (λ (ws : List ℕ). Contains ws j) is m)) [
    | inl k ↦ a.never_both j k n
    | inr k ↦ elim (Contains-cons_cases i [] j k) [
      | inl e ↦ out (subst (λ (z : ℕ). Contains ys z) e n)
      | inr z ↦ Contains-nil j z
    ]
  ];
}

-- an index that isn't in the other list came before all others
pub Apart-push : {xs ys zs : List ℕ} {i : ℕ} → zs ≡ i ∷ xs → Apart xs ys → (Contains ys i → ⊥) → Apart zs ys
Apart-push {xs} {ys} {zs} {i} is a out = record {
  never_both = λ j m n. elim (Contains-cons_cases i xs j (subst (λ (ws : List ℕ). Contains ws j) is m)) [
    | inl e ↦ out (subst (λ (z : ℕ). Contains ys z) e n)
    | inr k ↦ a.never_both j k n
  ];
}

-- an index was taken out
pub Apart-remove : (i : ℕ) (xs ys zs : List ℕ) → zs ≡ without_index i xs → Apart xs ys → Apart zs ys
Apart-remove i xs ys zs is a = record {
  never_both = λ j m. a.never_both j (Contains-from_without i xs j (subst (λ (ws : List ℕ). Contains ws j) is m)).0;
}

-- the first index was taken out
pub Apart-pop : (xs ys zs : List ℕ) → zs ≡ drop 1 xs → Apart xs ys → Apart zs ys
Apart-pop xs ys zs is a = record {
  never_both = λ j m. a.never_both j (Contains-from_rest xs j (subst (λ (ws : List ℕ). Contains ws j) is m));
}

-- What a push into one list asks of an index that was in another, or that was just taken out.

-- a member of one list, as its first index, isn't in a list apart from it
pub absent-member : {xs ys : List ℕ} {i : ℕ} → Apart xs ys → Contains xs i → Contains ys i → ⊥
absent-member {i = i} a m = a.never_both i m

pub absent-first : {xs ys : List ℕ} {i : ℕ} → Apart xs ys → slice_get ys 0 ≡ Some i → Contains xs i → ⊥
absent-first {xs} {ys} {i} a first m = a.never_both i m (Contains-from_first ys i first)

-- an index that was taken out of a list is in it no longer
pub absent-removed : (i : ℕ) (xs zs : List ℕ) → zs ≡ without_index i xs → Contains zs i → ⊥
absent-removed i xs zs is m = (Contains-from_without i xs i (subst (λ (ws : List ℕ). Contains ws i) is m)).1 refl

pub absent-popped : (i : ℕ) (xs zs : List ℕ) → zs ≡ drop 1 xs → Distinct xs → slice_get xs 0 ≡ Some i → Contains zs i → ⊥
absent-popped i xs zs is d first m =
    Distinct-head i (drop 1 xs)
    (subst (λ (ws : List ℕ). Distinct ws) (first_and_rest xs i first) d)
    (subst (λ (ws : List ℕ). Contains ws i) is m)

-- for `search`, which finds the calls' facts by itself; a goal after two calls may want `search one_table depth 7 fits 4000`
pub ruleset one_table = (Stands-nil, ChainStands-nil, Stands-kept, ChainStands-kept, Stands-inside, ChainStands-inside, Apart-nil, Apart-push_back, Apart-push, Apart-remove, Apart-pop, Apart-sym, absent-member, absent-first, absent-removed, absent-popped)
