-- The stored descriptors of a table, and what stays as they grow.
use Rattle.std.proofs.Common.{◌≡◌, ◌≢◌, ◌∙◌, ◌<◌, ◌≤◌, ◌+◌, ◌-◌, ◌++◌, ℕ, zero, suc, List, [], ◌∷◌, length, get_or, set, replicate, Option, Some, None, is_some, IsSome, ap, sym, refl, subst, arith, length-set, length-append, inl, inr}
use Rattle.std.specs.List.{slice_get}
use Rattle.std.proofs.lemmas.Bool.{cases_eq, cases_lt}
use Rattle.std.proofs.lemmas.List.{length-replicate, get_or-set_other}
use Rattle.thp_links.specs.declared.link.Link.{Link}
use Rattle.thp_page.specs.Prelude.{Descriptor, Slot, Table, IsSized, blank_descriptor, descriptors_of, links_of, slot_at}
use Rattle.thp_page.proofs.Paddings.{length-padded, padded-set, get_or-padded, get_or-padded_default, padded-grown}
use Rattle.thp_page.proofs.TableSteps.{table_of, some_number}

-- there are as many numbers as descriptors
pub numbers_alike : (order blocks capacity : ℕ) (ns : List (Option ℕ)) (xs : List Descriptor) → IsSized order blocks capacity ns xs → length ns ≡ length (descriptors_of order blocks xs)
numbers_alike order blocks capacity ns xs s = s.numbered ∙ sym (length-padded (blank_descriptor order) blocks xs s.few)

-- a stored descriptor is that of its block
pub stored_read : (order blocks : ℕ) (xs : List Descriptor) (b : ℕ) (d : Descriptor) → b < length xs → d ≡ get_or xs b d → d ≡ get_or (descriptors_of order blocks xs) b d
stored_read order blocks xs b d inside is = is ∙ sym (get_or-padded (blank_descriptor order) blocks xs b d inside)

-- a block in use has its descriptor
pub stored_taken : (order blocks capacity : ℕ) (ns : List (Option ℕ)) (xs : List Descriptor) (n b : ℕ) (t : Table) → IsSized order blocks capacity ns xs →
    table_of order ns (descriptors_of order blocks xs) n ≡ t → b < length t.links → IsSome (slot_at t b) → b < length xs
stored_taken order blocks capacity ns xs n b t s view inside taken =
    s.stored b (some_number order ns (descriptors_of order blocks xs) n b t view (numbers_alike order blocks capacity ns xs s) inside taken)

pub is_stored : (order blocks capacity : ℕ) (ns : List (Option ℕ)) (xs : List Descriptor) (b id : ℕ) → IsSized order blocks capacity ns xs → get_or ns b None ≡ Some id → b < length xs
is_stored order blocks capacity ns xs b id s is = s.stored b (ap is_some is)

-- a write of a stored descriptor is one of its block's
pub written_stored : (order blocks : ℕ) (ns : List (Option ℕ)) (xs : List Descriptor) (n b : ℕ) (e : Descriptor) → b < length xs →
    table_of order ns (descriptors_of order blocks (set xs b e)) n ≡ table_of order ns (set (descriptors_of order blocks xs) b e) n
written_stored order blocks ns xs n b e inside = ap (λ ds. table_of order ns ds n) (padded-set (blank_descriptor order) blocks xs b e inside)

-- the number of blocks
length-links : (ds : List Descriptor) → length (links_of ds) ≡ length ds
length-links [] = refl
length-links (d ∷ ds) = ap suc (length-links ds)

pub links_all : (order blocks capacity : ℕ) (ns : List (Option ℕ)) (xs : List Descriptor) (n : ℕ) (t : Table) → IsSized order blocks capacity ns xs → table_of order ns (descriptors_of order blocks xs) n ≡ t → length t.links ≡ blocks
links_all order blocks capacity ns xs n t s view =
    ap (λ (u : Table). length u.links) (sym view) ∙ length-links (descriptors_of order blocks xs) ∙ length-padded (blank_descriptor order) blocks xs s.few

-- the pair of a block, stored or not
pub link_read : (order blocks capacity : ℕ) (ns : List (Option ℕ)) (xs : List Descriptor) (n b : ℕ) (t : Table) (l : Link) → IsSized order blocks capacity ns xs → table_of order ns (descriptors_of order blocks xs) n ≡ t → b < length t.links →
    l ≡ (get_or xs b (blank_descriptor order)).link → slice_get t.links b ≡ Some l
link_read order blocks capacity ns xs n b t l s view inside is =
    ap (λ (u : Table). slice_get u.links b) (sym view) ∙ go (descriptors_of order blocks xs) b (omega (arith, links_all order blocks capacity ns xs n t s view, length-padded (blank_descriptor order) blocks xs s.few))
    ∙ ap (λ (d : Descriptor). Some d.link) (get_or-padded_default (blank_descriptor order) blocks xs b) ∙ ap (λ m. Some m) (sym is) where
      go : (ds : List Descriptor) (i : ℕ) → i < length ds → slice_get (links_of ds) i ≡ Some (get_or ds i (blank_descriptor order)).link
      go [] i below = absurd (omega arith)
      go (d ∷ ds) zero below = refl
      go (d ∷ ds) (suc i) below = go ds i (omega arith)

-- blank descriptors up to a block's change nothing
pub reached : (order blocks : ℕ) (xs ys : List Descriptor) (b : ℕ) → length xs ≤ blocks → b < blocks → ys ≡ xs ++ replicate (b + 1 - length xs) (blank_descriptor order) → descriptors_of order blocks ys ≡ descriptors_of order blocks xs
reached order blocks xs ys b few inside grown =
    ap (λ zs. descriptors_of order blocks zs) grown ∙ padded-grown (blank_descriptor order) blocks xs (b + 1 - length xs) (omega (arith, few, inside))

pub view_reached : (order blocks : ℕ) (ns : List (Option ℕ)) (xs ys : List Descriptor) (n b : ℕ) (t : Table) → length xs ≤ blocks → b < blocks → ys ≡ xs ++ replicate (b + 1 - length xs) (blank_descriptor order) →
    table_of order ns (descriptors_of order blocks xs) n ≡ t → table_of order ns (descriptors_of order blocks ys) n ≡ t
view_reached order blocks ns xs ys n b t few inside grown view = ap (λ ds. table_of order ns ds n) (reached order blocks xs ys b few inside grown) ∙ view

pub length-reached : (order : ℕ) (xs ys : List Descriptor) (b : ℕ) → ys ≡ xs ++ replicate (b + 1 - length xs) (blank_descriptor order) → length ys ≡ length xs + (b + 1 - length xs)
length-reached order xs ys b grown =
    ap (λ (zs : List Descriptor). length zs) grown ∙ length-append xs (replicate (b + 1 - length xs) (blank_descriptor order))
    ∙ ap (λ k. length xs + k) (length-replicate (b + 1 - length xs) (blank_descriptor order))

-- the sizes stay as descriptors are added or written
pub sized_grown : (order blocks capacity room : ℕ) (ns : List (Option ℕ)) (xs ys : List Descriptor) → IsSized order blocks capacity ns xs → room ≡ capacity → length xs ≤ length ys → length ys ≤ blocks → IsSized order blocks room ns ys
sized_grown order blocks capacity room ns xs ys s is more few = record {
  least_order = s.least_order;
  most_order = s.most_order;
  small = s.small;
  few = few;
  room = omega (arith, s.room, is);
  numbered = s.numbered;
  stored = λ b taken. omega (arith, s.stored b taken, more);
}

-- and as a number is set or cleared
pub sized_placed : (order blocks capacity : ℕ) (ns ms : List (Option ℕ)) (xs : List Descriptor) (b : ℕ) (o : Option ℕ) → IsSized order blocks capacity ns xs → ms ≡ set ns b o → b < length xs → IsSized order blocks capacity ms xs
sized_placed order blocks capacity ns ms xs b o s is inside = record {
  least_order = s.least_order;
  most_order = s.most_order;
  small = s.small;
  few = s.few;
  room = s.room;
  numbered = ap (λ (os : List (Option ℕ)). length os) is ∙ length-set ns b o ∙ s.numbered;
  stored = λ c taken. elim (cases_eq c b) [
    | inl e ↦ omega (arith, e, inside)
    | inr ne ↦ s.stored c (subst IsSome (ap (λ (os : List (Option ℕ)). get_or os c None) is ∙ get_or-set_other ns b c o None ne) taken)
  ];
}

-- a new table has no descriptor
pub sized_new : (order blocks capacity : ℕ) (ns : List (Option ℕ)) (xs : List Descriptor) → 2 ≤ order → order ≤ 9 → blocks < 4294967296 → blocks ≤ capacity → xs ≡ [] → ns ≡ replicate blocks None → IsSized order blocks capacity ns xs
sized_new order blocks capacity ns xs least most small room nil none = record {
  least_order = least;
  most_order = most;
  small = small;
  few = omega (arith, ap (λ (ys : List Descriptor). length ys) nil);
  room = room;
  numbered = ap (λ (os : List (Option ℕ)). length os) none ∙ length-replicate blocks None;
  stored = λ b taken. absurd (cc (taken, ap (λ (os : List (Option ℕ)). get_or os b None) none ∙ no_number blocks b));
} where
  no_number : (n b : ℕ) → ◌≡◌ {A = Option ℕ} (get_or (replicate n None) b None) None
  no_number zero b = refl
  no_number (suc n) zero = refl
  no_number (suc n) (suc b) = no_number n b
