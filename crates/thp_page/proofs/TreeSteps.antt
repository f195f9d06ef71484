-- From the fields of the trees to the blocks that hang in them.
use Rattle.std.proofs.Common.{◌≡◌, ◌≢◌, ◌∙◌, ◌<◌, ◌≤◌, ◌+◌, ◌-◌, ◌*◌, ◌/◌, ◌%◌, ◌^◌, ◌⊎◌, ◌++◌, ℕ, zero, suc, List, [], ◌∷◌, replicate, length, get_or, set, Option, Some, None, ap, sym, refl, arith, inl, inr, subst, length-set, vec_capacity}
use Rattle.std.proofs.lemmas.Bool.{cases_eq, cases_lt}
use Rattle.std.proofs.lemmas.List.{get_or_past, get_or-set_same, get_or-set_other}
use Rattle.thp_links.specs.declared.link.TheConstants.{NIL}
use Rattle.thp_page.specs.Prelude.{Child, FitsPlace, IsVacant, IsHung, HasPlace, IsLeafBelow, IsPlaceOf, IsReplaced, IsSearchable, HasTreeRoom, IsTakenOver, NumberTrees, Place, Root, block_in, bucket_in, depth_in, number_at}
use Rattle.thp_page.proofs.Seeking.{IsSought, sought_begun, sought_next, sought_none, sought_last, child_below, no_child_below}
use Rattle.thp_page.proofs.LowBits.{low_below}
use Rattle.thp_page.proofs.Hanging.{but, but_same, but_other, inserted, removed, taken_over, not_own_child, no_number}
use Rattle.std.proofs.Math.Path.{fun_ext}

-- a block with a number is one of those that are there
pub number_inside : (ns : List (Option ℕ)) (b id : ℕ) → get_or ns b None ≡ Some id → b < length ns
number_inside ns b id is = elim (cases_lt b (length ns)) [
  | inl inside ↦ inside
  | inr past ↦ absurd (cc (is, get_or_past ns b None past))
]

-- the blocks of the trees hang
abbrev pub Hangs : NumberTrees → Type 0
Hangs t = IsHung (λ b. number_at t b) (λ p. block_in t p) t.bits (length t.roots.items)

abbrev pub Sought : (t : NumberTrees) → Hangs t → (n d : ℕ) → Place → Type 0
Sought t h n d p = IsSought (λ b. number_at t b) (λ q. block_in t q) t.bits (length t.roots.items) h n d p

-- the search ends where no block hangs, where the block has the number, and where all bits are given
pub place_absent : (t : NumberTrees) (n d : ℕ) (p : Place) → Hangs t → HasPlace t p → ((h : Hangs t) → Sought t h n d p) → d ≤ 64 → block_in t p ≡ NIL → IsPlaceOf t n p
place_absent t n d p h inside s few nil = record {
  inside = inside;
  found = λ real. absurd (real nil);
  absent = λ _. sought_none (λ b. number_at t b) (λ q. block_in t q) t.bits (length t.roots.items) h n d p (s h) nil;
  free = λ k _. record { at = d; fits = (s k).fits; shallow = few };
}

pub place_found : (t : NumberTrees) (n : ℕ) (p : Place) → HasPlace t p → block_in t p ≢ NIL → number_at t (block_in t p) ≡ Some n → IsPlaceOf t n p
place_found t n p inside real is = record {
  inside = inside;
  found = λ _. is;
  absent = λ nil. absurd (real nil);
  free = λ k nil. absurd (real nil);
}

pub place_last : (t : NumberTrees) (n d : ℕ) (p : Place) → Hangs t → HasPlace t p → ((h : Hangs t) → Sought t h n d p) → d ≡ 64 → n < 2 ^ 64 → IsPlaceOf t n p
place_last t n d p h inside s end small = elim (cases_eq (block_in t p) NIL) [
  | inl nil ↦ place_absent t n d p h inside s (omega arith) nil
  | inr real ↦ place_found t n p inside real (sought_last (λ b. number_at t b) (λ q. block_in t q) t.bits (length t.roots.items) h n p (subst (λ (x : ℕ). Sought t h n x p) end (s h)) small real)
]

pub root_absent : (t : NumberTrees) (n j : ℕ) → Hangs t → j ≡ bucket_in t.bits (length t.roots.items) n → block_in t (Root j) ≡ NIL → (b : ℕ) → number_at t b ≢ Some n
root_absent t n j h bucket nil =
    let depth : ℕ = depth_in t.bits (length t.roots.items) j in
    sought_none (λ b. number_at t b) (λ q. block_in t q) t.bits (length t.roots.items) h n depth (Root j)
    (sought_begun (λ b. number_at t b) (λ q. block_in t q) t.bits (length t.roots.items) h n j depth bucket refl) nil

-- and it goes on where the block has another number
pub place_next : (t : NumberTrees) (n d e i b : ℕ) (p : Place) (h : Hangs t) → Sought t h n d p → b ≡ block_in t p → b ≢ NIL → number_at t b ≢ Some n → e ≡ suc d → i / 2 ≡ b → n / 2 ^ d % 2 ≡ i % 2 → Sought t h n e (Child i)
place_next t n d e i b p h s at real other next of side =
    subst (λ (x : ℕ). Sought t h n x (Child i)) (sym next)
    (sought_next (λ c. number_at t c) (λ q. block_in t q) t.bits (length t.roots.items) h n d i p s (λ z. real (at ∙ z)) (λ z. other (ap (λ c. number_at t c) at ∙ z)) (of ∙ at) side)

-- the walk to a leaf goes on to a child
pub record IsBelow (t : NumberTrees) (p q : Place) (d : ℕ) : Type 0 where
  pub inside : HasPlace t q
  pub occupied : block_in t q ≢ NIL
  pub deep : (h : Hangs t) → d ≤ h.depth (block_in t q)
  pub below : (h : Hangs t) → h.depth (block_in t p) ≤ h.depth (block_in t q)
  pub low : (h : Hangs t) (n m : ℕ) → number_at t (block_in t p) ≡ Some n → number_at t (block_in t q) ≡ Some m → m % 2 ^ h.depth (block_in t p) ≡ n % 2 ^ h.depth (block_in t p)

pub below_first : (t : NumberTrees) (p : Place) → HasPlace t p → block_in t p ≢ NIL → IsBelow t p p 0
below_first t p inside real = record {
  inside = inside;
  occupied = real;
  deep = λ h. omega arith;
  below = λ h. omega arith;
  low = λ h n m is has. ap (λ (x : ℕ). x % 2 ^ h.depth (block_in t p)) (cc);
}

pub below_next : (t : NumberTrees) (p q : Place) (d e i : ℕ) → IsBelow t p q d → e ≡ suc d → i / 2 ≡ block_in t q → i < length t.children.items → block_in t (Child i) ≢ NIL → IsBelow t p (Child i) e
below_next t p q d e i w next of inside real =
    let child : (h : Hangs t) (m k : ℕ) → number_at t (block_in t q) ≡ Some m → number_at t (block_in t (Child i)) ≡ Some k →
    (h.depth (block_in t (Child i)) ≡ suc (h.depth (block_in t q))) × (k % 2 ^ h.depth (block_in t q) ≡ m % 2 ^ h.depth (block_in t q)) =
    λ h m k is has. child_below (λ c. number_at t c) (λ r. block_in t r) t.bits (length t.roots.items) h q i m k of real is has in
    let known : (h : Hangs t) → h.depth (block_in t (Child i)) ≡ suc (h.depth (block_in t q)) = λ h. (child h (h.held q w.occupied).number (h.held (Child i) real).number (h.held q w.occupied).numbered (h.held (Child i) real).numbered).0 in
    record {
      inside = inside;
      occupied = real;
      deep = λ h. omega (arith, known h, w.deep h, next);
      below = λ h. omega (arith, known h, w.below h);
      low = λ h n k is has. (
          let m = h.held q w.occupied in
          low_below k m.number (h.depth (block_in t p)) (h.depth (block_in t q)) (w.below h) (child h m.number k m.numbered has).1 ∙ w.low h n m.number is m.numbered);
    }

-- it ends where there is no child
pub below_leaf : (t : NumberTrees) (p q : Place) (d : ℕ) → IsBelow t p q d → ((i : ℕ) → i / 2 ≡ block_in t q → block_in t (Child i) ≡ NIL) → IsLeafBelow t p q
below_leaf t p q d w alone = record { inside = w.inside; occupied = w.occupied; alone = alone; low = w.low }

pub below_last : (t : NumberTrees) (p q : Place) (d : ℕ) → Hangs t → IsBelow t p q d → d ≡ 64 → IsLeafBelow t p q
below_last t p q d h w end = below_leaf t p q d w (λ i of. no_child_below (λ c. number_at t c) (λ r. block_in t r) t.bits (length t.roots.items) h q i of w.occupied (omega (arith, w.deep h, end)))

-- trees are searchable where their blocks hang
pub searchable_from : (t : NumberTrees) (bits buckets : ℕ) → IsHung (λ b. number_at t b) (λ p. block_in t p) bits buckets → t.bits ≡ bits → length t.roots.items ≡ buckets → t.mask ≡ 2 ^ suc bits - 1 →
    length t.numbers.items < 2 ^ 32 → length t.children.items ≡ 2 * length t.numbers.items → IsSearchable t
searchable_from t bits buckets h same size mask small both = record {
  small = small;
  mask = mask ∙ ap (λ n. 2 ^ suc n - 1) (sym same);
  both = both;
  hung = subst (λ (n : ℕ). IsHung (λ b. number_at t b) (λ p. block_in t p) n (length t.roots.items)) (sym same) (subst (λ (n : ℕ). IsHung (λ b. number_at t b) (λ p. block_in t p) bits n) (sym size) h);
}

-- places of the same lists have the same blocks
pub block_same : (t u : NumberTrees) → u.children.items ≡ t.children.items → u.roots.items ≡ t.roots.items → (p : Place) → block_in u p ≡ block_in t p
block_same t u children roots (Root j) = ap (λ (xs : List ℕ). get_or xs j NIL) roots
block_same t u children roots (Child i) = ap (λ (xs : List ℕ). get_or xs i NIL) children

-- a number is set, or cleared
number_set : (t u : NumberTrees) (b : ℕ) (o : Option ℕ) → b < length t.numbers.items → u.numbers.items ≡ set t.numbers.items b o → number_at u b ≡ o
number_set t u b o inside is = ap (λ (ns : List (Option ℕ)). get_or ns b None) is ∙ get_or-set_same t.numbers.items b o None inside

number_other : (t u : NumberTrees) (b : ℕ) (o : Option ℕ) → u.numbers.items ≡ set t.numbers.items b o → (c : ℕ) → c ≢ b → number_at u c ≡ number_at t c
number_other t u b o is c ne = ap (λ (ns : List (Option ℕ)). get_or ns c None) is ∙ get_or-set_other t.numbers.items b c o None ne

pub set_alike : (t u : NumberTrees) (b : ℕ) (o : Option ℕ) → u.numbers ≡ t.numbers → set u.numbers.items b o ≡ set t.numbers.items b o
set_alike t u b o e = cc

length_set : (t u : NumberTrees) (b : ℕ) (o : Option ℕ) → u.numbers.items ≡ set t.numbers.items b o → length u.numbers.items ≡ length t.numbers.items
length_set t u b o is = ap (λ (ns : List (Option ℕ)). length ns) is ∙ length-set t.numbers.items b o

-- a block is hung at the place of its number
pub placed : (t t1 u : NumberTrees) (b n : ℕ) (p : Place) → IsSearchable t → b < length t.numbers.items → number_at t b ≡ None → ((c : ℕ) → number_at t c ≢ Some n) → n < 2 ^ 64 → IsPlaceOf t n p → IsReplaced t t1 p b →
    u.numbers.items ≡ set t.numbers.items b (Some n) → u.children.items ≡ t1.children.items → u.roots.items ≡ t1.roots.items → u.bits ≡ t1.bits → u.mask ≡ t1.mask → IsSearchable u
placed t t1 u b n p s inside empty new small place r nums children roots bits mask =
    let h = s.hung in
    let nil : block_in t p ≡ NIL = elim (cases_eq (block_in t p) NIL) [
      | inl e ↦ e
      | inr real ↦ absurd (new (block_in t p) (place.found real))
    ] in
    let f = place.free h nil in
    let real : b ≢ NIL = λ z. absurd (omega (arith, z, inside, s.small)) in
    let same = block_same t1 u children roots in
    searchable_from u t.bits (length t.roots.items)
    (inserted (λ c. number_at t c) (λ c. number_at u c) (λ q. block_in t q) (λ q. block_in u q) t.bits (length t.roots.items) h b n f.at p empty nil f.fits f.shallow small real new
    (number_set t u b (Some n) inside nums) (number_other t u b (Some n) nums) (same p ∙ r.here) (λ q ne. same q ∙ r.others q ne))
    (bits ∙ r.bits) (ap (λ (xs : List ℕ). length xs) roots ∙ r.roots_size) (mask ∙ r.mask ∙ s.mask)
    (omega (arith, length_set t u b (Some n) nums, s.small)) (omega (arith, ap (λ (xs : List ℕ). length xs) children, r.children_size, s.both, length_set t u b (Some n) nums))

-- the place of a block's number is the block's
pub own_real : (t : NumberTrees) (b n : ℕ) (p : Place) → number_at t b ≡ Some n → IsPlaceOf t n p → block_in t p ≢ NIL
own_real t b n p is place nil = place.absent nil b is

pub own_block : (t : NumberTrees) (b n : ℕ) (p : Place) → IsSearchable t → number_at t b ≡ Some n → IsPlaceOf t n p → block_in t p ≡ b
own_block t b n p s is place = s.hung.single (block_in t p) b n (place.found (own_real t b n p is place)) is

pub own_place : (t : NumberTrees) (b n : ℕ) (p : Place) (s : IsSearchable t) → number_at t b ≡ Some n → IsPlaceOf t n p → s.hung.place b ≡ p
own_place t b n p s is place = ap s.hung.place (sym (own_block t b n p s is place)) ∙ (s.hung.held p (own_real t b n p is place)).there

-- neither the block nor a leaf is the parent there
pub own_outside : (t : NumberTrees) (b n : ℕ) (p q : Place) → IsSearchable t → number_at t b ≡ Some n → IsPlaceOf t n p → IsLeafBelow t p q → (i : ℕ) → p ≡ Child i → (i / 2 ≢ b) × (i / 2 ≢ block_in t q)
own_outside t b n p q s is place leaf i at = (
  λ of. not_own_child (λ c. number_at t c) s.hung.depth t.bits (length t.roots.items) (s.hung.place b) b n i (own_place t b n p s is place ∙ at) of (s.hung.hung b n is).fits,
  λ of. own_real t b n p is place (ap (λ x. block_in t x) at ∙ leaf.alone i of),
)

-- a leaf is cleared
pub cleared_leaf : (t t1 u : NumberTrees) (b n : ℕ) (p q : Place) → IsSearchable t → number_at t b ≡ Some n → IsLeafBelow t p q → block_in t q ≡ b → IsReplaced t t1 q NIL →
    u.numbers.items ≡ set t.numbers.items b None → u.children.items ≡ t1.children.items → u.roots.items ≡ t1.roots.items → u.bits ≡ t1.bits → u.mask ≡ t1.mask → IsSearchable u
cleared_leaf t t1 u b n p q s is leaf at r nums children roots bits mask =
    let h = s.hung in
    let inside : b < length t.numbers.items = number_inside t.numbers.items b n is in
    let there : h.place b ≡ q = ap h.place (sym at) ∙ (h.held q leaf.occupied).there in
    let same = block_same t1 u children roots in
    searchable_from u t.bits (length t.roots.items)
    (removed (λ c. number_at t c) (λ c. number_at u c) (λ x. block_in t x) (λ x. block_in u x) t.bits (length t.roots.items) h b n is (λ i of. leaf.alone i (of ∙ sym at))
    (number_set t u b None inside nums) (number_other t u b None nums) (ap (λ x. block_in u x) there ∙ same q ∙ r.here) (λ x ne. same x ∙ r.others x (λ z. ne (z ∙ sym there))))
    (bits ∙ r.bits) (ap (λ (xs : List ℕ). length xs) roots ∙ r.roots_size) (mask ∙ r.mask ∙ s.mask)
    (omega (arith, length_set t u b None nums, s.small)) (omega (arith, ap (λ (xs : List ℕ). length xs) children, r.children_size, s.both, length_set t u b None nums))

-- a block above a leaf is cleared, and the leaf takes over
module _ (t t1 t2 u : NumberTrees) (b n : ℕ) (p q : Place) (s : IsSearchable t) (is : number_at t b ≡ Some n) (place : IsPlaceOf t n p) (leaf : IsLeafBelow t p q) (r : IsReplaced t t1 q NIL)
    (other : block_in t q ≢ b) (o : IsTakenOver t1 t2 p b (block_in t q)) (nums : u.numbers.items ≡ set t.numbers.items b None) (children : u.children.items ≡ t2.children.items) (roots : u.roots.items ≡ t2.roots.items) where
  abbrev l : ℕ
  l = block_in t q

  abbrev k : ℕ
  k = (s.hung.held q leaf.occupied).number

  abbrev has : number_at t l ≡ Some k
  has = (s.hung.held q leaf.occupied).numbered

  abbrev between : ℕ → Option ℕ
  between = but (λ c. number_at t c) l None

  abbrev there : s.hung.place l ≡ q
  there = (s.hung.held q leaf.occupied).there

  abbrev without_leaf : IsHung between (λ x. block_in t1 x) t.bits (length t.roots.items)
  without_leaf = removed (λ c. number_at t c) between (λ x. block_in t x) (λ x. block_in t1 x) t.bits (length t.roots.items) s.hung l k has leaf.alone
      (but_same (λ c. number_at t c) l None l refl) (λ c ne. but_other (λ x. number_at t x) l None c ne) (ap (λ x. block_in t1 x) there ∙ r.here) (λ x ne. r.others x (λ z. ne (z ∙ sym there)))

  with_leaf : IsHung (λ c. number_at u c) (λ x. block_in u x) t.bits (length t.roots.items)
  with_leaf =
      let h = s.hung in
      let inside : b < length t.numbers.items = number_inside t.numbers.items b n is in
      let back : block_in t p ≡ b = own_block t b n p s is place in
      let home : h.place b ≡ p = own_place t b n p s is place in
      let same = block_same t2 u children roots in
      taken_over between (λ c. number_at u c) (λ x. block_in t1 x) (λ x. block_in u x) t.bits (length t.roots.items) without_leaf b n l k
      (but_other (λ x. number_at t x) l None b (λ z. other (sym z)) ∙ is) (but_same (λ c. number_at t c) l None l refl)
      (subst (λ (x : ℕ). k % 2 ^ h.depth x ≡ n % 2 ^ h.depth x) back (leaf.low h n k (ap (λ c. number_at t c) back ∙ is) has))
      (h.hung l k has).small leaf.occupied
      (λ c x. elim (cases_eq c l) [
        | inl e ↦ no_number (between c) k (but_same (λ y. number_at t y) l None c e) x
        | inr ne ↦ ne (h.single c l k (sym (but_other (λ y. number_at t y) l None c ne) ∙ x) has)
      ])
      (number_set t u b None inside nums) (number_other t u b None nums l other ∙ has)
      (λ c nb nl. number_other t u b None nums c nb ∙ sym (but_other (λ y. number_at t y) l None c nl))
      (ap (λ x. block_in u x) home ∙ same p ∙ o.here) (λ i j x y z. same (Child i) ∙ o.moved i j x y z) (λ i x. same (Child i) ∙ o.gone i x)
      (λ x ne out. same x ∙ o.others x (λ z. ne (z ∙ sym home)) out)

  pub cleared_inner : u.bits ≡ t2.bits → u.mask ≡ t2.mask → IsSearchable u
  cleared_inner bits mask =
      searchable_from u t.bits (length t.roots.items) with_leaf (bits ∙ o.bits ∙ r.bits) (ap (λ (xs : List ℕ). length xs) roots ∙ o.roots_size ∙ r.roots_size) (mask ∙ o.mask ∙ r.mask ∙ s.mask)
      (omega (arith, length_set t u b None nums, s.small)) (omega (arith, ap (λ (xs : List ℕ). length xs) children, o.children_size, r.children_size, s.both, length_set t u b None nums))

-- a block takes over another's children
module _ (xs : List ℕ) (b c v w n : ℕ) (both : length xs ≡ 2 * n) (inside : b < n) (there : c < n) (apart : b ≢ c) where
  abbrev pub moved_list : List ℕ
  moved_list = set (set (set (set xs (2 * c) v) (2 * c + 1) w) (2 * b) NIL) (2 * b + 1) NIL

  pub length_moved : length moved_list ≡ length xs
  length_moved =
      length-set (set (set (set xs (2 * c) v) (2 * c + 1) w) (2 * b) NIL) (2 * b + 1) NIL ∙ length-set (set (set xs (2 * c) v) (2 * c + 1) w) (2 * b) NIL
      ∙ length-set (set xs (2 * c) v) (2 * c + 1) w ∙ length-set xs (2 * c) v

  pub get_moved_other : (i : ℕ) → i / 2 ≢ b → i / 2 ≢ c → get_or moved_list i NIL ≡ get_or xs i NIL
  get_moved_other i nb nc =
      get_or-set_other (set (set (set xs (2 * c) v) (2 * c + 1) w) (2 * b) NIL) (2 * b + 1) i NIL NIL (λ e. nb (omega (arith, e)))
      ∙ get_or-set_other (set (set xs (2 * c) v) (2 * c + 1) w) (2 * b) i NIL NIL (λ e. nb (omega (arith, e)))
      ∙ get_or-set_other (set xs (2 * c) v) (2 * c + 1) i w NIL (λ e. nc (omega (arith, e)))
      ∙ get_or-set_other xs (2 * c) i v NIL (λ e. nc (omega (arith, e)))

  pub get_moved_gone : (i : ℕ) → i / 2 ≡ b → get_or moved_list i NIL ≡ NIL
  get_moved_gone i of = elim (cases_eq i (2 * b + 1)) [
    | inl e ↦ ap (λ (k : ℕ). get_or moved_list k NIL) e
        ∙ get_or-set_same (set (set (set xs (2 * c) v) (2 * c + 1) w) (2 * b) NIL) (2 * b + 1) NIL NIL
        (omega (arith, both, inside, length-set (set (set xs (2 * c) v) (2 * c + 1) w) (2 * b) NIL, length-set (set xs (2 * c) v) (2 * c + 1) w, length-set xs (2 * c) v))
    | inr ne ↦ (
        let e : i ≡ 2 * b = omega (arith, of, ne) in
        get_or-set_other (set (set (set xs (2 * c) v) (2 * c + 1) w) (2 * b) NIL) (2 * b + 1) i NIL NIL ne
        ∙ ap (λ (k : ℕ). get_or (set (set (set xs (2 * c) v) (2 * c + 1) w) (2 * b) NIL) k NIL) e
        ∙ get_or-set_same (set (set xs (2 * c) v) (2 * c + 1) w) (2 * b) NIL NIL (omega (arith, both, inside, length-set (set xs (2 * c) v) (2 * c + 1) w, length-set xs (2 * c) v)))
  ]

  pub get_moved : v ≡ get_or xs (2 * b) NIL → w ≡ get_or xs (2 * b + 1) NIL → (i j : ℕ) → i / 2 ≡ c → j / 2 ≡ b → i % 2 ≡ j % 2 → get_or moved_list i NIL ≡ get_or xs j NIL
  get_moved left right i j of from side =
      let nb : i / 2 ≢ b = λ e. apart (sym e ∙ of) in
      get_or-set_other (set (set (set xs (2 * c) v) (2 * c + 1) w) (2 * b) NIL) (2 * b + 1) i NIL NIL (λ e. nb (omega (arith, e)))
      ∙ get_or-set_other (set (set xs (2 * c) v) (2 * c + 1) w) (2 * b) i NIL NIL (λ e. nb (omega (arith, e)))
      ∙ elim (cases_eq i (2 * c + 1)) [
        | inl e ↦ (
            let at : j ≡ 2 * b + 1 = omega (arith, e, from, side) in
            ap (λ (k : ℕ). get_or (set (set xs (2 * c) v) (2 * c + 1) w) k NIL) e
            ∙ get_or-set_same (set xs (2 * c) v) (2 * c + 1) w NIL (omega (arith, both, there, length-set xs (2 * c) v)) ∙ right ∙ ap (λ (k : ℕ). get_or xs k NIL) (sym at))
        | inr ne ↦ (
            let e : i ≡ 2 * c = omega (arith, of, ne) in
            let at : j ≡ 2 * b = omega (arith, e, from, side) in
            get_or-set_other (set xs (2 * c) v) (2 * c + 1) i w NIL ne ∙ ap (λ (k : ℕ). get_or (set xs (2 * c) v) k NIL) e
            ∙ get_or-set_same xs (2 * c) v NIL (omega (arith, both, there)) ∙ left ∙ ap (λ (k : ℕ). get_or xs k NIL) (sym at))
      ]

pub took_over : (t t4 u : NumberTrees) (p : Place) (b c v w : ℕ) → length t.children.items ≡ 2 * length t.numbers.items → b < length t.numbers.items → c < length t.numbers.items → b ≢ c → ((i : ℕ) → p ≡ Child i → (i / 2 ≢ b) × (i / 2 ≢ c)) →
    v ≡ get_or t.children.items (2 * b) NIL → w ≡ get_or t.children.items (2 * b + 1) NIL →
    t4.children.items ≡ set (set (set (set t.children.items (2 * c) v) (2 * c + 1) w) (2 * b) NIL) (2 * b + 1) NIL → t4.roots.items ≡ t.roots.items → t4.numbers ≡ t.numbers → t4.bits ≡ t.bits → t4.mask ≡ t.mask →
    vec_capacity t4.children ≡ vec_capacity t.children → vec_capacity t4.roots ≡ vec_capacity t.roots → IsReplaced t4 u p c → IsTakenOver t u p b c
took_over t t4 u p b c v w both inside there apart outside left right children roots numbers bits mask children_room roots_room r =
    let xs = t.children.items in
    let n : ℕ = length t.numbers.items in
    record {
      numbers = r.numbers ∙ numbers;
      bits = r.bits ∙ bits;
      mask = r.mask ∙ mask;
      children_size = r.children_size ∙ ap (λ (ys : List ℕ). length ys) children ∙ length_moved xs b c v w n both inside there apart;
      roots_size = r.roots_size ∙ ap (λ (ys : List ℕ). length ys) roots;
      children_room = r.children_room ∙ children_room;
      roots_room = r.roots_room ∙ roots_room;
      here = r.here;
      moved = λ i j x y z. r.others (Child i) (λ e. (outside i (sym e)).1 x) ∙ ap (λ (ys : List ℕ). get_or ys i NIL) children ∙ get_moved xs b c v w n both inside there apart left right i j x y z;
      gone = λ i x. r.others (Child i) (λ e. (outside i (sym e)).0 x) ∙ ap (λ (ys : List ℕ). get_or ys i NIL) children ∙ get_moved_gone xs b c v w n both inside there apart i x;
      others = λ q ne out. r.others q ne ∙ others_at q out;
    } where
      others_at : (q : Place) → ((i : ℕ) → q ≡ Child i → (i / 2 ≢ b) × (i / 2 ≢ c)) → block_in t4 q ≡ block_in t q
      others_at (Root j) out = ap (λ (ys : List ℕ). get_or ys j NIL) roots
      others_at (Child i) out = ap (λ (ys : List ℕ). get_or ys i NIL) children ∙ get_moved_other t.children.items b c v w (length t.numbers.items) both inside there apart i (out i refl).0 (out i refl).1

-- added blocks have no number, and there are no more blocks at the places
no_number_at : (ns : List (Option ℕ)) (c : ℕ) → get_or (ns ++ None ∷ []) c None ≡ get_or ns c None
no_number_at [] zero = refl
no_number_at [] (suc c) = refl
no_number_at (n ∷ ns) zero = refl
no_number_at (n ∷ ns) (suc c) = no_number_at ns c

pub nil_at : (xs : List ℕ) (i : ℕ) → get_or (xs ++ NIL ∷ []) i NIL ≡ get_or xs i NIL
nil_at [] zero = refl
nil_at [] (suc i) = refl
nil_at (x ∷ xs) zero = refl
nil_at (x ∷ xs) (suc i) = nil_at xs i

pub pushed : (t u : NumberTrees) → IsSearchable t → length t.numbers.items + 1 < 2 ^ 32 → u.numbers.items ≡ t.numbers.items ++ None ∷ [] → u.children.items ≡ (t.children.items ++ NIL ∷ []) ++ NIL ∷ [] → u.roots.items ≡ t.roots.items →
    u.bits ≡ t.bits → u.mask ≡ t.mask → length u.numbers.items ≡ length t.numbers.items + 1 → length u.children.items ≡ length t.children.items + 2 → IsSearchable u
pushed t u s few nums children roots bits mask size child_size =
    let number : (c : ℕ) → number_at u c ≡ number_at t c = λ c. ap (λ (ns : List (Option ℕ)). get_or ns c None) nums ∙ no_number_at t.numbers.items c in
    let block : (x : Place) → block_in u x ≡ block_in t x = at_place in
    let F : (ℕ → Option ℕ) → Type 0 = λ f. IsHung f (λ x. block_in u x) t.bits (length t.roots.items) in
    let G : (Place → ℕ) → Type 0 = λ f. IsHung (λ c. number_at t c) f t.bits (length t.roots.items) in
    searchable_from u t.bits (length t.roots.items) (subst F (sym (fun_ext number)) (subst G (sym (fun_ext block)) s.hung)) bits (ap (λ (xs : List ℕ). length xs) roots) (mask ∙ s.mask)
    (omega (arith, size, few)) (omega (arith, size, child_size, s.both)) where
      at_place : (x : Place) → block_in u x ≡ block_in t x
      at_place (Root j) = ap (λ (xs : List ℕ). get_or xs j NIL) roots
      at_place (Child i) = ap (λ (xs : List ℕ). get_or xs i NIL) children ∙ nil_at (t.children.items ++ NIL ∷ []) i ∙ nil_at t.children.items i

-- nothing hangs in new trees
nil_all : (n i : ℕ) → get_or (replicate n NIL) i NIL ≡ NIL
nil_all zero i = refl
nil_all (suc n) zero = refl
nil_all (suc n) (suc i) = nil_all n i

pub new_trees : (t : NumberTrees) → t.numbers.items ≡ [] → t.children.items ≡ [] → t.roots.items ≡ replicate 8192 NIL → length t.roots.items ≡ 8192 → t.bits ≡ 12 → t.mask ≡ 8191 → IsSearchable t
new_trees t nums children roots size bits mask =
    let none : (c : ℕ) → number_at t c ≡ None = λ c. ap (λ (ns : List (Option ℕ)). get_or ns c None) nums in
    searchable_from t 12 8192 (record {
      least = omega arith;
      most = omega arith;
      few_bits = omega arith;
      place = λ c. Root 0;
      depth = λ c. 0;
      hung = λ c m is. absurd (no_number (number_at t c) m (none c) is);
      held = λ x real. absurd (real (at_place x));
      single = λ c d m x y. absurd (no_number (number_at t c) m (none c) x);
    }) bits size mask (omega (arith, ap (λ (ns : List (Option ℕ)). length ns) nums)) (omega (arith, ap (λ (ns : List (Option ℕ)). length ns) nums, ap (λ (xs : List ℕ). length xs) children)) where
      at_place : (x : Place) → block_in t x ≡ NIL
      at_place (Root j) = ap (λ (xs : List ℕ). get_or xs j NIL) roots ∙ nil_all 8192 j
      at_place (Child i) = ap (λ (xs : List ℕ). get_or xs i NIL) children
