-- From the fields of the trees to a bucket that is split.
use Rattle.std.proofs.Common.{◌≡◌, ◌≢◌, ◌∙◌, ◌<◌, ◌≤◌, ◌+◌, ◌-◌, ◌*◌, ◌/◌, ◌%◌, ◌^◌, ◌++◌, ℕ, zero, suc, List, [], ◌∷◌, length, get_or, set, Option, Some, None, ap, sym, refl, arith, inl, inr, subst, length-set, length-append, vec_capacity}
use Rattle.std.proofs.Math.Path.{fun_ext}
use Rattle.std.proofs.lemmas.Bool.{cases_eq}
use Rattle.std.proofs.lemmas.List.{get_or-set_same, get_or-set_other}
use Rattle.std.proofs.lemmas.Nat.{pow_pos}
use Rattle.thp_links.specs.declared.link.TheConstants.{NIL}
use Rattle.thp_page.specs.Prelude.{Child, HasTreeRoom, IsHung, IsParted, IsSearchable, NumberTrees, Place, Root, block_in, number_at}
use Rattle.thp_page.proofs.Splitting.{grown_empty, parted}
use Rattle.thp_page.proofs.TreeSteps.{number_inside, searchable_from, block_same}

-- one more bucket
pub bucket_last : (xs : List ℕ) (w : ℕ) → get_or (xs ++ w ∷ []) (length xs) NIL ≡ w
bucket_last [] w = refl
bucket_last (x ∷ xs) w = bucket_last xs w

pub bucket_other : (xs : List ℕ) (w k : ℕ) → k ≢ length xs → get_or (xs ++ w ∷ []) k NIL ≡ get_or xs k NIL
bucket_other [] w zero ne = absurd (ne refl)
bucket_other [] w (suc k) ne = refl
bucket_other (x ∷ xs) w zero ne = refl
bucket_other (x ∷ xs) w (suc k) ne = bucket_other xs w k (λ e. ne (ap suc e))

pub grown_trees : (t u : NumberTrees) (j : ℕ) → IsSearchable t → j + 2 ^ t.bits ≡ length t.roots.items → length t.roots.items < 2 ^ suc t.bits → block_in t (Root j) ≡ NIL → u.numbers.items ≡ t.numbers.items → u.children.items ≡ t.children.items →
    u.roots.items ≡ t.roots.items ++ NIL ∷ [] → u.bits ≡ t.bits → u.mask ≡ t.mask → IsSearchable u
grown_trees t u j s size more empty nums children roots bits mask =
    let number : (c : ℕ) → number_at u c ≡ number_at t c = λ c. ap (λ (ns : List (Option ℕ)). get_or ns c None) nums in
    let F : (ℕ → Option ℕ) → Type 0 = λ f. IsHung f (λ x. block_in u x) t.bits (suc (length t.roots.items)) in
    searchable_from u t.bits (suc (length t.roots.items))
    (subst F (sym (fun_ext number)) (grown_empty (λ c. number_at t c) (λ x. block_in t x) (λ x. block_in u x) t.bits (length t.roots.items) j s.hung empty size more
    (ap (λ (xs : List ℕ). get_or xs (length t.roots.items) NIL) roots ∙ bucket_last t.roots.items NIL) rest))
    bits (ap (λ (xs : List ℕ). length xs) roots ∙ length-append t.roots.items (NIL ∷ []) ∙ omega arith) (mask ∙ s.mask)
    (omega (arith, ap (λ (ns : List (Option ℕ)). length ns) nums, s.small)) (omega (arith, ap (λ (ns : List (Option ℕ)). length ns) nums, ap (λ (xs : List ℕ). length xs) children, s.both)) where
      rest : (q : Place) → q ≢ Root (length t.roots.items) → block_in u q ≡ block_in t q
      rest (Root k) ne = ap (λ (xs : List ℕ). get_or xs k NIL) roots ∙ bucket_other t.roots.items NIL k (λ e. ne (ap (λ (x : ℕ). Root x) e))
      rest (Child i) ne = ap (λ (xs : List ℕ). get_or xs i NIL) children

pub parted_trees : (t t1 u : NumberTrees) (j b n : ℕ) → IsSearchable t → j + 2 ^ t.bits ≡ length t.roots.items → length t.roots.items < 2 ^ suc t.bits → block_in t (Root j) ≡ b → b ≢ NIL → number_at t b ≡ Some n →
    t1.numbers.items ≡ set t.numbers.items b None → t1.children.items ≡ t.children.items → t1.roots.items ≡ t.roots.items → t1.bits ≡ t.bits → t1.mask ≡ t.mask → u.numbers.items ≡ t1.numbers.items → IsParted t1 u j b → IsSearchable u
parted_trees t t1 u j b n s size more root real is nums children roots bits mask kept o =
    let len : ℕ = length t.roots.items in
    let inside = number_inside t.numbers.items b n is in
    let all : u.numbers.items ≡ set t.numbers.items b None = kept ∙ nums in
    let same = block_same t t1 children roots in
    let as_long : length t1.roots.items ≡ len = ap (λ (xs : List ℕ). length xs) roots in
    let last : Root (length t1.roots.items) ≡ Root len = ap (λ (x : ℕ). Root x) as_long in
    let count : length u.numbers.items ≡ length t.numbers.items = ap (λ (ns : List (Option ℕ)). length ns) all ∙ length-set t.numbers.items b None in
    searchable_from u t.bits (suc len)
    (parted (λ c. number_at t c) (λ c. number_at u c) (λ x. block_in t x) (λ x. block_in u x) t.bits len s.hung j b n root real is size more
    (ap (λ (ns : List (Option ℕ)). get_or ns b None) all ∙ get_or-set_same t.numbers.items b None None inside)
    (λ c ne. ap (λ (ns : List (Option ℕ)). get_or ns c None) all ∙ get_or-set_other t.numbers.items b c None None ne)
    (λ i x y. o.left i x y ∙ same (Child i)) (λ i x y. ap (λ q. block_in u q) (sym last) ∙ o.right i x y ∙ same (Child i)) o.gone
    (λ q nj nn out. o.others q nj (λ z. nn (z ∙ last)) out ∙ same q))
    (o.bits ∙ bits) (o.roots_size ∙ ap suc as_long) (o.mask ∙ mask ∙ s.mask)
    (omega (arith, count, s.small)) (omega (arith, count, o.children_size, ap (λ (xs : List ℕ). length xs) children, s.both))

pub room_parted : (blocks : ℕ) (t t1 u : NumberTrees) (j b : ℕ) → HasTreeRoom blocks t → length t1.numbers.items ≡ length t.numbers.items → vec_capacity t1.numbers ≡ vec_capacity t.numbers → vec_capacity t1.children ≡ vec_capacity t.children → vec_capacity t1.roots ≡ vec_capacity t.roots →
    length u.numbers.items ≡ length t1.numbers.items → vec_capacity u.numbers ≡ vec_capacity t1.numbers → IsParted t1 u j b → HasTreeRoom blocks u
room_parted blocks t t1 u j b r size numbers children roots kept kept_room o = record {
  small = r.small;
  few = omega (arith, r.few, size, kept);
  numbers_room = omega (arith, r.numbers_room, numbers, kept_room);
  children_room = omega (arith, r.children_room, children, o.children_room);
  roots_room = omega (arith, r.roots_room, roots, o.roots_room);
}

alike_items : (t u : NumberTrees) → u.numbers ≡ t.numbers → u.numbers.items ≡ t.numbers.items
alike_items t u e = cc

alike_room : (t u : NumberTrees) → u.numbers ≡ t.numbers → vec_capacity u.numbers ≡ vec_capacity t.numbers
alike_room t u e = cc

pub same_items : (t u : NumberTrees) (j b : ℕ) → IsParted t u j b → u.numbers.items ≡ t.numbers.items
same_items t u j b o = alike_items t u o.numbers

pub same_room : (t u : NumberTrees) (j b : ℕ) → IsParted t u j b → vec_capacity u.numbers ≡ vec_capacity t.numbers
same_room t u j b o = alike_room t u o.numbers

-- a number set anew
pub set_back : (ns : List (Option ℕ)) (b n : ℕ) → get_or ns b None ≡ Some n → set (set ns b None) b (Some n) ≡ ns
set_back [] b n is = refl
set_back (m ∷ ns) zero n is = ap (λ (o : Option ℕ). o ∷ ns) (sym is)
set_back (m ∷ ns) (suc b) n is = ap (λ (os : List (Option ℕ)). m ∷ os) (set_back ns b n is)

-- the children of a root become roots
pub parts : (t u : NumberTrees) (j b v w : ℕ) → j < length t.roots.items → b < length t.numbers.items → length t.children.items ≡ 2 * length t.numbers.items → v ≡ get_or t.children.items (2 * b) NIL → w ≡ get_or t.children.items (2 * b + 1) NIL →
    u.numbers ≡ t.numbers → u.bits ≡ t.bits → u.mask ≡ t.mask → u.children.items ≡ set (set t.children.items (2 * b) NIL) (2 * b + 1) NIL → u.roots.items ≡ set t.roots.items j v ++ w ∷ [] →
    vec_capacity u.children ≡ vec_capacity t.children → vec_capacity u.roots ≡ vec_capacity t.roots → IsParted t u j b
parts t u j b v w inside there both left right numbers bits mask children roots children_room roots_room =
    let xs = t.children.items in
    let rs = t.roots.items in
    let long : length (set rs j v) ≡ length rs = length-set rs j v in
    record {
      numbers = numbers;
      bits = bits;
      mask = mask;
      children_size = ap (λ (ys : List ℕ). length ys) children ∙ length-set (set xs (2 * b) NIL) (2 * b + 1) NIL ∙ length-set xs (2 * b) NIL;
      roots_size = ap (λ (ys : List ℕ). length ys) roots ∙ length-append (set rs j v) (w ∷ []) ∙ omega (arith, long);
      children_room = children_room;
      roots_room = roots_room;
      left = λ i of even. ap (λ (ys : List ℕ). get_or ys j NIL) roots ∙ bucket_other (set rs j v) w j (λ e. absurd (omega (arith, e, long, inside))) ∙ get_or-set_same rs j v NIL inside
          ∙ left ∙ ap (λ (k : ℕ). get_or xs k NIL) (omega (arith, of, even));
      right = λ i of odd. ap (λ (ys : List ℕ). get_or ys (length rs) NIL) roots ∙ ap (λ (k : ℕ). get_or (set rs j v ++ w ∷ []) k NIL) (sym long) ∙ bucket_last (set rs j v) w
          ∙ right ∙ ap (λ (k : ℕ). get_or xs k NIL) (omega (arith, of, odd));
      gone = λ i of. ap (λ (ys : List ℕ). get_or ys i NIL) children ∙ elim (cases_eq i (2 * b + 1)) [
        | inl e ↦ ap (λ (k : ℕ). get_or (set (set xs (2 * b) NIL) (2 * b + 1) NIL) k NIL) e ∙ get_or-set_same (set xs (2 * b) NIL) (2 * b + 1) NIL NIL (omega (arith, both, there, length-set xs (2 * b) NIL))
        | inr ne ↦ get_or-set_other (set xs (2 * b) NIL) (2 * b + 1) i NIL NIL ne ∙ ap (λ (k : ℕ). get_or (set xs (2 * b) NIL) k NIL) (omega (arith, of, ne)) ∙ get_or-set_same xs (2 * b) NIL NIL (omega (arith, both, there))
      ];
      others = others;
    } where
      others : (q : Place) → q ≢ Root j → q ≢ Root (length t.roots.items) → ((i : ℕ) → q ≡ Child i → i / 2 ≢ b) → block_in u q ≡ block_in t q
      others (Root k) nj nn out =
          ap (λ (ys : List ℕ). get_or ys k NIL) roots ∙ bucket_other (set t.roots.items j v) w k (λ e. nn (ap (λ (x : ℕ). Root x) (e ∙ length-set t.roots.items j v)))
          ∙ get_or-set_other t.roots.items j k v NIL (λ e. nj (ap (λ (x : ℕ). Root x) e))
      others (Child i) nj nn out =
          ap (λ (ys : List ℕ). get_or ys i NIL) children ∙ get_or-set_other (set t.children.items (2 * b) NIL) (2 * b + 1) i NIL NIL (λ e. out i refl (omega (arith, e)))
          ∙ get_or-set_other t.children.items (2 * b) i NIL NIL (λ e. out i refl (omega (arith, e)))
