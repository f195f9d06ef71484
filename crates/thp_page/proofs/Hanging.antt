-- Blocks that hang in the trees: one more is hung, a leaf is taken off, a block takes another's place, and a bucket is split.
use Rattle.std.proofs.Common.{◌≡◌, ◌≢◌, ◌∙◌, ◌<◌, ◌≤◌, ◌+◌, ◌-◌, ◌*◌, ◌/◌, ◌%◌, ◌^◌, ◌⊎◌, ℕ, zero, suc, cond, nat_eq, eq-eqb, ne_eqb, Option, Some, None, ap, sym, refl, arith, inl, inr, subst}
use Rattle.std.proofs.lemmas.Bool.{cases_eq}
use Rattle.thp_links.specs.declared.link.TheConstants.{NIL}
use Rattle.thp_page.specs.Prelude.{Child, FitsPlace, HangsAt, IsChild, HoldsBlock, IsHung, IsRoot, Place, Root, depth_in}
use Rattle.thp_page.proofs.LowBits.{low_below, low_above, bit_below, one_more, double, depth_split, depth_high, depth_whole}

-- two places are one or not
pub cases_place : (p q : Place) → (p ≡ q) ⊎ (p ≢ q)
cases_place (Root i) (Root j) = elim (cases_eq i j) [
  | inl e ↦ inl (ap (λ (k : ℕ). Root k) e)
  | inr ne ↦ inr (λ e. ne (cc))
]
cases_place (Root i) (Child j) = inr (λ e. absurd (cc))
cases_place (Child i) (Root j) = inr (λ e. absurd (cc))
cases_place (Child i) (Child j) = elim (cases_eq i j) [
  | inl e ↦ inl (ap (λ (k : ℕ). Child k) e)
  | inr ne ↦ inr (λ e. ne (cc))
]

pub child_same : (i j : ℕ) → Child i ≡ Child j → i ≡ j
child_same i j e = cc

pub root_same : (i j : ℕ) → Root i ≡ Root j → i ≡ j
root_same i j e = cc

pub root_child : (i j : ℕ) → Root i ≡ Child j → ⊥
root_child i j e = absurd (cc)

pub same_number : (o : Option ℕ) (n m : ℕ) → o ≡ Some n → o ≡ Some m → n ≡ m
same_number o n m e f = cc

pub no_number : (o : Option ℕ) (n : ℕ) → o ≡ None → o ≡ Some n → ⊥
no_number o n e f = absurd (cc)

-- a function with another value for one block
abbrev pub but : {A : Type 0} → (ℕ → A) → ℕ → A → ℕ → A
but f b v c = cond (nat_eq c b) v (f c)

pub but_same : {A : Type 0} (f : ℕ → A) (b : ℕ) (v : A) (c : ℕ) → c ≡ b → but f b v c ≡ v
but_same f b v c e = ap (λ t. cond t v (f c)) (eq-eqb c b e)

pub but_other : {A : Type 0} (f : ℕ → A) (b : ℕ) (v : A) (c : ℕ) → c ≢ b → but f b v c ≡ f c
but_other f b v c ne = ap (λ t. cond t v (f c)) (ne_eqb c b ne)

-- a place fits on where the parent stays
pub fits_kept : (num num' : ℕ → Option ℕ) (depth depth' : ℕ → ℕ) (bits buckets : ℕ) (p : Place) (n e : ℕ) →
    ((i m : ℕ) → p ≡ Child i → num (i / 2) ≡ Some m → (num' (i / 2) ≡ Some m) × (depth' (i / 2) ≡ depth (i / 2))) →
    FitsPlace num depth bits buckets p n e → FitsPlace num' depth' bits buckets p n e
fits_kept num num' depth depth' bits buckets (Root j) n e same f = f
fits_kept num num' depth depth' bits buckets (Child i) n e same f =
    let s = same i f.parent refl f.numbered in
    record {
      parent = f.parent;
      numbered = s.0;
      below = f.below ∙ ap suc (sym s.1);
      low = subst (λ (d : ℕ). n % 2 ^ d ≡ f.parent % 2 ^ d) (sym s.1) f.low;
      side = subst (λ (d : ℕ). n / 2 ^ d % 2 ≡ i % 2) (sym s.1) f.side;
    }

-- a place fits any number with the same low bits
pub fits_like : (num : ℕ → Option ℕ) (depth : ℕ → ℕ) (bits buckets : ℕ) (p : Place) (n m e : ℕ) → m % 2 ^ e ≡ n % 2 ^ e → FitsPlace num depth bits buckets p n e → FitsPlace num depth bits buckets p m e
fits_like num depth bits buckets (Root j) n m e same f = record {
  bucket_there = f.bucket_there;
  depth = f.depth;
  low = same ∙ f.low;
}
fits_like num depth bits buckets (Child i) n m e same f =
    let d : ℕ = depth (i / 2) in
    let more : m % 2 ^ suc d ≡ n % 2 ^ suc d = subst (λ (x : ℕ). m % 2 ^ x ≡ n % 2 ^ x) f.below same in
    record {
      parent = f.parent;
      numbered = f.numbered;
      below = f.below;
      low = low_below m n d (suc d) (omega arith) more ∙ f.low;
      side = bit_below m n d more ∙ f.side;
    }

-- the depth and the low bits that a place gives
pub fits_same : (num : ℕ → Option ℕ) (depth : ℕ → ℕ) (bits buckets : ℕ) (p : Place) (n m d e : ℕ) → FitsPlace num depth bits buckets p n d → FitsPlace num depth bits buckets p m e → (d ≡ e) × (n % 2 ^ d ≡ m % 2 ^ d)
fits_same num depth bits buckets (Root j) n m d e f g =
    let same : d ≡ e = f.depth ∙ sym g.depth in
    (same, f.low ∙ sym (ap (λ x. m % 2 ^ x) same ∙ g.low))
fits_same num depth bits buckets (Child i) n m d e f g =
    let x : ℕ = depth (i / 2) in
    let parents : f.parent ≡ g.parent = same_number (num (i / 2)) f.parent g.parent f.numbered g.numbered in
    let up : n % 2 ^ suc x ≡ m % 2 ^ suc x = low_above n m x (f.low ∙ ap (λ k. k % 2 ^ x) parents ∙ sym g.low) (f.side ∙ sym g.side) in
    (f.below ∙ sym g.below, subst (λ (y : ℕ). n % 2 ^ y ≡ m % 2 ^ y) (sym f.below) up)

-- a child is below its parent
pub not_own_child : (num : ℕ → Option ℕ) (depth : ℕ → ℕ) (bits buckets : ℕ) (p : Place) (b n i : ℕ) → p ≡ Child i → i / 2 ≡ b → FitsPlace num depth bits buckets p n (depth b) → ⊥
not_own_child num depth bits buckets (Root j) b n i is of f = root_child j i is
not_own_child num depth bits buckets (Child k) b n i is of f =
    let same : k ≡ i = child_same k i is in
    let own : depth (k / 2) ≡ depth b = ap (λ (x : ℕ). depth (x / 2)) same ∙ ap depth of in
    absurd (omega (arith, f.below, own))

-- a number that was new is that of one block
single_set : (num num' : ℕ → Option ℕ) (b n : ℕ) → ((c d m : ℕ) → num c ≡ Some m → num d ≡ Some m → c ≡ d) → ((c : ℕ) → num c ≢ Some n) → num' b ≡ Some n → ((c m : ℕ) → c ≢ b → num' c ≡ Some m → num c ≡ Some m) →
    (c d m : ℕ) → num' c ≡ Some m → num' d ≡ Some m → c ≡ d
single_set num num' b n single new set others c d m x y = elim (cases_eq c b) [
  | inl e ↦ elim (cases_eq d b) [
    | inl f ↦ e ∙ sym f
    | inr nf ↦ absurd (new d (others d m nf y ∙ ap (λ (k : ℕ). Some k) (same_number (num' b) m n (ap num' (sym e) ∙ x) set)))
  ]
  | inr ne ↦ elim (cases_eq d b) [
    | inl f ↦ absurd (new c (others c m ne x ∙ ap (λ (k : ℕ). Some k) (same_number (num' b) m n (ap num' (sym f) ∙ y) set)))
    | inr nf ↦ single c d m (others c m ne x) (others d m nf y)
  ]
]

-- a block is hung at a free place
module _ (num num' : ℕ → Option ℕ) (block block' : Place → ℕ) (bits buckets : ℕ) (h : IsHung num block bits buckets) (b n e : ℕ) (p : Place)
    (empty : num b ≡ None) (free : block p ≡ NIL) (fits : FitsPlace num h.depth bits buckets p n e) (shallow : e ≤ 64) (small : n < 2 ^ 64) (real : b ≢ NIL) (new : (c : ℕ) → num c ≢ Some n)
    (set : num' b ≡ Some n) (others : (c : ℕ) → c ≢ b → num' c ≡ num c) (here : block' p ≡ b) (elsewhere : (q : Place) → q ≢ p → block' q ≡ block q) where
  abbrev place' : ℕ → Place
  place' = but h.place b p

  abbrev depth' : ℕ → ℕ
  depth' = but h.depth b e

  parent_kept : (i m : ℕ) → num (i / 2) ≡ Some m → (num' (i / 2) ≡ Some m) × (depth' (i / 2) ≡ h.depth (i / 2))
  parent_kept i m is =
      let ne : i / 2 ≢ b = λ x. no_number (num b) m empty (ap num (sym x) ∙ is) in
      (others (i / 2) ne ∙ is, but_other h.depth b e (i / 2) ne)

  new_at : HangsAt num' block' place' depth' bits buckets b n
  new_at =
      let at : place' b ≡ p = but_same h.place b p b refl in
      let deep : depth' b ≡ e = but_same h.depth b e b refl in
      record {
        here = ap block' at ∙ here;
        fits = subst (λ (q : Place). FitsPlace num' depth' bits buckets q n (depth' b)) (sym at)
            (subst (λ (d : ℕ). FitsPlace num' depth' bits buckets p n d) (sym deep) (fits_kept num num' h.depth depth' bits buckets p n e (λ i m x. parent_kept i m) fits));
        shallow = omega (arith, deep, shallow);
        small = small;
        real = real;
      }

  old_at : (c m : ℕ) → c ≢ b → num c ≡ Some m → HangsAt num' block' place' depth' bits buckets c m
  old_at c m ne is =
      let o = h.hung c m is in
      let at : place' c ≡ h.place c = but_other h.place b p c ne in
      let deep : depth' c ≡ h.depth c = but_other h.depth b e c ne in
      let apart : h.place c ≢ p = λ x. o.real (sym o.here ∙ ap block x ∙ free) in
      record {
        here = ap block' at ∙ elsewhere (h.place c) apart ∙ o.here;
        fits = subst (λ (q : Place). FitsPlace num' depth' bits buckets q m (depth' c)) (sym at)
            (subst (λ (d : ℕ). FitsPlace num' depth' bits buckets (h.place c) m d) (sym deep) (fits_kept num num' h.depth depth' bits buckets (h.place c) m (h.depth c) (λ i k x. parent_kept i k) o.fits));
        shallow = omega (arith, deep, o.shallow);
        small = o.small;
        real = o.real;
      }

  pub inserted : IsHung num' block' bits buckets
  inserted = record {
    least = h.least;
    most = h.most;
    few_bits = h.few_bits;
    place = place';
    depth = depth';
    hung = λ c m is. elim (cases_eq c b) [
      | inl x ↦ (
          let same : n ≡ m = same_number (num' b) n m set (ap num' (sym x) ∙ is) in
          subst (λ (k : ℕ). HangsAt num' block' place' depth' bits buckets k m) (sym x) (subst (λ (k : ℕ). HangsAt num' block' place' depth' bits buckets b k) same new_at))
      | inr ne ↦ old_at c m ne (sym (others c ne) ∙ is)
    ];
    held = λ q there. elim (cases_place q p) [
      | inl x ↦ (
          let at : block' q ≡ b = ap block' x ∙ here in
          record {
            number = n;
            numbered = ap num' at ∙ set;
            there = ap place' at ∙ but_same h.place b p b refl ∙ sym x;
          })
      | inr ne ↦ (
          let at : block' q ≡ block q = elsewhere q ne in
          let o = h.held q (λ z. there (at ∙ z)) in
          let other : block q ≢ b = λ z. no_number (num b) o.number empty (ap num (sym z) ∙ o.numbered) in
          record {
            number = o.number;
            numbered = ap num' at ∙ others (block q) other ∙ o.numbered;
            there = ap place' at ∙ but_other h.place b p (block q) other ∙ o.there;
          })
    ];
    single = single_set num num' b n h.single new set (λ c m ne is. sym (others c ne) ∙ is);
  }

-- a leaf is taken off
module _ (num num' : ℕ → Option ℕ) (block block' : Place → ℕ) (bits buckets : ℕ) (h : IsHung num block bits buckets) (b n : ℕ)
    (is : num b ≡ Some n) (alone : (i : ℕ) → i / 2 ≡ b → block (Child i) ≡ NIL)
    (gone : num' b ≡ None) (others : (c : ℕ) → c ≢ b → num' c ≡ num c) (free : block' (h.place b) ≡ NIL) (elsewhere : (q : Place) → q ≢ h.place b → block' q ≡ block q) where
  pub left_at : (c m : ℕ) → c ≢ b → num c ≡ Some m → HangsAt num' block' h.place h.depth bits buckets c m
  left_at c m ne has =
      let o = h.hung c m has in
      let apart : h.place c ≢ h.place b = λ x. ne (sym o.here ∙ ap block x ∙ (h.hung b n is).here) in
      record {
        here = elsewhere (h.place c) apart ∙ o.here;
        fits = fits_kept num num' h.depth h.depth bits buckets (h.place c) m (h.depth c)
            (λ i k x y. (
            let other : i / 2 ≢ b = λ z. o.real (sym o.here ∙ ap block x ∙ alone i z) in
            (others (i / 2) other ∙ y, refl)))
            o.fits;
        shallow = o.shallow;
        small = o.small;
        real = o.real;
      }

  abbrev pub removed : IsHung num' block' bits buckets
  removed = record {
    least = h.least;
    most = h.most;
    few_bits = h.few_bits;
    place = h.place;
    depth = h.depth;
    hung = λ c m has. (
        let ne : c ≢ b = λ x. no_number (num' b) m gone (ap num' (sym x) ∙ has) in
        left_at c m ne (sym (others c ne) ∙ has));
    held = λ q there. (
        let ne : q ≢ h.place b = λ x. there (ap block' x ∙ free) in
        let at : block' q ≡ block q = elsewhere q ne in
        let o = h.held q (λ z. there (at ∙ z)) in
        let other : block q ≢ b = λ z. ne (sym o.there ∙ ap h.place z) in
        record {
          number = o.number;
          numbered = ap num' at ∙ others (block q) other ∙ o.numbered;
          there = ap h.place at ∙ o.there;
        });
    single = λ c d m x y. (
        let nc : c ≢ b = λ z. no_number (num' b) m gone (ap num' (sym z) ∙ x) in
        let nd : d ≢ b = λ z. no_number (num' b) m gone (ap num' (sym z) ∙ y) in
        h.single c d m (sym (others c nc) ∙ x) (sym (others d nd) ∙ y));
  }

-- the parent of a child has a number
pub parent_of : (num : ℕ → Option ℕ) (depth : ℕ → ℕ) (bits buckets : ℕ) (p : Place) (n e i : ℕ) → p ≡ Child i → FitsPlace num depth bits buckets p n e → (m : ℕ) × (num (i / 2) ≡ Some m)
parent_of num depth bits buckets (Root j) n e i is f = absurd (root_child j i is)
parent_of num depth bits buckets (Child k) n e i is f = (f.parent, ap (λ (x : ℕ). num (x / 2)) (sym (child_same k i is)) ∙ f.numbered)

-- a place is a child of block b or not
pub cases_child : (b : ℕ) (q : Place) → ((i : ℕ) × (q ≡ Child i) × (i / 2 ≡ b)) ⊎ ((i : ℕ) → q ≡ Child i → i / 2 ≢ b)
cases_child b (Root j) = inr (λ i x. absurd (root_child j i x))
cases_child b (Child k) = elim (cases_eq (k / 2) b) [
  | inl e ↦ inl (k, refl, e)
  | inr ne ↦ inr (λ i x z. ne (ap (λ (y : ℕ). y / 2) (child_same k i x) ∙ z))
]

-- a block takes another's place, and its children
module _ (num num' : ℕ → Option ℕ) (block block' : Place → ℕ) (bits buckets : ℕ) (h : IsHung num block bits buckets) (b n l k : ℕ)
    (is : num b ≡ Some n) (empty : num l ≡ None) (like : k % 2 ^ h.depth b ≡ n % 2 ^ h.depth b) (small : k < 2 ^ 64) (real : l ≢ NIL) (new : (c : ℕ) → num c ≢ Some k)
    (gone : num' b ≡ None) (set : num' l ≡ Some k) (others : (c : ℕ) → c ≢ b → c ≢ l → num' c ≡ num c)
    (here : block' (h.place b) ≡ l) (moved : (i j : ℕ) → i / 2 ≡ l → j / 2 ≡ b → i % 2 ≡ j % 2 → block' (Child i) ≡ block (Child j)) (freed : (i : ℕ) → i / 2 ≡ b → block' (Child i) ≡ NIL)
    (rest : (q : Place) → q ≢ h.place b → ((i : ℕ) → q ≡ Child i → (i / 2 ≢ b) × (i / 2 ≢ l)) → block' q ≡ block q) where
  -- the other's children become its own
  abbrev lift : Place → Place
  lift (Root j) = Root j
  lift (Child i) = cond (nat_eq (i / 2) b) (Child (2 * l + i % 2)) (Child i)

  lift_own : (i : ℕ) → i / 2 ≡ b → lift (Child i) ≡ Child (2 * l + i % 2)
  lift_own i e = ap (λ t. cond t (Child (2 * l + i % 2)) (Child i)) (eq-eqb (i / 2) b e)

  lift_other : (q : Place) → ((i : ℕ) → q ≡ Child i → i / 2 ≢ b) → lift q ≡ q
  lift_other (Root j) out = refl
  lift_other (Child i) out = ap (λ t. cond t (Child (2 * l + i % 2)) (Child i)) (ne_eqb (i / 2) b (out i refl))

  abbrev lifted : ℕ → Place
  lifted c = lift (h.place c)

  abbrev new_place : ℕ → Place
  new_place = but lifted l (h.place b)

  abbrev new_depth : ℕ → ℕ
  new_depth = but h.depth l (h.depth b)

  not_l : (c m : ℕ) → num c ≡ Some m → c ≢ l
  not_l c m has z = no_number (num l) m empty (ap num (sym z) ∙ has)

  parent_stays : (i m : ℕ) → num (i / 2) ≡ Some m → i / 2 ≢ b → (num' (i / 2) ≡ Some m) × (new_depth (i / 2) ≡ h.depth (i / 2))
  parent_stays i m has ne = (others (i / 2) ne (not_l (i / 2) m has) ∙ has, but_other h.depth l (h.depth b) (i / 2) (not_l (i / 2) m has))

  taker_at : HangsAt num' block' new_place new_depth bits buckets l k
  taker_at =
      let ob = h.hung b n is in
      let at : new_place l ≡ h.place b = but_same lifted l (h.place b) l refl in
      let deep : new_depth l ≡ h.depth b = but_same h.depth l (h.depth b) l refl in
      record {
        here = ap block' at ∙ here;
        fits = subst (λ (q : Place). FitsPlace num' new_depth bits buckets q k (new_depth l)) (sym at)
            (subst (λ (d : ℕ). FitsPlace num' new_depth bits buckets (h.place b) k d) (sym deep)
            (fits_kept num num' h.depth new_depth bits buckets (h.place b) k (h.depth b)
            (λ i m x y. parent_stays i m y (λ z. not_own_child num h.depth bits buckets (h.place b) b n i x z ob.fits))
            (fits_like num h.depth bits buckets (h.place b) n k (h.depth b) like ob.fits)));
        shallow = omega (arith, deep, ob.shallow);
        small = small;
        real = real;
      }

  child_at : (c m i : ℕ) → num c ≡ Some m → h.place c ≡ Child i → i / 2 ≡ b → HangsAt num' block' new_place new_depth bits buckets c m
  child_at c m i has pl of =
      let o = h.hung c m has in
      let t : ℕ = 2 * l + i % 2 in
      let half : t / 2 ≡ l = omega arith in
      let odd : t % 2 ≡ i % 2 = omega arith in
      let at : new_place c ≡ Child t = but_other lifted l (h.place b) c (not_l c m has) ∙ ap lift pl ∙ lift_own i of in
      let deep : new_depth c ≡ h.depth c = but_other h.depth l (h.depth b) c (not_l c m has) in
      let f : IsChild num h.depth i m (h.depth c) = subst (λ (q : Place). FitsPlace num h.depth bits buckets q m (h.depth c)) pl o.fits in
      let up : h.depth (i / 2) ≡ h.depth b = ap h.depth of in
      let now : new_depth (t / 2) ≡ h.depth b = ap new_depth half ∙ but_same h.depth l (h.depth b) l refl in
      let low : m % 2 ^ h.depth b ≡ k % 2 ^ h.depth b =
      subst (λ (d : ℕ). m % 2 ^ d ≡ f.parent % 2 ^ d) up f.low ∙ ap (λ (x : ℕ). x % 2 ^ h.depth b) (same_number (num b) f.parent n (ap num (sym of) ∙ f.numbered) is) ∙ sym like in
      let fits : IsChild num' new_depth t m (new_depth c) = record {
        parent = k;
        numbered = ap num' half ∙ set;
        below = deep ∙ f.below ∙ ap suc (up ∙ sym now);
        low = subst (λ (d : ℕ). m % 2 ^ d ≡ k % 2 ^ d) (sym now) low;
        side = subst (λ (d : ℕ). m / 2 ^ d % 2 ≡ t % 2) (sym now) (subst (λ (d : ℕ). m / 2 ^ d % 2 ≡ i % 2) up f.side ∙ sym odd);
      } in
      record {
        here = ap block' at ∙ moved t i half of odd ∙ ap block (sym pl) ∙ o.here;
        fits = subst (λ (q : Place). FitsPlace num' new_depth bits buckets q m (new_depth c)) (sym at) fits;
        shallow = omega (arith, deep, o.shallow);
        small = o.small;
        real = o.real;
      }

  other_at : (c m : ℕ) → c ≢ b → num c ≡ Some m → ((i : ℕ) → h.place c ≡ Child i → i / 2 ≢ b) → HangsAt num' block' new_place new_depth bits buckets c m
  other_at c m ne has out =
      let o = h.hung c m has in
      let at : new_place c ≡ h.place c = but_other lifted l (h.place b) c (not_l c m has) ∙ lift_other (h.place c) out in
      let deep : new_depth c ≡ h.depth c = but_other h.depth l (h.depth b) c (not_l c m has) in
      let apart : h.place c ≢ h.place b = λ x. ne (sym o.here ∙ ap block x ∙ (h.hung b n is).here) in
      record {
        here = ap block' at ∙ rest (h.place c) apart (λ i x. (out i x, (let p = parent_of num h.depth bits buckets (h.place c) m (h.depth c) i x o.fits in not_l (i / 2) p.0 p.1))) ∙ o.here;
        fits = subst (λ (q : Place). FitsPlace num' new_depth bits buckets q m (new_depth c)) (sym at)
            (subst (λ (d : ℕ). FitsPlace num' new_depth bits buckets (h.place c) m d) (sym deep)
            (fits_kept num num' h.depth new_depth bits buckets (h.place c) m (h.depth c) (λ i x y z. parent_stays i x z (out i y)) o.fits));
        shallow = omega (arith, deep, o.shallow);
        small = o.small;
        real = o.real;
      }

  any_at : (c m : ℕ) → num' c ≡ Some m → HangsAt num' block' new_place new_depth bits buckets c m
  any_at c m has =
      let ne : c ≢ b = λ x. no_number (num' b) m gone (ap num' (sym x) ∙ has) in
      elim (cases_eq c l) [
        | inl x ↦ (
            let same : k ≡ m = same_number (num' l) k m set (ap num' (sym x) ∙ has) in
            subst (λ (y : ℕ). HangsAt num' block' new_place new_depth bits buckets y m) (sym x) (subst (λ (y : ℕ). HangsAt num' block' new_place new_depth bits buckets l y) same taker_at))
        | inr nl ↦ (
            let old : num c ≡ Some m = sym (others c ne nl) ∙ has in
            elim (cases_child b (h.place c)) [
              | inl w ↦ child_at c m w.0 old w.1 w.2
              | inr out ↦ other_at c m ne old out
            ])
      ]

  held_child : (q : Place) (i : ℕ) → block' q ≢ NIL → q ≡ Child i → i / 2 ≡ l → HoldsBlock num' block' new_place q
  held_child q i there qi of =
      let ob = h.hung b n is in
      let j : ℕ = 2 * b + i % 2 in
      let half : j / 2 ≡ b = omega arith in
      let odd : i % 2 ≡ j % 2 = omega arith in
      let eq : block' q ≡ block (Child j) = ap block' qi ∙ moved i j of half odd in
      let o = h.held (Child j) (λ z. there (eq ∙ z)) in
      let c : ℕ = block (Child j) in
      let nl : c ≢ l = not_l c o.number o.numbered in
      let nb : c ≢ b = λ z. not_own_child num h.depth bits buckets (h.place b) b n j (ap h.place (sym z) ∙ o.there) half ob.fits in
      let back : 2 * l + j % 2 ≡ i = omega (arith, of, odd) in
      record {
        number = o.number;
        numbered = ap num' eq ∙ others c nb nl ∙ o.numbered;
        there = ap new_place eq ∙ but_other lifted l (h.place b) c nl ∙ ap lift o.there ∙ lift_own j half ∙ ap (λ (x : ℕ). Child x) back ∙ sym qi;
      }

  held_other : (q : Place) → block' q ≢ NIL → q ≢ h.place b → ((i : ℕ) → q ≡ Child i → i / 2 ≢ b) → ((i : ℕ) → q ≡ Child i → i / 2 ≢ l) → HoldsBlock num' block' new_place q
  held_other q there ne out_b out_l =
      let eq : block' q ≡ block q = rest q ne (λ i x. (out_b i x, out_l i x)) in
      let o = h.held q (λ z. there (eq ∙ z)) in
      let c : ℕ = block q in
      let nl : c ≢ l = not_l c o.number o.numbered in
      let nb : c ≢ b = λ z. ne (sym o.there ∙ ap h.place z) in
      record {
        number = o.number;
        numbered = ap num' eq ∙ others c nb nl ∙ o.numbered;
        there = ap new_place eq ∙ but_other lifted l (h.place b) c nl ∙ ap lift o.there ∙ lift_other q out_b;
      }

  pub taken_over : IsHung num' block' bits buckets
  taken_over = record {
    least = h.least;
    most = h.most;
    few_bits = h.few_bits;
    place = new_place;
    depth = new_depth;
    hung = any_at;
    held = λ q there. elim (cases_place q (h.place b)) [
      | inl x ↦ (
          let at : block' q ≡ l = ap block' x ∙ here in
          record {
            number = k;
            numbered = ap num' at ∙ set;
            there = ap new_place at ∙ but_same lifted l (h.place b) l refl ∙ sym x;
          })
      | inr ne ↦ elim (cases_child l q) [
        | inl w ↦ held_child q w.0 there w.1 w.2
        | inr out_l ↦ elim (cases_child b q) [
          | inl w ↦ absurd (there (ap block' w.1 ∙ freed w.0 w.2))
          | inr out_b ↦ held_other q there ne out_b out_l
        ]
      ]
    ];
    single = single_set num num' l k h.single new set (λ c m ne x. sym (others c (λ z. no_number (num' b) m gone (ap num' (sym z) ∙ x)) ne) ∙ x);
  }
