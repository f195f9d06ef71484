-- One more bucket: the children of a root become the roots of its bucket and of the new one.
use Rattle.std.proofs.Common.{◌≡◌, ◌≢◌, ◌∙◌, ◌<◌, ◌≤◌, ◌+◌, ◌-◌, ◌*◌, ◌/◌, ◌%◌, ◌^◌, ◌⊎◌, ℕ, zero, suc, cond, nat_eq, eq-eqb, ne_eqb, Option, Some, None, ap, sym, refl, arith, inl, inr, subst}
use Rattle.std.proofs.lemmas.Bool.{cases_eq, cases_lt}
use Rattle.std.proofs.lemmas.Nat.{pow_pos}
use Rattle.thp_links.specs.declared.link.TheConstants.{NIL}
use Rattle.thp_page.specs.Prelude.{Child, FitsPlace, HangsAt, IsChild, HoldsBlock, IsHung, IsRoot, Place, Root, depth_in}
use Rattle.thp_page.proofs.LowBits.{one_more, double, depth_split, depth_high, depth_whole}
use Rattle.thp_page.proofs.Hanging.{cases_place, cases_child, fits_kept, no_number, not_own_child, root_child, root_same, same_number}

-- a place fits on where its bucket keeps its depth
fits_buckets : (num : ℕ → Option ℕ) (depth : ℕ → ℕ) (bits buckets bits' buckets' : ℕ) (p : Place) (n e : ℕ) → ((k : ℕ) → k < buckets → p ≡ Root k → (k < buckets') × (depth_in bits' buckets' k ≡ depth_in bits buckets k)) →
    FitsPlace num depth bits buckets p n e → FitsPlace num depth bits' buckets' p n e
fits_buckets num depth bits buckets bits' buckets' (Root k) n e same f =
    let s = same k f.bucket_there refl in
    record { bucket_there = s.0; depth = f.depth ∙ sym s.1; low = f.low }
fits_buckets num depth bits buckets bits' buckets' (Child i) n e same f = f

root_inside : (num : ℕ → Option ℕ) (depth : ℕ → ℕ) (bits buckets : ℕ) (p : Place) (n e k : ℕ) → p ≡ Root k → FitsPlace num depth bits buckets p n e → k < buckets
root_inside num depth bits buckets (Root j) n e k is f = omega (arith, f.bucket_there, root_same j k is)
root_inside num depth bits buckets (Child i) n e k is f = absurd (root_child k i (sym is))

-- other buckets keep their depth
depth_grown : (bits buckets j k : ℕ) → j + 2 ^ bits ≡ buckets → k ≢ j → depth_in bits (suc buckets) k ≡ depth_in bits buckets k
depth_grown bits buckets j k size other = elim (cases_lt (k + 2 ^ bits) buckets) [
  | inl less ↦ depth_split bits (suc buckets) k (omega (arith, less)) ∙ sym (depth_split bits buckets k less)
  | inr more ↦ elim (cases_lt k (2 ^ bits)) [
    | inl low ↦ depth_whole bits (suc buckets) k (omega (arith, more, size, other)) low ∙ sym (depth_whole bits buckets k more low)
    | inr high ↦ depth_high bits (suc buckets) k high ∙ sym (depth_high bits buckets k high)
  ]
]

-- and all keep it where each has been split
depth_deeper : (bits buckets k : ℕ) → buckets ≡ 2 ^ suc bits → k < buckets → depth_in (suc bits) buckets k ≡ depth_in bits buckets k
depth_deeper bits buckets k all inside =
    depth_whole (suc bits) buckets k (omega (arith, all, inside)) (omega (arith, all, inside)) ∙ sym (elim (cases_lt (k + 2 ^ bits) buckets) [
      | inl less ↦ depth_split bits buckets k less
      | inr more ↦ depth_high bits buckets k (omega (arith, more, all, double bits))
    ])

pub deepened : (num : ℕ → Option ℕ) (block : Place → ℕ) (bits buckets : ℕ) → IsHung num block bits buckets → buckets ≡ 2 ^ suc bits → suc bits < 64 → IsHung num block (suc bits) buckets
deepened num block bits buckets h all few = record {
  least = omega (arith, all);
  most = omega (arith, all, double (suc bits));
  few_bits = few;
  place = h.place;
  depth = h.depth;
  hung = λ c m has. (let o = h.hung c m has in record {
    here = o.here;
    fits = fits_buckets num h.depth bits buckets (suc bits) buckets (h.place c) m (h.depth c) (λ k inside x. (inside, depth_deeper bits buckets k all inside)) o.fits;
    shallow = o.shallow;
    small = o.small;
    real = o.real;
  });
  held = h.held;
  single = h.single;
}

-- an empty bucket is split
pub grown_empty : (num : ℕ → Option ℕ) (block block' : Place → ℕ) (bits buckets j : ℕ) → IsHung num block bits buckets → block (Root j) ≡ NIL → j + 2 ^ bits ≡ buckets → buckets < 2 ^ suc bits →
    block' (Root buckets) ≡ NIL → ((q : Place) → q ≢ Root buckets → block' q ≡ block q) → IsHung num block' bits (suc buckets)
grown_empty num block block' bits buckets j h empty size more free rest = record {
  least = omega (arith, h.least);
  most = omega (arith, more);
  few_bits = h.few_bits;
  place = h.place;
  depth = h.depth;
  hung = λ c m has. (
      let o = h.hung c m has in
      let new : h.place c ≢ Root buckets = λ x. absurd (omega (arith, root_inside num h.depth bits buckets (h.place c) m (h.depth c) buckets x o.fits)) in
      record {
        here = rest (h.place c) new ∙ o.here;
        fits = fits_buckets num h.depth bits buckets bits (suc buckets) (h.place c) m (h.depth c)
            (λ k inside x. (omega (arith, inside), depth_grown bits buckets j k size (λ z. o.real (sym o.here ∙ ap block (x ∙ ap (λ (y : ℕ). Root y) z) ∙ empty)))) o.fits;
        shallow = o.shallow;
        small = o.small;
        real = o.real;
      });
  held = λ q there. (
      let new : q ≢ Root buckets = λ x. there (ap block' x ∙ free) in
      let at : block' q ≡ block q = rest q new in
      let o = h.held q (λ z. there (at ∙ z)) in
      record { number = o.number; numbered = ap num at ∙ o.numbered; there = ap h.place at ∙ o.there });
  single = h.single;
}

-- a bucket with a root is split
module _ (num num' : ℕ → Option ℕ) (block block' : Place → ℕ) (bits buckets : ℕ) (h : IsHung num block bits buckets) (j b n : ℕ)
    (root : block (Root j) ≡ b) (real : b ≢ NIL) (is : num b ≡ Some n) (size : j + 2 ^ bits ≡ buckets) (more : buckets < 2 ^ suc bits)
    (gone : num' b ≡ None) (others : (c : ℕ) → c ≢ b → num' c ≡ num c)
    (left : (i : ℕ) → i / 2 ≡ b → i % 2 ≡ 0 → block' (Root j) ≡ block (Child i)) (right : (i : ℕ) → i / 2 ≡ b → i % 2 ≡ 1 → block' (Root buckets) ≡ block (Child i))
    (freed : (i : ℕ) → i / 2 ≡ b → block' (Child i) ≡ NIL) (rest : (q : Place) → q ≢ Root j → q ≢ Root buckets → ((i : ℕ) → q ≡ Child i → i / 2 ≢ b) → block' q ≡ block q) where
  abbrev raise : Place → Place
  raise (Root k) = Root k
  raise (Child i) = cond (nat_eq (i / 2) b) (cond (nat_eq (i % 2) 0) (Root j) (Root buckets)) (Child i)

  raise_left : (i : ℕ) → i / 2 ≡ b → i % 2 ≡ 0 → raise (Child i) ≡ Root j
  raise_left i e z = ap (λ t. cond t (cond (nat_eq (i % 2) 0) (Root j) (Root buckets)) (Child i)) (eq-eqb (i / 2) b e) ∙ ap (λ t. cond t (Root j) (Root buckets)) (eq-eqb (i % 2) 0 z)

  raise_right : (i : ℕ) → i / 2 ≡ b → i % 2 ≢ 0 → raise (Child i) ≡ Root buckets
  raise_right i e z = ap (λ t. cond t (cond (nat_eq (i % 2) 0) (Root j) (Root buckets)) (Child i)) (eq-eqb (i / 2) b e) ∙ ap (λ t. cond t (Root j) (Root buckets)) (ne_eqb (i % 2) 0 z)

  raise_other : (q : Place) → ((i : ℕ) → q ≡ Child i → i / 2 ≢ b) → raise q ≡ q
  raise_other (Root k) out = refl
  raise_other (Child i) out = ap (λ t. cond t (cond (nat_eq (i % 2) 0) (Root j) (Root buckets)) (Child i)) (ne_eqb (i / 2) b (out i refl))

  abbrev raised : ℕ → Place
  raised c = raise (h.place c)

  at_root : h.place b ≡ Root j
  at_root = ap h.place (sym root) ∙ (h.held (Root j) (λ z. real (sym root ∙ z))).there

  own_fit : IsRoot bits buckets j n (h.depth b)
  own_fit = subst (λ (q : Place). FitsPlace num h.depth bits buckets q n (h.depth b)) at_root (h.hung b n is).fits

  own_depth : h.depth b ≡ bits
  own_depth = own_fit.depth ∙ depth_whole bits buckets j (omega (arith, size)) (omega (arith, size, more, double bits))

  own_low : n % 2 ^ bits ≡ j
  own_low = subst (λ (d : ℕ). n % 2 ^ d ≡ j) own_depth own_fit.low

  child_at : (c m i : ℕ) → num c ≡ Some m → h.place c ≡ Child i → i / 2 ≡ b → HangsAt num' block' raised h.depth bits (suc buckets) c m
  child_at c m i has pl of =
      let o = h.hung c m has in
      let g : IsChild num h.depth i m (h.depth c) = subst (λ (q : Place). FitsPlace num h.depth bits buckets q m (h.depth c)) pl o.fits in
      let up : h.depth (i / 2) ≡ bits = ap h.depth of ∙ own_depth in
      let deep : h.depth c ≡ suc bits = g.below ∙ ap suc up in
      let same : g.parent ≡ n = same_number (num b) g.parent n (ap num (sym of) ∙ g.numbered) is in
      let low : m % 2 ^ bits ≡ j = subst (λ (d : ℕ). m % 2 ^ d ≡ g.parent % 2 ^ d) up g.low ∙ ap (λ (x : ℕ). x % 2 ^ bits) same ∙ own_low in
      let side : m / 2 ^ bits % 2 ≡ i % 2 = subst (λ (d : ℕ). m / 2 ^ d % 2 ≡ i % 2) up g.side in
      let all : m % 2 ^ suc bits ≡ (i % 2) * 2 ^ bits + j = one_more m bits ∙ ap (λ (x : ℕ). x * 2 ^ bits + m % 2 ^ bits) side ∙ ap (λ (x : ℕ). (i % 2) * 2 ^ bits + x) low in
      elim (cases_eq (i % 2) 0) [
        | inl z ↦ (
            let at : raised c ≡ Root j = ap raise pl ∙ raise_left i of z in
            let fit : IsRoot bits (suc buckets) j m (h.depth c) = record {
              bucket_there = omega (arith, size, pow_pos bits);
              depth = deep ∙ sym (depth_split bits (suc buckets) j (omega (arith, size)));
              low = subst (λ (d : ℕ). m % 2 ^ d ≡ j) (sym deep) (all ∙ ap (λ (x : ℕ). x * 2 ^ bits + j) z ∙ omega arith);
            } in
            record {
              here = ap block' at ∙ left i of z ∙ ap block (sym pl) ∙ o.here;
              fits = subst (λ (q : Place). FitsPlace num' h.depth bits (suc buckets) q m (h.depth c)) (sym at) fit;
              shallow = o.shallow;
              small = o.small;
              real = o.real;
            })
        | inr nz ↦ (
            let one : i % 2 ≡ 1 = omega (arith, nz) in
            let at : raised c ≡ Root buckets = ap raise pl ∙ raise_right i of nz in
            let fit : IsRoot bits (suc buckets) buckets m (h.depth c) = record {
              bucket_there = omega arith;
              depth = deep ∙ sym (depth_high bits (suc buckets) buckets (omega (arith, size)));
              low = subst (λ (d : ℕ). m % 2 ^ d ≡ buckets) (sym deep) (all ∙ ap (λ (x : ℕ). x * 2 ^ bits + j) one ∙ omega (arith, size));
            } in
            record {
              here = ap block' at ∙ right i of one ∙ ap block (sym pl) ∙ o.here;
              fits = subst (λ (q : Place). FitsPlace num' h.depth bits (suc buckets) q m (h.depth c)) (sym at) fit;
              shallow = o.shallow;
              small = o.small;
              real = o.real;
            })
      ]

  other_at : (c m : ℕ) → c ≢ b → num c ≡ Some m → ((i : ℕ) → h.place c ≡ Child i → i / 2 ≢ b) → HangsAt num' block' raised h.depth bits (suc buckets) c m
  other_at c m ne has out =
      let o = h.hung c m has in
      let at : raised c ≡ h.place c = raise_other (h.place c) out in
      let not_j : h.place c ≢ Root j = λ x. ne (sym o.here ∙ ap block x ∙ root) in
      let not_new : h.place c ≢ Root buckets = λ x. absurd (omega (arith, root_inside num h.depth bits buckets (h.place c) m (h.depth c) buckets x o.fits)) in
      record {
        here = ap block' at ∙ rest (h.place c) not_j not_new out ∙ o.here;
        fits = subst (λ (q : Place). FitsPlace num' h.depth bits (suc buckets) q m (h.depth c)) (sym at)
            (fits_buckets num' h.depth bits buckets bits (suc buckets) (h.place c) m (h.depth c)
            (λ k inside x. (omega (arith, inside), depth_grown bits buckets j k size (λ z. not_j (x ∙ ap (λ (y : ℕ). Root y) z))))
            (fits_kept num num' h.depth h.depth bits buckets (h.place c) m (h.depth c) (λ i x y z. (others (i / 2) (out i y) ∙ z, refl)) o.fits));
        shallow = o.shallow;
        small = o.small;
        real = o.real;
      }

  held_child : (q : Place) (i : ℕ) → i / 2 ≡ b → block' q ≡ block (Child i) → block' q ≢ NIL → raise (Child i) ≡ q → HoldsBlock num' block' raised q
  held_child q i of eq there at =
      let o = h.held (Child i) (λ z. there (eq ∙ z)) in
      let nb : block (Child i) ≢ b = λ z. not_own_child num h.depth bits buckets (h.place b) b n i (ap h.place (sym z) ∙ o.there) of (h.hung b n is).fits in
      record {
        number = o.number;
        numbered = ap num' eq ∙ others (block (Child i)) nb ∙ o.numbered;
        there = ap raised eq ∙ ap raise o.there ∙ at;
      }

  held_other : (q : Place) → block' q ≢ NIL → q ≢ Root j → q ≢ Root buckets → ((i : ℕ) → q ≡ Child i → i / 2 ≢ b) → HoldsBlock num' block' raised q
  held_other q there nj nn out =
      let eq : block' q ≡ block q = rest q nj nn out in
      let o = h.held q (λ z. there (eq ∙ z)) in
      let nb : block q ≢ b = λ z. nj (sym o.there ∙ ap h.place z ∙ at_root) in
      record {
        number = o.number;
        numbered = ap num' eq ∙ others (block q) nb ∙ o.numbered;
        there = ap raised eq ∙ ap raise o.there ∙ raise_other q out;
      }

  pub parted : IsHung num' block' bits (suc buckets)
  parted = record {
    least = omega (arith, h.least);
    most = omega (arith, more);
    few_bits = h.few_bits;
    place = raised;
    depth = h.depth;
    hung = λ c m has. (
        let ne : c ≢ b = λ x. no_number (num' b) m gone (ap num' (sym x) ∙ has) in
        let old : num c ≡ Some m = sym (others c ne) ∙ has in
        elim (cases_child b (h.place c)) [
          | inl w ↦ child_at c m w.0 old w.1 w.2
          | inr out ↦ other_at c m ne old out
        ]);
    held = λ q there. elim (cases_place q (Root j)) [
      | inl x ↦ held_child q (2 * b) (omega arith) (ap block' x ∙ left (2 * b) (omega arith) (omega arith)) there (raise_left (2 * b) (omega arith) (omega arith) ∙ sym x)
      | inr nj ↦ elim (cases_place q (Root buckets)) [
        | inl x ↦ held_child q (2 * b + 1) (omega arith) (ap block' x ∙ right (2 * b + 1) (omega arith) (omega arith)) there (raise_right (2 * b + 1) (omega arith) (omega arith) ∙ sym x)
        | inr nn ↦ elim (cases_child b q) [
          | inl w ↦ absurd (there (ap block' w.1 ∙ freed w.0 w.2))
          | inr out ↦ held_other q there nj nn out
        ]
      ]
    ];
    single = λ c d m x y. (
        let nc : c ≢ b = λ z. no_number (num' b) m gone (ap num' (sym z) ∙ x) in
        let nd : d ≢ b = λ z. no_number (num' b) m gone (ap num' (sym z) ∙ y) in
        h.single c d m (sym (others c nc) ∙ x) (sym (others d nd) ∙ y));
  }
