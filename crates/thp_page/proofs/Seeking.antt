-- The way down to the place of a number.
use Rattle.std.proofs.Common.{◌≡◌, ◌≢◌, ◌∙◌, ◌<◌, ◌≤◌, ◌+◌, ◌-◌, ◌*◌, ◌/◌, ◌%◌, ◌^◌, ◌⊎◌, ℕ, zero, suc, Option, Some, None, ap, sym, refl, arith, inl, inr, subst}
use Rattle.std.proofs.lemmas.Bool.{cases_eq, cases_lt}
use Rattle.thp_links.specs.declared.link.TheConstants.{NIL}
use Rattle.thp_page.specs.Prelude.{Child, FitsPlace, HangsAt, IsChild, HoldsBlock, IsHung, IsRoot, Place, Root, bucket_in, depth_in}
use Rattle.thp_page.proofs.LowBits.{low_below, low_above, bit_below, bucket_is, bucket_low, bucket_inside}
use Rattle.thp_page.proofs.Hanging.{child_same, fits_same, same_number}

module _ (num : ℕ → Option ℕ) (block : Place → ℕ) (bits buckets : ℕ) (h : IsHung num block bits buckets) where
  -- the depth of the root of a number's bucket
  abbrev pub top : ℕ → ℕ
  top n = depth_in bits buckets (bucket_in bits buckets n)

  -- numbers with the same low bits, as many as one's bucket has, are of one bucket
  pub one_bucket : (n m d : ℕ) → top m ≤ d → n % 2 ^ d ≡ m % 2 ^ d → bucket_in bits buckets n ≡ bucket_in bits buckets m
  one_bucket n m d less same =
      bucket_is bits buckets n (bucket_in bits buckets m) h.least h.most (bucket_inside bits buckets m h.least)
      (low_below n m (top m) d less same ∙ bucket_low bits buckets m h.least)

  -- no block is above its bucket's root
  deep_at : (f b n : ℕ) → h.depth b ≡ f → num b ≡ Some n → (p : Place) → h.place b ≡ p → FitsPlace num h.depth bits buckets p n (h.depth b) → top n ≤ h.depth b
  deep_at f b n deep is (Root j) at fits =
      let same : bucket_in bits buckets n ≡ j = bucket_is bits buckets n j h.least h.most fits.bucket_there (ap (λ d. n % 2 ^ d) (sym fits.depth) ∙ fits.low) in
      omega (arith, ap (λ k. depth_in bits buckets k) same, fits.depth)
  deep_at zero b n deep is (Child i) at fits = absurd (omega (arith, deep, fits.below))
  deep_at (suc f) b n deep is (Child i) at fits =
      let up : h.depth (i / 2) ≡ f = omega (arith, deep, fits.below) in
      let o = h.hung (i / 2) fits.parent fits.numbered in
      let less : top fits.parent ≤ h.depth (i / 2) = deep_at f (i / 2) fits.parent up fits.numbered (h.place (i / 2)) refl o.fits in
      omega (arith, less, fits.below, ap (λ k. depth_in bits buckets k) (one_bucket n fits.parent (h.depth (i / 2)) less fits.low))

  pub deep : (b n : ℕ) → num b ≡ Some n → top n ≤ h.depth b
  deep b n is = deep_at (h.depth b) b n refl is (h.place b) refl (h.hung b n is).fits

  -- a block has one above it at each depth down from its bucket's root
  pub record Above (n d : ℕ) : Type 0 where
    pub at : ℕ
    pub number : ℕ
    pub numbered : num at ≡ Some number
    pub depth : h.depth at ≡ d
    pub low : number % 2 ^ d ≡ n % 2 ^ d

  above_at : (f b n d : ℕ) → num b ≡ Some n → h.depth b ≡ f + d → top n ≤ d → (p : Place) → FitsPlace num h.depth bits buckets p n (h.depth b) → Above n d
  above_at zero b n d is deep_is less p fits = record { at = b; number = n; numbered = is; depth = omega (arith, deep_is); low = refl }
  above_at (suc f) b n d is deep_is less (Root j) fits =
      let same : bucket_in bits buckets n ≡ j = bucket_is bits buckets n j h.least h.most fits.bucket_there (ap (λ x. n % 2 ^ x) (sym fits.depth) ∙ fits.low) in
      absurd (omega (arith, ap (λ k. depth_in bits buckets k) same, fits.depth, deep_is, less))
  above_at (suc f) b n d is deep_is less (Child i) fits =
      let y : ℕ = i / 2 in
      let o = h.hung y fits.parent fits.numbered in
      let up : h.depth y ≡ f + d = omega (arith, deep_is, fits.below) in
      let same : bucket_in bits buckets fits.parent ≡ bucket_in bits buckets n = one_bucket fits.parent n (h.depth y) (omega (arith, less, up)) (sym fits.low) in
      let a = above_at f y fits.parent d fits.numbered up (omega (arith, less, ap (λ k. depth_in bits buckets k) same)) (h.place y) o.fits in
      record { at = a.at; number = a.number; numbered = a.numbered; depth = a.depth; low = a.low ∙ low_below fits.parent n d (h.depth y) (omega (arith, up)) (sym fits.low) }

  pub above : (b n d : ℕ) → num b ≡ Some n → d ≤ h.depth b → top n ≤ d → Above n d
  above b n d is less high = above_at (h.depth b - d) b n d is (omega (arith, less)) high (h.place b) (h.hung b n is).fits

  -- the search for a number has come down to a place: no block above has it, and whatever hangs at its depth with its low bits
  -- hangs there
  pub record IsSought (n d : ℕ) (p : Place) : Type 0 where
    pub high : top n ≤ d
    pub none : (b : ℕ) → num b ≡ Some n → d ≤ h.depth b
    pub only : (b m : ℕ) → num b ≡ Some m → h.depth b ≡ d → m % 2 ^ d ≡ n % 2 ^ d → b ≡ block p
    pub fits : FitsPlace num h.depth bits buckets p n d

  -- it begins at the root of the number's bucket
  only_root : (n b m : ℕ) → num b ≡ Some m → h.depth b ≡ top n → m % 2 ^ top n ≡ n % 2 ^ top n → (p : Place) → h.place b ≡ p → FitsPlace num h.depth bits buckets p m (h.depth b) → p ≡ Root (bucket_in bits buckets n)
  only_root n b m is deep_is low (Root j) at fits =
      let same : bucket_in bits buckets m ≡ j = bucket_is bits buckets m j h.least h.most fits.bucket_there (ap (λ x. m % 2 ^ x) (sym fits.depth) ∙ fits.low) in
      let also : bucket_in bits buckets m ≡ bucket_in bits buckets n = one_bucket m n (top n) (omega arith) low in
      ap (λ (k : ℕ). Root k) (sym same ∙ also)
  only_root n b m is deep_is low (Child i) at fits =
      let less : top fits.parent ≤ h.depth (i / 2) = deep (i / 2) fits.parent fits.numbered in
      let same : bucket_in bits buckets m ≡ bucket_in bits buckets fits.parent = one_bucket m fits.parent (h.depth (i / 2)) less fits.low in
      let also : bucket_in bits buckets m ≡ bucket_in bits buckets n = one_bucket m n (top n) (omega arith) low in
      absurd (omega (arith, less, fits.below, deep_is, ap (λ k. depth_in bits buckets k) same, ap (λ k. depth_in bits buckets k) also))

  pub sought_first : (n : ℕ) → IsSought n (top n) (Root (bucket_in bits buckets n))
  sought_first n = record {
    high = omega arith;
    none = λ b is. deep b n is;
    only = λ b m is deep_is low. (
        let o = h.hung b m is in
        sym o.here ∙ ap block (only_root n b m is deep_is low (h.place b) refl o.fits));
    fits = record {
      bucket_there = bucket_inside bits buckets n h.least;
      depth = refl;
      low = bucket_low bits buckets n h.least;
    };
  }

  pub sought_begun : (n j d : ℕ) → j ≡ bucket_in bits buckets n → d ≡ depth_in bits buckets j → IsSought n d (Root j)
  sought_begun n j d bucket at = subst (λ (k : ℕ). IsSought n d (Root k)) (sym bucket) (subst (λ (e : ℕ). IsSought n e (Root (bucket_in bits buckets n))) (sym (at ∙ ap (λ k. depth_in bits buckets k) bucket)) (sought_first n))

  -- the block that it comes to, with its depth and its low bits
  pub come_to : (n d : ℕ) (p : Place) → IsSought n d p → (m : ℕ) → num (block p) ≡ Some m → block p ≢ NIL → (h.depth (block p) ≡ d) × (m % 2 ^ d ≡ n % 2 ^ d)
  come_to n d p s m is real =
      let k = h.held p real in
      let o = h.hung (block p) m is in
      let same = fits_same num h.depth bits buckets p m n (h.depth (block p)) d (subst (λ (q : Place). FitsPlace num h.depth bits buckets q m (h.depth (block p))) k.there o.fits) s.fits in
      (same.0, subst (λ (x : ℕ). m % 2 ^ x ≡ n % 2 ^ x) same.0 same.1)

  -- it goes on by the next bit, where the block has another number
  only_child : (n d at i : ℕ) → i / 2 ≡ at → n / 2 ^ d % 2 ≡ i % 2 → top n ≤ d → ((x m : ℕ) → num x ≡ Some m → h.depth x ≡ d → m % 2 ^ d ≡ n % 2 ^ d → x ≡ at) →
      (b m : ℕ) → num b ≡ Some m → h.depth b ≡ suc d → m % 2 ^ suc d ≡ n % 2 ^ suc d → (p : Place) → FitsPlace num h.depth bits buckets p m (h.depth b) → p ≡ Child i
  only_child n d at i of side high only b m is deep_is low (Root j) fits =
      let same : bucket_in bits buckets m ≡ j = bucket_is bits buckets m j h.least h.most fits.bucket_there (ap (λ x. m % 2 ^ x) (sym fits.depth) ∙ fits.low) in
      let also : bucket_in bits buckets m ≡ bucket_in bits buckets n = one_bucket m n d high (low_below m n d (suc d) (omega arith) low) in
      absurd (omega (arith, fits.depth, deep_is, high, ap (λ k. depth_in bits buckets k) same, ap (λ k. depth_in bits buckets k) also))
  only_child n d at i of side high only b m is deep_is low (Child j) fits =
      let up : h.depth (j / 2) ≡ d = omega (arith, fits.below, deep_is) in
      let here : m % 2 ^ d ≡ n % 2 ^ d = low_below m n d (suc d) (omega arith) low in
      let there : fits.parent % 2 ^ d ≡ n % 2 ^ d = sym (subst (λ (x : ℕ). m % 2 ^ x ≡ fits.parent % 2 ^ x) up fits.low) ∙ here in
      let parent : j / 2 ≡ at = only (j / 2) fits.parent fits.numbered up there in
      let bit : m / 2 ^ d % 2 ≡ j % 2 = subst (λ (x : ℕ). m / 2 ^ x % 2 ≡ j % 2) up fits.side in
      let sides : i % 2 ≡ j % 2 = sym side ∙ sym (bit_below m n d low) ∙ bit in
      ap (λ (k : ℕ). Child k) (omega (arith, of, parent, sides))

  pub sought_next : (n d i : ℕ) (p : Place) → IsSought n d p → block p ≢ NIL → num (block p) ≢ Some n → i / 2 ≡ block p → n / 2 ^ d % 2 ≡ i % 2 → IsSought n (suc d) (Child i)
  sought_next n d i p s real other of side =
      let k = h.held p real in
      let to = come_to n d p s k.number k.numbered real in
      let deep_is : h.depth (i / 2) ≡ d = ap h.depth of ∙ to.0 in
      record {
        high = omega (arith, s.high);
        none = λ b is. elim (cases_eq (h.depth b) d) [
          | inl e ↦ absurd (other (ap num (sym (s.only b n is e refl)) ∙ is))
          | inr ne ↦ (let less : d ≤ h.depth b = s.none b is in omega (arith, less, ne))
        ];
        only = λ b m is deep_b low. (
            let o = h.hung b m is in
            sym o.here ∙ ap block (only_child n d (block p) i of side s.high s.only b m is deep_b low (h.place b) o.fits));
        fits = record {
          parent = k.number;
          numbered = ap num of ∙ k.numbered;
          below = ap suc (sym deep_is);
          low = subst (λ (x : ℕ). n % 2 ^ x ≡ k.number % 2 ^ x) (sym deep_is) (sym to.1);
          side = subst (λ (x : ℕ). n / 2 ^ x % 2 ≡ i % 2) (sym deep_is) side;
        };
      }

  -- where there is no block at the place, none has the number
  pub sought_none : (n d : ℕ) (p : Place) → IsSought n d p → block p ≡ NIL → (b : ℕ) → num b ≢ Some n
  sought_none n d p s nil b is =
      let a = above b n d is (s.none b is) s.high in
      (h.hung a.at a.number a.numbered).real (s.only a.at a.number a.numbered a.depth a.low ∙ nil)

  -- where all bits are given, the block at the place has the number
  pub sought_last : (n : ℕ) (p : Place) → IsSought n 64 p → n < 2 ^ 64 → block p ≢ NIL → num (block p) ≡ Some n
  sought_last n p s small real =
      let k = h.held p real in
      let to = come_to n 64 p s k.number k.numbered real in
      let o = h.hung (block p) k.number k.numbered in
      k.numbered ∙ ap (λ (x : ℕ). Some x) (low_all k.number n o.small small to.1) where
        low_all : (a b : ℕ) → a < 2 ^ 64 → b < 2 ^ 64 → a % 2 ^ 64 ≡ b % 2 ^ 64 → a ≡ b
        low_all a b less also same = omega arith

  -- a child is one deeper than its parent, and has its low bits
  pub child_below : (p : Place) (i m k : ℕ) → i / 2 ≡ block p → block (Child i) ≢ NIL → num (block p) ≡ Some m → num (block (Child i)) ≡ Some k →
      (h.depth (block (Child i)) ≡ suc (h.depth (block p))) × (k % 2 ^ h.depth (block p) ≡ m % 2 ^ h.depth (block p))
  child_below p i m k of real is has =
      let t = h.held (Child i) real in
      let o = h.hung (block (Child i)) k has in
      let f : IsChild num h.depth i k (h.depth (block (Child i))) = subst (λ (q : Place). FitsPlace num h.depth bits buckets q k (h.depth (block (Child i)))) t.there o.fits in
      let up : h.depth (i / 2) ≡ h.depth (block p) = ap h.depth of in
      let same : f.parent ≡ m = same_number (num (block p)) f.parent m (ap num (sym of) ∙ f.numbered) is in
      (f.below ∙ ap suc up, subst (λ (d : ℕ). k % 2 ^ d ≡ f.parent % 2 ^ d) up f.low ∙ ap (λ (x : ℕ). x % 2 ^ h.depth (block p)) same)

  -- no block is below one at the end
  pub no_child_below : (p : Place) (i : ℕ) → i / 2 ≡ block p → block p ≢ NIL → 64 ≤ h.depth (block p) → block (Child i) ≡ NIL
  no_child_below p i of real deep_p = elim (cases_eq (block (Child i)) NIL) [
    | inl e ↦ e
    | inr ne ↦ (
        let t = h.held (Child i) ne in
        let u = h.held p real in
        let down = child_below p i u.number t.number of ne u.numbered t.numbered in
        absurd (omega (arith, down.0, deep_p, (h.hung (block (Child i)) t.number t.numbered).shallow)))
  ]
