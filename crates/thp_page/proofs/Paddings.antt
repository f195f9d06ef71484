-- Lists padded to a number of entries: read, written and grown.
use Rattle.std.proofs.Common.{◌≡◌, ◌∙◌, ◌<◌, ◌≤◌, ◌+◌, ◌-◌, ℕ, zero, suc, List, [], ◌∷◌, ◌++◌, length, get_or, set, replicate, ap, sym, refl, arith, append_assoc, length-append}
use Rattle.std.proofs.lemmas.List.{length-replicate, replicate_more}
use Rattle.thp_page.specs.Prelude.{padded}

module _ {A : Type 0} (x : A) where
  -- its length
  pub length-padded : (n : ℕ) (xs : List A) → length xs ≤ n → length (padded n x xs) ≡ n
  length-padded n [] few = length-replicate n x
  length-padded zero (y ∷ ys) few = absurd (omega arith)
  length-padded (suc n) (y ∷ ys) few = ap suc (length-padded n ys (omega arith))

  -- a write into what is stored
  pub padded-set : (n : ℕ) (xs : List A) (b : ℕ) (v : A) → b < length xs → padded n x (set xs b v) ≡ set (padded n x xs) b v
  padded-set n [] b v inside = absurd (omega arith)
  padded-set zero (y ∷ ys) zero v inside = refl
  padded-set zero (y ∷ ys) (suc b) v inside = refl
  padded-set (suc n) (y ∷ ys) zero v inside = refl
  padded-set (suc n) (y ∷ ys) (suc b) v inside = ap (λ zs. y ∷ zs) (padded-set n ys b v (omega arith))

  -- a read of what is stored
  pub get_or-padded : (n : ℕ) (xs : List A) (b : ℕ) (d : A) → b < length xs → get_or (padded n x xs) b d ≡ get_or xs b d
  get_or-padded n [] b d inside = absurd (omega arith)
  get_or-padded zero (y ∷ ys) b d inside = refl
  get_or-padded (suc n) (y ∷ ys) zero d inside = refl
  get_or-padded (suc n) (y ∷ ys) (suc b) d inside = get_or-padded n ys b d (omega arith)

  -- a read where what is past the stored entries is taken for x
  get_or-all : (n b : ℕ) → get_or (replicate n x) b x ≡ x
  get_or-all zero b = refl
  get_or-all (suc n) zero = refl
  get_or-all (suc n) (suc b) = get_or-all n b

  pub get_or-padded_default : (n : ℕ) (xs : List A) (b : ℕ) → get_or (padded n x xs) b x ≡ get_or xs b x
  get_or-padded_default n [] b = get_or-all n b
  get_or-padded_default zero (y ∷ ys) b = refl
  get_or-padded_default (suc n) (y ∷ ys) zero = refl
  get_or-padded_default (suc n) (y ∷ ys) (suc b) = get_or-padded_default n ys b

  -- what is stored grows, within its padding
  padded-all : (n k : ℕ) → k ≤ n → padded n x (replicate k x) ≡ replicate n x
  padded-all n zero few = refl
  padded-all zero (suc k) few = absurd (omega arith)
  padded-all (suc n) (suc k) few = ap (λ zs. x ∷ zs) (padded-all n k (omega arith))

  -- one more is appended
  pub grown_once : (xs ys zs : List A) → ys ≡ xs ++ replicate (length ys - length xs) x → length xs ≤ length ys → zs ≡ ys ++ x ∷ [] → zs ≡ xs ++ replicate (length zs - length xs) x
  grown_once xs ys zs grown more last =
      let size : length zs ≡ length ys + 1 = ap (λ (us : List A). length us) last ∙ length-append ys (x ∷ []) in
      last ∙ ap (λ us. us ++ x ∷ []) grown ∙ append_assoc xs (replicate (length ys - length xs) x) (x ∷ [])
      ∙ ap (λ us. xs ++ us) (replicate_more (length ys - length xs) x ∙ ap (λ n. replicate n x) (omega (arith, size, more)))

  pub padded-grown : (n : ℕ) (xs : List A) (k : ℕ) → length xs + k ≤ n → padded n x (xs ++ replicate k x) ≡ padded n x xs
  padded-grown n [] k few = padded-all n k (omega arith)
  padded-grown zero (y ∷ ys) k few = absurd (omega arith)
  padded-grown (suc n) (y ∷ ys) k few = ap (λ zs. y ∷ zs) (padded-grown n ys k (omega arith))
