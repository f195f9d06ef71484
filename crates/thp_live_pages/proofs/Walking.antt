-- The walk along a list that stands in links.
use Rattle.std.proofs.Common.{◌≡◌, ℕ, zero, suc, ◌+◌, ◌<◌, ◌≤◌, Bool, cond, List, [], ◌∷◌, ◌++◌, Option, Some, length, take, get_or, refl, ap, ap₂, sym, ◌∙◌, subst, arith, add-one, Contains, slice_get, IfSome, filter}
use Rattle.std.proofs.lemmas.List.{take_more}
use Rattle.std.proofs.lemmas.List.Elements.{filter-append}
use Rattle.thp_links.specs.declared.link.Link.{Link}
use Rattle.thp_links.specs.declared.link.TheConstants.{NIL}
use Rattle.thp_links.specs.Prelude.{Stands, Segment, between}
use Rattle.thp_links.proofs.Members.{Contains-head, Contains-behind}
use Rattle.thp_links.proofs.OneTable.{Stands-inside}

-- the whole of a list
pub take_all : (xs : List ℕ) (k : ℕ) → length xs ≤ k → take k xs ≡ xs
take_all [] zero past = refl
take_all [] (suc k) past = refl
take_all (x ∷ xs) zero past = absurd (omega arith)
take_all (x ∷ xs) (suc k) past = ap (λ (ys : List ℕ). x ∷ ys) (take_all xs k (omega arith))

-- what passes a test, with one more element looked at
pub filter_more : (p : ℕ → Bool) (xs : List ℕ) (k b : ℕ) → k < length xs → b ≡ get_or xs k NIL → filter p (take (k + 1) xs) ≡ filter p (take k xs) ++ cond (p b) (b ∷ []) []
filter_more p xs k b below e =
    ap (filter p) (take_more xs k NIL below) ∙ filter-append p (take k xs) (get_or xs k NIL ∷ [])
    ∙ ap (λ x. filter p (take k xs) ++ cond (p x) (x ∷ []) []) (sym e)

-- the pair of an index, which names the index behind it
pub next_at : (links : List Link) (p : ℕ) (xs : List ℕ) (k : ℕ) → Segment links p xs NIL → k < length xs → (q : ℕ) × (slice_get links (get_or xs k NIL) ≡ Some (between q (get_or xs (suc k) NIL)))
next_at links p [] k s below = absurd (omega arith)
next_at links p (x ∷ xs) zero s below = (p, s.0)
next_at links p (x ∷ xs) (suc k) s below = next_at links x xs k s.1 (omega arith)

-- an index of the list
pub there_is : (xs : List ℕ) (k : ℕ) → k < length xs → Contains xs (get_or xs k NIL)
there_is [] k below = absurd (omega arith)
there_is (x ∷ xs) zero below = Contains-head x xs
there_is (x ∷ xs) (suc k) below = Contains-behind x xs (get_or xs k NIL) (there_is xs k (omega arith))

module _ (xs : List ℕ) (links : List Link) (stands : Stands xs links) where
  -- an index of the list is one of the table
  pub inside : (k b : ℕ) → b ≡ get_or xs k NIL → k < length xs → b < length links
  inside k b e below =
      let P : ℕ → Type 0 = λ x. Contains xs x in
      Stands-inside b stands (subst P (sym e) (there_is xs k below))

  -- its pair names the one behind it
  pub behind : (k b v : ℕ) → b ≡ get_or xs k NIL → k < length xs → IfSome (slice_get links b) (λ l. v ≡ l.next) → v ≡ get_or xs (k + 1) NIL
  behind k b v e below reported =
      let P : Option Link → Type 0 = λ o. IfSome o (λ l. v ≡ l.next) in
      let w = next_at links NIL xs k stands.segment below in
      let at : slice_get links b ≡ Some (between w.0 (get_or xs (suc k) NIL)) = ap (slice_get links) e ∙ w.1 in
      subst P at reported ∙ ap (λ j. get_or xs j NIL) (sym (add-one k))

  -- it joins those before it
  pub joins : (k b : ℕ) (ys : List ℕ) → ys ≡ take k xs → b ≡ get_or xs k NIL → k < length xs → ys ++ b ∷ [] ≡ take (k + 1) xs
  joins k b ys e f below = ap₂ (λ (zs : List ℕ) x. zs ++ x ∷ []) e f ∙ sym (take_more xs k NIL below)
