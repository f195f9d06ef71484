-- Loops over a list, each of which appends what its element adds to a text.
use Rattle.std.proofs.Common.{◌≡◌, ◌∙◌, ◌+◌, ◌<◌, ◌≤◌, ℕ, List, [], ◌∷◌, ◌++◌, ap, append_assoc, drop, get_or, length, sym}
use Rattle.std.proofs.lemmas.List.{append-nil, at_drop_all, drop_more}

-- the elements of a list from element i on, as an equal list has them
pub same_place : {A : Type 0} (xs ys : List A) (i : ℕ) (d : A) → xs ≡ ys → i < length xs →
    drop i ys ≡ get_or xs i d ∷ drop (i + 1) ys
same_place xs ys i d same inside = ap (drop i) (sym same) ∙ drop_more xs i d inside ∙ ap (λ zs. get_or xs i d ∷ drop (i + 1) zs) same

-- the elements from element i on
pub at_place : {A : Type 0} (xs : List A) (i : ℕ) (x : A) → i < length xs → x ≡ get_or xs i x →
    drop i xs ≡ x ∷ drop (i + 1) xs
at_place xs i x inside is = drop_more xs i x inside ∙ ap (λ y. y ∷ drop (i + 1) xs) (sym is)

-- a text and its rest keep their whole when the first piece of the rest is appended to the text
pub piece_put : (t a more : List ℕ) {u rest whole : List ℕ} → u ≡ t ++ a → rest ≡ a ++ more → t ++ rest ≡ whole →
    u ++ more ≡ whole
piece_put t a more put cut so_far = ap (λ x. x ++ more) put ∙ append_assoc t a more ∙ ap (λ x. t ++ x) (sym cut) ∙ so_far

-- after the loop nothing of the list is left, so the text is the whole
pub all_walked : {A : Type 0} (f : List A → List ℕ) (xs : List A) (i : ℕ) (t : List ℕ) {whole : List ℕ} → length xs ≤ i → f [] ≡ [] →
    t ++ f (drop i xs) ≡ whole → t ≡ whole
all_walked f xs i t end none so_far = sym (append-nil t) ∙ ap (λ x. t ++ x) (sym (at_drop_all f xs i end ∙ none)) ∙ so_far
