-- Texts made piece by piece.
use Rattle.std.proofs.Common.{◌≡◌, ◌≤◌, ◌∙◌, ℕ, List, [], ◌∷◌, ◌++◌, ap, append_assoc, drop, flat_map, length, refl, sym}
use Rattle.std.proofs.lemmas.List.{append-nil, at_drop_all}
use Rattle.thp_drawing.specs.Elements.{piece_text, pieces_text, with_pieces}
use Rattle.thp_drawing.specs.declared.element.Piece.{Piece}

pub two : (t a b : List ℕ) → t ++ a ++ b ≡ t ++ (a ++ b)
two t a b = append_assoc t a b

pub three : (t a b c : List ℕ) → t ++ a ++ b ++ c ≡ t ++ (a ++ b ++ c)
three t a b c = simp append_assoc

pub four : (t a b c d : List ℕ) → t ++ a ++ b ++ c ++ d ≡ t ++ (a ++ b ++ c ++ d)
four t a b c d = simp append_assoc

pub five : (t a b c d e : List ℕ) → t ++ a ++ b ++ c ++ d ++ e ≡ t ++ (a ++ b ++ c ++ d ++ e)
five t a b c d e = simp append_assoc

pub six : (t a b c d e f : List ℕ) → t ++ a ++ b ++ c ++ d ++ e ++ f ≡ t ++ (a ++ b ++ c ++ d ++ e ++ f)
six t a b c d e f = simp append_assoc

pub seven : (t a b c d e f g : List ℕ) → t ++ a ++ b ++ c ++ d ++ e ++ f ++ g ≡ t ++ (a ++ b ++ c ++ d ++ e ++ f ++ g)
seven t a b c d e f g = simp append_assoc

pub eight : (t a b c d e f g h : List ℕ) → t ++ a ++ b ++ c ++ d ++ e ++ f ++ g ++ h ≡ t ++ (a ++ b ++ c ++ d ++ e ++ f ++ g ++ h)
eight t a b c d e f g h = simp append_assoc

-- ---- texts each of which is the one before and a piece behind it
pub two_after : (t a b : List ℕ) {u : List ℕ} → u ≡ t ++ a → u ++ b ≡ t ++ (a ++ b)
two_after t a b p = ap (λ x. x ++ b) p ∙ two t a b

pub three_after : (t a b c : List ℕ) {u v : List ℕ} → u ≡ t ++ a → v ≡ u ++ b → v ++ c ≡ t ++ (a ++ b ++ c)
three_after t a b c p q = ap (λ x. x ++ c) (q ∙ ap (λ x. x ++ b) p) ∙ three t a b c

pub four_after : (t a b c d : List ℕ) {u v w : List ℕ} → u ≡ t ++ a → v ≡ u ++ b → w ≡ v ++ c → w ++ d ≡ t ++ (a ++ b ++ c ++ d)
four_after t a b c d p q r = ap (λ x. x ++ d) (r ∙ ap (λ x. x ++ c) (q ∙ ap (λ x. x ++ b) p)) ∙ four t a b c d

with_flat : (t : List ℕ) (ps : List Piece) → with_pieces t ps ≡ t ++ flat_map piece_text ps
with_flat t [] = sym (append-nil t)
with_flat t (p ∷ more) = with_flat (t ++ piece_text p) more ∙ append_assoc t (piece_text p) (flat_map piece_text more)

-- the pieces of a list as the loop over them appends them
pieces_flat : (ps : List Piece) → pieces_text ps ≡ flat_map piece_text ps
pieces_flat [] = refl
pieces_flat (p ∷ more) = with_flat (piece_text p) more

-- at the end of that loop
pub all_put : (ps : List Piece) (i : ℕ) (t u : List ℕ) → length ps ≤ i
    → u ++ flat_map piece_text (drop i ps) ≡ t ++ flat_map piece_text ps → u ≡ t ++ pieces_text ps
all_put ps i t u end put =
    sym (append-nil u) ∙ ap (λ x. u ++ x) (sym (at_drop_all (flat_map piece_text) ps i end)) ∙ put
    ∙ ap (λ x. t ++ x) (sym (pieces_flat ps))
