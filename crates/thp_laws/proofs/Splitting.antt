-- Pieces that are joined by a separator, or ended by a line feed, are read back.
use Rattle.std.proofs.Common.{◌≡◌, ◌==◌, ℕ, Bool, true, false, not, List, [], ◌∷◌, ◌++◌, refl, ap, ◌∙◌, append_assoc}
use Rattle.std.specs.List.{AllByRecursion, list_all, flat_map, join_with_byte}
use Rattle.std.proofs.lemmas.Bool.{and_parts, and_from, eq-eqb, not-true}
use Rattle.std.proofs.lemmas.List.Elements.{All-from_recursion}
use Rattle.std.proofs.lemmas.List.Splits.{slice_split_at, slice_split_none}
use Rattle.thp_script.specs.Prelude.{Text, pieces_at, lines_of}

-- what each element has that passes a test that says it
pub all_wider : {A : Type 0} (p q : A → Bool) → ((x : A) → p x ≡ true → q x ≡ true) → (xs : List A) → list_all p xs ≡ true → list_all q xs ≡ true
all_wider p q f [] h = refl
all_wider p q f (x ∷ xs) h = let t = and_parts _ _ h in and_from _ _ (f x t.0) (all_wider p q f xs t.1)

-- no byte of the text is the separator
abbrev pub is_without : ℕ → Text → Bool
is_without c text = list_all (λ b. not (b == c)) text

-- no byte is the separator, as a fact of each
others : (c : ℕ) (text : Text) → is_without c text ≡ true → AllByRecursion (λ b. (b == c) ≡ false) text
others c [] h = tt
others c (b ∷ text) h = let t = and_parts _ _ h in (not-true _ t.0, others c text t.1)

-- a text without the separator is one piece
pub single : (c : ℕ) (text : Text) → is_without c text ≡ true → pieces_at c text ≡ text ∷ []
single c text h = slice_split_none (λ b. b == c) text (All-from_recursion (λ b. (b == c) ≡ false) text (others c text h))

-- the separator is itself
self_equal : (c : ℕ) → (c == c) ≡ true
self_equal c = eq-eqb c c refl

-- the first piece ends where the first separator stands
pub cut_once : (c : ℕ) (text rest : Text) → is_without c text ≡ true → pieces_at c (text ++ c ∷ rest) ≡ text ∷ pieces_at c rest
cut_once c text rest h = slice_split_at (λ b. b == c) text c rest (All-from_recursion (λ b. (b == c) ≡ false) text (others c text h)) (self_equal c)

-- pieces without the separator, joined by it, are its pieces
pub joined : (c : ℕ) (piece : Text) (pieces : List Text) → is_without c piece ≡ true → list_all (is_without c) pieces ≡ true → pieces_at c (join_with_byte c (piece ∷ pieces)) ≡ piece ∷ pieces
joined c piece [] h hs = single c piece h
joined c piece (next ∷ pieces) h hs =
    let t = and_parts _ _ hs in
    cut_once c piece (join_with_byte c (next ∷ pieces)) h ∙ ap (λ ps. piece ∷ ps) (joined c next pieces t.0 t.1)

-- a line with its line feed
abbrev pub with_feed : Text → Text
with_feed line = line ++ 10 ∷ []

-- lines without a line feed, each ended by one, are the text's lines, and nothing stands behind them
pub lines_back : (lines : List Text) → list_all (is_without 10) lines ≡ true → lines_of (flat_map with_feed lines) ≡ lines ++ [] ∷ []
lines_back [] h = refl
lines_back (line ∷ lines) h =
    let t = and_parts _ _ h in
    ap lines_of (append_assoc line (10 ∷ []) (flat_map with_feed lines))
    ∙ cut_once 10 line (flat_map with_feed lines) t.0
    ∙ ap (λ ls. line ∷ ls) (lines_back lines t.1)

-- of two texts one after the other
pub all_append : {A : Type 0} (test : A → Bool) (xs ys : List A) → list_all test xs ≡ true → list_all test ys ≡ true → list_all test (xs ++ ys) ≡ true
all_append test [] ys h k = k
all_append test (x ∷ xs) ys h k = let t = and_parts _ _ h in and_from _ _ t.0 (all_append test xs ys t.1 k)

-- what holds of each byte of the pieces and of the separator holds of each byte of the joined text
pub all_joined : (test : ℕ → Bool) (c : ℕ) (pieces : List Text) → test c ≡ true → list_all (list_all test) pieces ≡ true → list_all test (join_with_byte c pieces) ≡ true
all_joined test c [] s h = refl
all_joined test c (piece ∷ []) s h = (and_parts _ _ h).0
all_joined test c (piece ∷ next ∷ pieces) s h =
    let t = and_parts _ _ h in
    all_append test piece (c ∷ join_with_byte c (next ∷ pieces)) t.0 (and_from _ _ s (all_joined test c (next ∷ pieces) s t.1))
