-- The pieces of a text, taken off one by one.
use Rattle.std.proofs.Common.{◌≡◌, ◌==◌, ℕ, ◌+◌, Bool, true, false, cond, List, [], ◌∷◌, take, drop, Some, None, refl, arith, position}
use Rattle.std.specs.List.{onto_first}
use Rattle.std.proofs.lemmas.Bool.{ltb-true, ltb-false, not-true}
use Rattle.std.proofs.lemmas.List.Splits.{slice_split_first, slice_split_none}
use Rattle.std.proofs.lemmas.List.Sums.{prefix_len_passes}
use Rattle.std.proofs.lemmas.Option.{cond_some}
use Rattle.thp_script.specs.Prelude.{Text, pieces_at}

none_of_cond : (b : Bool) (i : ℕ) → cond b (Some i) None ≡ None → b ≡ false
none_of_cond x i e = grind arith

-- a text without the separator is one piece
pub one_piece : (c : ℕ) (text : Text) → position (λ b. b == c) text ≡ None → pieces_at c text ≡ text ∷ []
one_piece c text nowhere = grind (arith, ltb-false, none_of_cond, slice_split_none, not-true, prefix_len_passes)

-- the first piece ends at the first separator, and the others are those of what follows
pub first_piece : (c : ℕ) (text : Text) (place : ℕ) → position (λ b. b == c) text ≡ Some place → pieces_at c text ≡ take place text ∷ pieces_at c (drop (place + 1) text)
first_piece c text place found = grind (arith, cond_some, slice_split_first, ltb-true)

-- a text has a first piece
abbrev pub HasFirst : List Text → Type 0
HasFirst pieces = (first : Text) × (others : List Text) × (pieces ≡ first ∷ others)

first_of_onto : (b : ℕ) (pieces : List Text) → HasFirst (onto_first b pieces)
first_of_onto b [] = (b ∷ [], [], refl)
first_of_onto b (piece ∷ pieces) = (b ∷ piece, pieces, refl)

first_of_cond : (t : Bool) (b : ℕ) (pieces : List Text) → HasFirst (cond t ([] ∷ pieces) (onto_first b pieces))
first_of_cond true b pieces = ([], pieces, refl)
first_of_cond false b pieces = first_of_onto b pieces

pub has_first : (c : ℕ) (text : Text) → HasFirst (pieces_at c text)
has_first c [] = ([], [], refl)
has_first c (b ∷ text) = first_of_cond _ b (pieces_at c text)
