-- The words of a set, one after the other.
use Rattle.std.proofs.Common.{◌≡◌, ◌≢◌, ℕ, ◌+◌, ◌*◌, ◌/◌, ◌%◌, ◌<◌, Bool, List, length, set, get_or, ap, ◌∙◌, arith, nat_eq, get_or-set_same, get_or-set_other}
use Rattle.std.specs.Int.{bit_at}
use Rattle.std.proofs.lemmas.Bool.Decides.{eqb_tells}
use Rattle.thp_history.specs.Prelude.{has, in_words}

-- the first k words are those of the set
abbrev pub MasksBelow : ℕ → List ℕ → List Bool → Type 0
MasksBelow k words truths = (i : ℕ) → i < 64 * k → in_words words i ≡ has truths i

-- a number of a word that was set, and one of another
in_set : (words : List ℕ) (k w i : ℕ) → length words ≡ 8 → k < 8 → i / 64 ≡ k → in_words (set words k w) i ≡ nat_eq (bit_at w (i % 64)) 1
unfolding in_words
in_set words k w i eight h e = ap (λ x. nat_eq (bit_at x (i % 64)) 1) (ap (λ q. get_or (set words k w) q 0) e ∙ get_or-set_same words k w 0 (omega (arith, eight)))

in_other : (words : List ℕ) (k w i : ℕ) → i / 64 ≢ k → in_words (set words k w) i ≡ in_words words i
unfolding in_words
in_other words k w i g = ap (λ x. nat_eq (bit_at x (i % 64)) 1) (get_or-set_other words k (i / 64) w 0 g)

lower : (k i : ℕ) → i < 64 * (k + 1) → i / 64 ≢ k → i < 64 * k
lower k i h g = grind arith

-- no word yet
pub masks_none : (words : List ℕ) (truths : List Bool) → MasksBelow 0 words truths
masks_none words truths i short = absurd (omega arith)

-- one word more
pub masks_more : (words : List ℕ) (truths : List Bool) (k w : ℕ) → length words ≡ 8 → k < 8
    → ((i : ℕ) → i / 64 ≡ k → nat_eq (bit_at w (i % 64)) 1 ≡ has truths i)
    → MasksBelow k words truths → MasksBelow (k + 1) (set words k w) truths
masks_more words truths k w eight h reported below i short = grind (arith, eqb_tells, in_set, in_other, lower)
