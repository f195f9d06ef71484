-- Texts made piece by piece.
use Rattle.std.proofs.Common.{◌≡◌, ℕ, List, ◌++◌, append_assoc}

-- three pieces behind a text
pub three : (t a b c : List ℕ) → t ++ a ++ b ++ c ≡ t ++ (a ++ b ++ c)
three t a b c = simp append_assoc

-- nine pieces behind a text
pub nine : (t a b c d e f g h i : List ℕ) → t ++ a ++ b ++ c ++ d ++ e ++ f ++ g ++ h ++ i ≡ t ++ (a ++ b ++ c ++ d ++ e ++ f ++ g ++ h ++ i)
nine t a b c d e f g h i = simp append_assoc
