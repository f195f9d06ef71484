-- Lists of which only a front is stored.
use Rattle.std.specs.Prelude.{ℕ, suc, zero, List, [], ◌∷◌, replicate}

-- the list, followed by as many x as make n entries
abbrev pub padded : {A : Type 0} → ℕ → A → List A → List A
padded n x [] = replicate n x
padded zero x (y ∷ ys) = y ∷ ys
padded (suc n) x (y ∷ ys) = y ∷ padded n x ys
