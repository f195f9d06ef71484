-- The elements of a vector whose memory is taken as they are set.
use Rattle.std.specs.Prelude.{◌-◌, ℕ, List, ◌++◌, length, replicate}

-- the first elements, and blanks up to a length
abbrev pub with_blanks : {X : Type 0} → List X → ℕ → X → List X
with_blanks xs n blank = xs ++ replicate (n - length xs) blank
