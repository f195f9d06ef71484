-- What is read of a text that arrives in parts.
use Rattle.std.specs.Prelude.{◌≡◌, ◌≤◌, ◌++◌, List, [], ℕ, length}
use Rattle.thp_script.specs.Limits.{max_input}

-- the bytes read of a text with a limit: all of it, or more than the limit
pub record IsFrontOf (most : ℕ) (bytes input : List ℕ) : Type 0 where
  pub rest : List ℕ
  pub front : input ≡ bytes ++ rest
  pub all : length bytes ≤ most → rest ≡ []

-- the bytes read of an input: all of it, or more than an input may have
abbrev pub IsInputOf : List ℕ → List ℕ → Type 0
IsInputOf = IsFrontOf max_input
