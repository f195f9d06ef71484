-- Parsing of words at the beginning of a text.
use Rattle.std.specs.Prelude.{◌≡◌, ℕ, ◌∷◌, ◌++◌, Some}
use Rattle.thp_script.specs.Words.{Text, number_of}

-- the text begins with a number of at most `most` and the byte `end`, and continues with `rest`
pub record FastNumber (end most : ℕ) (text : Text) (n : ℕ) (rest : Text) : Type 0 where
  pub word : Text
  pub reads : number_of most word ≡ Some n
  pub stands : text ≡ word ++ end ∷ rest
