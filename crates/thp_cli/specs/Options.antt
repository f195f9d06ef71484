-- The result of a parse for options that have one value and a default.
use Rattle.std.specs.Prelude.{◌≡◌, false, ℕ, List, ◌∷◌, Some}
use Rattle.clap.specs.Words.{Accepts, matched_of, raw_values, reading_of}
use Rattle.clap.specs.declared.builder.value_parser.ValueParser.{ValueParser}
use Rattle.clap.specs.declared.parser.matches.Found.{Found}
use Rattle.clap.specs.declared.parser.matches.MatchedArg.{MatchedArg}

-- the matches have a value for the id, which this parser accepted
pub record HasValue (found : Found) (id : List ℕ) (parser : ValueParser) : Type 0 where
  pub entry : MatchedArg
  pub is_entry : matched_of found id ≡ Some entry
  pub value : List ℕ
  pub others : List (List ℕ)
  pub values : raw_values entry ≡ value ∷ others
  pub passed : Accepts false parser value
  pub read : entry.reading ≡ reading_of parser
