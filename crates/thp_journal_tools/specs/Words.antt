-- What `clap` makes of the words of a command line.
use Rattle.std.specs.Prelude.{ℕ, List, Result, IfOk}
use Rattle.clap.specs.Words.{App, FailsBy, Row, fault_of, matches_of}
use Rattle.clap.specs.declared.error.Error.{Error}

-- `clap` accepts the words for a command, and the options are those of its matches, or rejects them for such an error or for lack
-- of memory
pub record ReadsWords {O : Type 0} (command : App) (HoldsOptions : List Row → O → Type 0) (words : List (List ℕ)) (result : Result O Error) : Type 0 where
  pub fails : FailsBy (fault_of command words) result
  pub holds : IfOk result (HoldsOptions (matches_of command words))
