-- The command at an index, as the code reads it.
use Rattle.std.proofs.Common.{◌≡◌, ◌∙◌, ◌<◌, ℕ, All, List, Some, ap, get_or, length, slice_get, subst, sym}
use Rattle.std.proofs.lemmas.Option.{slice_get-get_or}
use Rattle.thp_script.specs.declared.script.Command.{Command}
use Rattle.thp_worker.specs.Prelude.{IsWorkFor}

-- it is the one there
pub read_at : (commands : List Command) (i : ℕ) (command : Command) → i < length commands → command ≡ get_or commands i command → slice_get commands i ≡ Some command
read_at commands i command lt is = slice_get-get_or commands i command lt ∙ ap (λ (c : Command). Some c) (sym is)

-- what holds of all commands holds of it
pub read_fits : (nodes : ℕ) (commands : List Command) (i : ℕ) (command : Command) → All (IsWorkFor nodes) commands → i < length commands → command ≡ get_or commands i command → IsWorkFor nodes command
read_fits nodes commands i command all lt is = subst (IsWorkFor nodes) (sym is) (all i command lt)
