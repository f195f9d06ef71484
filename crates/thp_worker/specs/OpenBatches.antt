-- The nodes on which a caller has an open batch, computed from the answers of its section.
use Rattle.std.specs.Prelude.{◌≡◌, ℕ, ◌<◌, Bool, true, false, List, Option, Some, None, Result, Ok, get_or, length, slice_set}
use Rattle.thp_history.specs.declared.refusal.Refusal.{Refusal}
use Rattle.thp_script.specs.declared.script.Command.{Command}
use Rattle.thp_script.specs.declared.script.Op.{Op}
use Rattle.thp_script.specs.declared.script.Op.TheVariants as op
use Rattle.thp_worker.specs.Does.{Open}
use Rattle.thp_worker.specs.Fronts.{Fronts}

-- there is an open batch
abbrev pub is_open : Option Open → Bool
is_open None = false
is_open (Some b) = true

-- caller c has no open batch
abbrev pub HasNoBatch : ℕ → Fronts → Type 0
HasNoBatch c f = (n : ℕ) → f.batches c n ≡ None

-- for each node, whether there is an open batch
pub record OpenOn (nodes : ℕ) (opened : List Bool) (bs : ℕ → Option Open) : Type 0 where
  pub count : length opened ≡ nodes
  pub each : (n : ℕ) → n < nodes → get_or opened n false ≡ is_open (bs n)

-- Whether there is an open batch after a command with a result, given whether there was one before: a take opens one, and a put
-- back ends it. A scan ends its own, and is refused if there is one.
abbrev pub leaves_open : {A : Type 0} → Op → Result A Refusal → Bool → Bool
leaves_open (op.Take n) (Ok x) was = true
leaves_open op.PutBack answer was = false
leaves_open o answer was = was

-- the record after a command with a result
abbrev pub marked : {A : Type 0} → List Bool → Command → Result A Refusal → List Bool
marked opened command answer = slice_set opened command.node (leaves_open command.op answer (get_or opened command.node false))
