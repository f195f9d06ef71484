-- The view that contracts have of what happened so far. No public clause cites this module.
use Rattle.std.specs.Prelude.{List, [], ◌∷◌, ◌++◌}
use Rattle.thp_history.specs.declared.trace.Chain.{Chain}
use Rattle.thp_history.specs.declared.trace.Chain.TheVariants.{Start, Then'}

-- the items, oldest first
abbrev pub chain_items : {T : Type 0} → Chain T → List T
chain_items Start = []
chain_items (Then' item shape before) = chain_items before ++ item ∷ []
