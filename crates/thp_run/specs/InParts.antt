-- Runs of a script whose `setup` arrives in parts.
use Rattle.std.specs.Prelude.{◌≡◌, ◌+◌, ℕ, List, All, Some, length, map, slice_get}
use Rattle.atomic_table.specs.Seated.{TableId}
use Rattle.thp_cell.specs.Prelude.{PassState}
use Rattle.thp_script.specs.declared.script.Command.{Command}
use Rattle.thp_script.specs.declared.settings.Settings.{Settings}
use Rattle.thp_worker.specs.declared.reply.SectionOutcome.{SectionOutcome}
use Rattle.thp_worker.specs.Prelude.{Fronts, Goes, Held, DidFirst}
use Rattle.thp_run.specs.Passes.{fronts_in}
use Rattle.thp_run.specs.NewNodes.{new_shape}
use Rattle.thp_run.specs.Sharing.{cell_of, IsFreshPass, IsUnused, Pairs}

-- the cells of new nodes, as the settings describe, and the passes that have all of their callers
pub record AreNew (s : Settings) (cells : List TableId) (passes : List PassState) : Type 0 where
  pub count : length passes ≡ s.nodes
  pub shapes : (n : ℕ) (p : PassState) → slice_get passes n ≡ Some p → p.shape ≡ new_shape s n
  pub fresh : All (IsFreshPass (s.workers + 1)) passes
  pub in_cells : map cell_of passes ≡ cells

-- the passes' knowledge of the nodes before the first step: no caller has an open batch
pub record StartsOn (s : Settings) (passes : List PassState) (f : Fronts) : Type 0 where
  pub held : List Held
  pub unused : Pairs IsUnused passes held
  pub are : f ≡ fronts_in (record { callers = s.workers + 1; first = 0; end = s.workers + 1; held = held })

-- On new nodes, with the passes `old`, caller 0 executed these commands, the first of `setup`, and no other caller did anything.
pub record HasBegun (s : Settings) (cells : List TableId) (old : List PassState) (first : Fronts) (commands : List Command) (now : Fronts) (setup : SectionOutcome) : Type 0 where
  pub new : AreNew s cells old
  pub starts : StartsOn s old first
  pub goes : Goes 0 first now
  pub did : DidFirst 0 first now commands setup
