-- What `thpdraw` does with a journal, as its options request (this project's profile).
use Rattle.std.specs.Prelude.{◌≡◌, ◌≤◌, ℕ, Bool, length, List, Option, Some, None, Result, Ok, Err}
use Rattle.thp_journal_tools.specs.Progress.{may_show}
use Rattle.thp_drawing.specs.declared.node.DrawnNode.{DrawnNode}
use Rattle.thp_cli.specs.declared.ending.Ending.{Ending}
use Rattle.thp_cli.specs.declared.ending.ProgramFault.{ProgramFault}
use Rattle.thp_cli.specs.declared.ending.ProgramFault.TheVariants.{Run, NoNode}
use Rattle.thp_cli.specs.declared.fault.RunFault.TheVariants.{OutOfMemory}
use Rattle.thp_cli.specs.Prelude.{Device, Source}
use Rattle.thp_journal_tools.specs.declared.draw_program.DrawOptions.{DrawOptions}
use Rattle.thp_journal_tools.specs.Drawings.{Draws, FindsNoNode}

-- why there is no output for nodes: memory could not be allocated, or the requested one is not among them
abbrev pub IsOutputFault : Option ℕ → List DrawnNode → ProgramFault → Type 0
IsOutputFault asked nodes (Run fault) = fault ≡ OutOfMemory
IsOutputFault asked nodes (NoNode number) = (asked ≡ Some number) × (length nodes ≤ number)
IsOutputFault asked nodes _ = ⊥

-- what was done with the journal, by how it ended
abbrev pub DrawIsDone : DrawOptions → Source → Device → Result Ending ProgramFault → Type 0
DrawIsDone options input output (Ok ending) = Draws options input output (Ok ending)
DrawIsDone options input output (Err (Run fault)) = Draws options input output (Err fault)
DrawIsDone options input output (Err (NoNode number)) = FindsNoNode options input output number
DrawIsDone options input output (Err _) = ⊥

-- the same, and there is no text for standard error
abbrev pub DoesDrawRequest : DrawOptions → Source → Device → Result Ending ProgramFault → Option (List ℕ) → Type 0
DoesDrawRequest options input output result notes = DrawIsDone options input output result × (notes ≡ None)

-- the progress may be shown
abbrev pub shows_draw_progress : DrawOptions → Bool → Bool
shows_draw_progress options is_terminal = may_show options.progress is_terminal
