-- The result of a check of a history.
use Rattle.std.specs.Prelude.{⊤}
use Rattle.thp_history.specs.declared.shape.Shape.{Shape}
use Rattle.thp_history.specs.History.{History}
use Rattle.thp_history.specs.Legal.{IsFirstMisfit}
use Rattle.thp_history.specs.declared.check_fault.CheckFault.{CheckFault}
use Rattle.thp_history.specs.declared.check_fault.CheckFault.TheVariants.{Illegal, OutOfMemory}

-- an illegal event is the first that does not fit; lack of memory implies nothing about the history
abbrev pub IsCheckResult : Shape → History → CheckFault → Type 0
IsCheckResult s h (Illegal place) = IsFirstMisfit s h place
IsCheckResult s h OutOfMemory = ⊤
