-- The meaning of the number that a call returns.
use Rattle.std.specs.Prelude.{ℕ, ◌<◌, ◌≤◌, ◌+◌, ◌-◌, ◌⊎◌, zero, suc, List, [], ◌∷◌, length, nat_le, if◌then◌else◌, Result, Ok, Err, ⊤}
use Rattle.thp_history.specs.declared.refusal.Refusal.TheVariants.{NoPage, BadRange, IsSplit, NotMapped, Gone, NotPinned, TooMany, Closed, NoBlock, HasBatch, OutOfMemory}
use Rattle.thp_cell.specs.declared.fault.CellFault.{CellFault}
use Rattle.thp_cell.specs.declared.fault.CellFault.TheVariants as cell_fault
use Rattle.thp_node.specs.declared.answers.NewFault.{NewFault}
use Rattle.thp_node.specs.declared.answers.NewFault.TheVariants as new_fault
use Rattle.thp_capi.specs.declared.codes.Fault.{Fault}
use Rattle.thp_capi.specs.declared.codes.Fault.TheVariants.{Refused, Empty, InUse, BadCaller, BadSize, BadCount, NoBatch, BatchOpen, TooSmall, Busy, BadPass, Finished, NoReason, NoJournal}

-- success, or why the call has no effect
abbrev pub Answer : Type 0
Answer = Result ⊤ Fault

-- a cell's fault as that of a call, and the reason why a node or a cell was not made
abbrev pub fault_in : CellFault → Fault
fault_in cell_fault.Busy = Busy
fault_in (cell_fault.Refused r) = Refused r

abbrev pub fault_made : NewFault → Fault
fault_made new_fault.BadSize = BadSize
fault_made new_fault.OutOfMemory = Refused OutOfMemory

-- the results in the order of their numbers, as the header's `thp_code` names them: from 0 on, and from 30 on
abbrev pub answers : List Answer
answers =
    Ok tt
    ∷ Err (Refused NoPage)
    ∷ Err (Refused BadRange)
    ∷ Err (Refused IsSplit)
    ∷ Err (Refused NotMapped)
    ∷ Err (Refused Gone)
    ∷ Err (Refused NotPinned)
    ∷ Err (Refused TooMany)
    ∷ Err (Refused Closed)
    ∷ Err (Refused NoBlock)
    ∷ Err (Refused HasBatch)
    ∷ Err (Refused OutOfMemory)
    ∷ Err Empty
    ∷ Err InUse
    ∷ Err BadCaller
    ∷ Err BadSize
    ∷ Err BadCount
    ∷ Err NoBatch
    ∷ Err BatchOpen
    ∷ Err TooSmall
    ∷ []

abbrev pub later_answers : List Answer
later_answers = Err Busy ∷ Err BadPass ∷ Err Finished ∷ Err NoReason ∷ Err NoJournal ∷ []

abbrev pub nth : List Answer → ℕ → Answer
nth [] n = Err Empty
nth (a ∷ more) zero = a
nth (a ∷ more) (suc n) = nth more n

-- the result of this number
abbrev pub answer_of_code : ℕ → Answer
answer_of_code code = if nat_le 30 code then nth later_answers (code - 30) else nth answers code

-- the number is that of a result
abbrev pub IsCode : ℕ → Type 0
IsCode code = (code < length answers) ⊎ ((30 ≤ code) × (code < 30 + length later_answers))

-- the result together with the call's value
abbrev pub answer_with : {A : Type 0} → Answer → A → Result A Fault
answer_with (Ok u) a = Ok a
answer_with (Err f) a = Err f

-- the number is that of a result, and P holds of the result
abbrev pub Reports : ℕ → (Answer → Type 0) → Type 0
Reports code P = IsCode code × P (answer_of_code code)
