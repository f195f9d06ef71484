-- The steps of a command, one after another, and its answer.
use Rattle.std.specs.Prelude.{◌≡◌, ◌⊎◌, ℕ, ◌+◌, ◌≤◌, nat_eq, ⊤, Bool, true, false, List, [], ◌∷◌, ◌++◌, All, Option, Some, Result, Ok, Err, length, map, filter, if◌then◌else◌}
use Rattle.thp_cell.specs.declared.fault.CellFault.{CellFault}
use Rattle.thp_cell.specs.declared.fault.CellFault.TheVariants.{Busy, Refused}
use Rattle.thp_history.specs.Prelude.{max_batch}
use Rattle.thp_history.specs.declared.refusal.Refusal.{Refusal}
use Rattle.thp_history.specs.declared.refusal.Refusal.TheVariants.{OutOfMemory}
use Rattle.thp_node.specs.declared.answers.Tried.{Tried}
use Rattle.thp_node.specs.declared.answers.Tried.TheVariants as tried
use Rattle.thp_node.specs.declared.answers.BackReply.{BackReply}
use Rattle.thp_node.specs.declared.answers.ScanReply.{ScanReply}
use Rattle.thp_script.specs.declared.script.Op.{Op}
use Rattle.thp_script.specs.declared.script.Op.TheVariants as op
use Rattle.thp_worker.specs.declared.steps.Step.{Step}
use Rattle.thp_worker.specs.declared.steps.Step.TheVariants.{One, Take, SplitNext, PutBack}
use Rattle.thp_worker.specs.declared.reply.Reply.{Reply}
use Rattle.thp_worker.specs.declared.reply.Reply.TheVariants as reply
use Rattle.thp_worker.specs.declared.command.CommandProgress.{CommandProgress}
use Rattle.thp_worker.specs.Does.{Open, Reaction}
use Rattle.thp_worker.specs.Fronts.{Fronts, HoldsAllCallers}

-- a step and its result
pub record StepAnswer : Type 0 where
  pub step : Step
  pub answer : Reaction

-- the only step of a command, or the first of a scan
abbrev pub first_step : Op → Step
first_step (op.Scan n) = Take n
first_step (op.Take n) = Take n
first_step op.SplitNext = SplitNext
first_step op.PutBack = PutBack
first_step o = One o

-- a take that has a result, a try, and a put back
abbrev pub took : ℕ → ℕ → StepAnswer
took n taken = record { step = Take n; answer = Ok (reply.Taken taken) }

abbrev pub answered_try : Tried → StepAnswer
answered_try t = record { step = SplitNext; answer = Ok (reply.Tried t) }

abbrev pub answered_put_back : BackReply → StepAnswer
answered_put_back back = record { step = PutBack; answer = Ok (reply.Back back) }

-- a try that found a page
abbrev pub FoundPage : Tried → Type 0
FoundPage tried.Done = ⊥
FoundPage _ = ⊤

abbrev pub is_split_try : Tried → Bool
is_split_try (tried.Split p) = true
is_split_try _ = false

abbrev pub is_pinned_try : Tried → Bool
is_pinned_try (tried.Pinned p) = true
is_pinned_try _ = false

abbrev pub is_used_try : Tried → Bool
is_used_try (tried.Used p) = true
is_used_try _ = false

-- the counts of a scan, from its take and its tries
abbrev pub counted : ℕ → List Tried → ScanReply
counted taken tries = record { taken = taken; split = length (filter is_split_try tries); pinned = length (filter is_pinned_try tries); back = 0; dropped = 0; used = length (filter is_used_try tries) }

-- a scan that was executed: a take, tries until no page is left, and a put back
pub record ScanDone (n : ℕ) (reported : List StepAnswer) (answer : Reaction) : Type 0 where
  pub taken : ℕ
  pub tries : List Tried
  pub pages : All FoundPage tries
  pub back : BackReply
  pub steps : reported ≡ took n taken ∷ map answered_try tries ++ answered_try tried.Done ∷ [] ++ answered_put_back back ∷ []
  pub answered : answer ≡ Ok (reply.Scan (record (counted taken tries) { back = back.back; dropped = back.dropped }))

-- a scan whose take was refused
pub record ScanRefused (n : ℕ) (reported : List StepAnswer) (answer : Reaction) : Type 0 where
  pub why : Refusal
  pub steps : reported ≡ record { step = Take n; answer = Err why } ∷ []
  pub answered : answer ≡ Err why

-- the steps of a command and its answer
abbrev pub TurnsOut : Op → List StepAnswer → Reaction → Type 0
TurnsOut (op.Scan n) reported answer = ScanDone n reported answer ⊎ ScanRefused n reported answer
TurnsOut o reported answer = reported ≡ record { step = first_step o; answer = answer } ∷ []

-- a try that found no page, if it was made
abbrev pub if_done : Bool → List StepAnswer
if_done true = answered_try tried.Done ∷ []
if_done false = []

-- a scan that was begun: its take, and the tries so far
pub record Scanning (o : Op) (reported : List StepAnswer) (so_far : ScanReply) : Type 0 where
  pub count : ℕ
  pub is_scan : o ≡ op.Scan count
  pub taken : ℕ
  pub tries : List Tried
  pub pages : All FoundPage tries
  pub done : Bool
  pub steps : reported ≡ took count taken ∷ map answered_try tries ++ if_done done
  pub counts : so_far ≡ counted taken tries

abbrev pub no_progress : CommandProgress
no_progress = record { steps = 0; so_far = counted 0 [] }

-- a command with no step yet, or a scan that was begun
pub record IsProgressAfter (o : Op) (reported : List StepAnswer) (begun : CommandProgress) : Type 0 where
  pub count : begun.steps ≡ length reported
  pub so_far : ((reported ≡ []) × (begun ≡ no_progress)) ⊎ Scanning o reported begun.so_far

-- ---- the code's state from step to step

-- a command that continues, or its answer
pub data CommandState : Type 0 where
  On : CommandProgress → CommandState
  Ended : Reaction → CommandState

-- a result as a cell returns it
abbrev pub by_cell : {A : Type 0} → Result A Refusal → Result A CellFault
by_cell (Ok answer) = Ok answer
by_cell (Err why) = Err (Refused why)

-- a command has an answer, or continues from `begun` since its node stayed busy; without memory nothing is specified
abbrev pub Comes : CommandProgress → Result Reply CellFault → (CommandState → Type 0) → Type 0
Comes begun (Ok reply) P = P (Ended (Ok reply))
Comes begun (Err Busy) P = P (On begun)
Comes begun (Err (Refused OutOfMemory)) P = ⊤
Comes begun (Err (Refused why)) P = P (Ended (Err why))

-- the same for a command that was not begun, wherever it stopped
abbrev pub WholeComes : Result Reply CellFault → (CommandState → Type 0) → Type 0
WholeComes answer P = (begun : CommandProgress) × Comes begun answer P

-- the number of pages that a scan has tried
abbrev pub tries_so_far : ScanReply → ℕ
tries_so_far r = r.split + r.pinned + r.used

abbrev pub scan_step : ℕ → ℕ → ℕ → Step
scan_step n steps tries = if nat_eq steps 0 then Take n else if nat_eq steps (1 + tries) then SplitNext else PutBack

abbrev pub next_step : Op → CommandProgress → Step
next_step (op.Scan n) begun = scan_step n begun.steps (tries_so_far begun.so_far)
next_step o begun = first_step o

-- the possible results of a step of a scan
abbrev pub StepReacts : Step → Reaction → Type 0
StepReacts (Take n) (Ok (reply.Taken t)) = ⊤
StepReacts (Take n) (Err why) = ⊤
StepReacts SplitNext (Ok (reply.Tried t)) = ⊤
StepReacts PutBack (Ok (reply.Back r)) = ⊤
StepReacts _ _ = ⊥

abbrev pub Reacts : Op → CommandProgress → Reaction → Type 0
Reacts (op.Scan n) begun answer = StepReacts (next_step (op.Scan n) begun) answer
Reacts o begun answer = ⊤

abbrev pub one_more : CommandProgress → ScanReply → CommandState
one_more begun so_far = On (record { steps = begun.steps + 1; so_far = so_far })

abbrev pub scan_goes_on : CommandProgress → Reaction → CommandState
scan_goes_on begun (Ok (reply.Taken taken)) = one_more begun (record begun.so_far { taken = taken })
scan_goes_on begun (Ok (reply.Tried (tried.Split p))) = one_more begun (record begun.so_far { split = begun.so_far.split + 1 })
scan_goes_on begun (Ok (reply.Tried (tried.Pinned p))) = one_more begun (record begun.so_far { pinned = begun.so_far.pinned + 1 })
scan_goes_on begun (Ok (reply.Tried (tried.Used p))) = one_more begun (record begun.so_far { used = begun.so_far.used + 1 })
scan_goes_on begun (Ok (reply.Tried tried.Done)) = one_more begun begun.so_far
scan_goes_on begun (Ok (reply.Back back)) = Ended (Ok (reply.Scan (record begun.so_far { back = back.back; dropped = back.dropped })))
scan_goes_on begun answer = Ended answer

-- a command of several steps
abbrev pub is_scan : Op → Bool
is_scan (op.Scan n) = true
is_scan o = false

-- how a command continues after the result of its next step
abbrev pub goes_on : Op → CommandProgress → Reaction → CommandState
goes_on (op.Scan n) begun answer = scan_goes_on begun answer
goes_on o begun answer = Ended answer

-- with these steps the command reached this state
abbrev pub Turned : Op → List StepAnswer → CommandState → Type 0
Turned o reported (On begun) = IsProgressAfter o reported begun
Turned o reported (Ended answer) = TurnsOut o reported answer

-- the caller's open batch during the tries of a scan: the pages tried and those left are at most as many as a batch holds
pub record Holding (batch : Option Open) (begun : CommandProgress) : Type 0 where
  pub open_batch : Open
  pub is : batch ≡ Some open_batch
  pub few : tries_so_far begun.so_far + length open_batch.left ≤ max_batch
  pub short : begun.steps ≤ 2 + tries_so_far begun.so_far

-- a command that can continue
abbrev pub IsReady : Option Open → CommandProgress → Type 0
IsReady batch begun = (begun ≡ no_progress) ⊎ Holding batch begun

-- a command that was postponed can continue
abbrev pub StaysReady : Option Open → CommandState → Type 0
StaysReady batch (On begun) = IsReady batch begun
StaysReady batch (Ended answer) = ⊤

-- a command is postponed only if the holder does not have all callers
abbrev pub MayPostpone : Fronts → CommandState → Type 0
MayPostpone f (On begun) = HoldsAllCallers f → ⊥
MayPostpone f (Ended answer) = ⊤
