-- The view that contracts have of the pass of a handle, and the effect of the calls on it.
use Rattle.std.specs.Prelude.{◌≡◌, ℕ, ◌<◌, ◌≤◌, ◌⊎◌, ◌*◌, [], List, Bool, false, length, ⊤, Option, None, Some, IsSome, IfSome, Result, OnOk, IfOk, IfErr}
use Rattle.thp_history.specs.declared.events.Outcome.{Outcome}
use Rattle.thp_history.specs.declared.events.What.{What}
use Rattle.thp_history.specs.declared.page_call.Done.{Done}
use Rattle.thp_history.specs.declared.refusal.Refusal.{Refusal}
use Rattle.thp_history.specs.declared.refusal.Refusal.TheVariants.{OutOfMemory}
use Rattle.thp_history.specs.declared.shape.Shape.{Shape}
use Rattle.thp_history.specs.Prelude.{max_batch, max_node_callers, queue, Call, refusal, alloc_page, scan, take_events, IsNodeShape}
use Rattle.thp_cell.specs.Prelude.{Called, Follows, IsBusy, IsRefused, IsJoined, below, from, DidOne, SaysAlloc, DidLose, DidScan, PassState, HasCaller, HasAll}
use Rattle.thp_capi.specs.Codes.{Answer}
use Rattle.thp_capi.specs.Engines.{EngineState, NoneOpen}
use Rattle.thp_capi.specs.Held.{Filled, HeldEngine, HeldPass, held_value, is_counting}
use Rattle.thp_capi.specs.Replies.{MasksSet, outcome_number}
use Rattle.thp_capi.specs.Sharing.{SharedState, OnlyFront, IsSharedPart, NoneIsOpen, HasOpen, SharedOpenStay}
use Rattle.thp_capi.specs.declared.held.Held.TheVariants.{Kept, Counted}
use Rattle.thp_capi.specs.declared.codes.Fault.{Fault}
use Rattle.thp_capi.specs.declared.codes.Fault.TheVariants.{Refused as RefusedWith, BadCaller, BadCount, BadPass, BatchOpen, Busy, Empty, InUse}
use Rattle.thp_capi.specs.declared.replies.ThpDone.{ThpDone}
use Rattle.thp_node.specs.declared.answers.ScanReply.{ScanReply}

-- ---- calls of a caller

-- a call of a caller that returns this fault recorded nothing: the caller is not one of the pass's, or another pass had the node,
-- or the node refused the call
abbrev pub PassFails : ℕ → Option Refusal → ℕ → PassState → PassState → Fault → Type 0
PassFails caller why m p q BadCaller = (HasCaller p caller → ⊥) × (q ≡ p)
PassFails caller why m p q Busy = IsBusy p q
PassFails caller why m p q (RefusedWith r) = IsRefused p q why m r
PassFails caller why m p q _ = ⊥

-- the same for a call that requests n pages
abbrev pub PassFailsAsking : ℕ → ℕ → Option Refusal → ℕ → PassState → PassState → Fault → Type 0
PassFailsAsking n caller why m p q BadCount = (max_batch < n) × (q ≡ p)
PassFailsAsking n caller why m p q f = PassFails caller why m p q f

-- a call that records one event
abbrev pub PassOne : ℕ → Call → What → SharedState → SharedState → Answer → Type 0
PassOne caller call what old new answer =
    OnlyFront old new
    × OnOk answer (Called old.pass new.pass caller (DidOne old.pass.shape call caller what))
    × IfErr answer (PassFails caller (refusal new.pass.shape new.pass.front call) 1 old.pass new.pass)

-- an allocation, which returns the page's number
abbrev pub PassAlloc : ℕ → SharedState → SharedState → Result ℕ Fault → Type 0
PassAlloc caller old new answer =
    OnlyFront old new
    × IfOk answer (λ p. Called old.pass new.pass caller (SaysAlloc old.pass.shape caller p))
    × IfErr answer (PassFails caller (refusal new.pass.shape new.pass.front alloc_page) 1 old.pass new.pass)

-- a call that removes a mapping or a pin of page p: the numbers are those of a result of the library
abbrev pub PassLost : ℕ → Call → ℕ → (Outcome → List Bool → What) → SharedState → SharedState → Result ThpDone Fault → Type 0
PassLost caller call p what old new answer =
    OnlyFront old new
    × IfOk answer (λ t. (d : Done) × (t.outcome ≡ outcome_number d.outcome) × MasksSet t.released d.released × Called old.pass new.pass caller (DidLose old.pass.shape call caller p what d))
    × IfErr answer (PassFails caller (refusal new.pass.shape new.pass.front call) 1 old.pass new.pass)

-- a scan of up to n pages
abbrev pub PassScan : ℕ → ℕ → SharedState → SharedState → Result ScanReply Fault → Type 0
PassScan caller n old new answer =
    OnlyFront old new
    × IfOk answer (λ r. Called old.pass new.pass caller (DidScan old.pass.shape caller n r))
    × IfErr answer (PassFailsAsking n caller (refusal new.pass.shape new.pass.front (scan caller)) (3 * length (take_events new.pass.shape new.pass.front caller n)) old.pass new.pass)

-- a query of the number of queued pages
abbrev pub PassCount : ℕ → SharedState → SharedState → Type 0
PassCount pages old new =
    OnlyFront old new
    × Follows old.pass new.pass
    × (pages ≡ length (queue new.pass.shape new.pass.front))

-- ---- passes that are divided and joined, and the end of a cell

-- the pass of all callers of a new cell. It does not keep the node between its calls, and no call of the library changes that
pub record IsNewPass (s : Shape) (callers : ℕ) (p : PassState) : Type 0 where
  pub callers_are : p.callers ≡ callers
  pub all : HasAll p
  pub free : p.keeps ≡ false
  pub shape : p.shape ≡ s
  pub front : p.front ≡ []

-- a cell can be created with these numbers
abbrev pub IsCellSize : Shape → ℕ → Type 0
IsCellSize s callers = IsNodeShape s × (0 < callers) × (callers ≤ max_node_callers)

-- `at` divides the callers of the pass
abbrev pub Divides : ℕ → PassState → Type 0
Divides at p = (p.first < at) × (at < p.end)

-- equal marks are of one cell. The program that passes two passes must guarantee that
abbrev pub OneCell : HeldPass → HeldPass → Type 0
OneCell (Kept left) (Kept right) = left.mark ≡ right.mark → left.pass.cell ≡ right.pass.cell
OneCell (Counted left) (Counted right) = left.mark ≡ right.mark → left.pass.cell ≡ right.pass.cell
OneCell _ _ = ⊤

-- two passes are of one cell by their marks, and the callers of the second directly follow those of the first
abbrev pub Adjoin : SharedState → SharedState → Type 0
Adjoin left right = (left.mark ≡ right.mark) × (left.pass.end ≡ right.pass.first)

-- the same of what two handles hold: passes of one cell have the same kind of node
abbrev pub AdjoinHeld : HeldPass → HeldPass → Type 0
AdjoinHeld (Kept left) (Kept right) = Adjoin left right
AdjoinHeld (Counted left) (Counted right) = Adjoin left right
AdjoinHeld _ _ = ⊥

-- ---- the contents of the handles, before and after a call

-- the pass of all callers of a new cell, with this mark and no open batch
abbrev pub CellMade : Option HeldPass → Option HeldPass → Shape → ℕ → ℕ → Bool → Answer → Type 0
CellMade old new s callers mark counting answer =
    Filled old new (λ held. (is_counting held ≡ counting) × IsNewPass s callers (held_value held).pass × NoneIsOpen (held_value held) × ((held_value held).mark ≡ mark)) (IsCellSize s callers) answer

-- the callers below `at` stay, and those from `at` on are another pass's, each with its open batch
abbrev pub Parts : ℕ → SharedState → SharedState → SharedState → Type 0
Parts at s left right = Divides at s.pass × IsSharedPart (below s.pass at) s left × IsSharedPart (from s.pass at) s right

abbrev pub Divided : ℕ → Option HeldPass → Option HeldPass → Option HeldPass → Type 0
Divided at (Some (Kept s)) (Some (Kept left)) (Some (Kept right)) = Parts at s left right
Divided at (Some (Counted s)) (Some (Counted left)) (Some (Counted right)) = Parts at s left right
Divided at _ _ _ = ⊥

-- why a pass was not divided
abbrev pub WhyUndivided : ℕ → Option HeldPass → Option HeldPass → Fault → Type 0
WhyUndivided at pass other Empty = pass ≡ None
WhyUndivided at pass other InUse = IsSome other
WhyUndivided at pass other BadCaller = IfSome pass (λ held. Divides at (held_value held).pass → ⊥)
WhyUndivided at pass other (RefusedWith OutOfMemory) = ⊤
WhyUndivided at pass other _ = ⊥

-- a pass has the callers of two that adjoin, each with its open batch
abbrev pub Whole : SharedState → SharedState → SharedState → Type 0
Whole left right both =
    Adjoin left right
    × IsJoined left.pass right.pass both.pass
    × (both.mark ≡ left.mark)
    × SharedOpenStay left both
    × SharedOpenStay right both

-- the first handle has the callers of both
abbrev pub Joined : Option HeldPass → Option HeldPass → Option HeldPass → Type 0
Joined (Some (Kept left)) (Some (Kept right)) (Some (Kept both)) = Whole left right both
Joined (Some (Counted left)) (Some (Counted right)) (Some (Counted both)) = Whole left right both
Joined _ _ _ = ⊥

-- why two passes were not joined
abbrev pub WhyApart : Option HeldPass → Option HeldPass → Fault → Type 0
WhyApart left right Empty = (left ≡ None) ⊎ (right ≡ None)
WhyApart left right BadPass = IfSome left (λ l. IfSome right (λ r. AdjoinHeld l r → ⊥))
WhyApart left right _ = ⊥

-- the guarantee that the program gives with two passes
abbrev pub OneCellHeld : Option HeldPass → Option HeldPass → Type 0
OneCellHeld left right = IfSome left (λ l. IfSome right (OneCell l))

-- the cell's node, with the history that the pass of all callers knows; none of them had an open batch
abbrev pub Dismantled : SharedState → EngineState → Type 0
Dismantled s e = HasAll s.pass × NoneIsOpen s × (e.node.shape ≡ s.pass.shape) × (e.node.journal ≡ s.pass.front) × NoneOpen e

abbrev pub Finished : Option HeldPass → Option HeldEngine → Type 0
Finished (Some (Kept s)) (Some (Kept e)) = Dismantled s e
Finished (Some (Counted s)) (Some (Counted e)) = Dismantled s e
Finished _ _ = ⊥

-- why a cell was not dismantled
abbrev pub WhyUnfinished : Option HeldPass → Option HeldEngine → Fault → Type 0
WhyUnfinished pass into Empty = pass ≡ None
WhyUnfinished pass into InUse = IsSome into
WhyUnfinished pass into BatchOpen = IfSome pass (λ held. HasOpen (held_value held))
WhyUnfinished pass into (RefusedWith OutOfMemory) = ⊤
WhyUnfinished pass into BadPass = ⊤
WhyUnfinished pass into _ = ⊥
