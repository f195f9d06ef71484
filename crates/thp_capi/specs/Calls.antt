-- The effect of the calls on the engine of a node's handle, and their results.
use Rattle.std.specs.Prelude.{◌≡◌, ℕ, ◌≤◌, ◌<◌, ◌*◌, List, Bool, [], ◌∷◌, length, take, drop, ◌++◌, Option, None, Some, IfSome, IsSome, Result, Ok, Err, OnOk, IfOk, IfErr}
use Rattle.thp_history.specs.declared.events.Outcome.{Outcome}
use Rattle.thp_history.specs.declared.events.What.{What}
use Rattle.thp_history.specs.declared.refusal.Refusal.{Refusal}
use Rattle.thp_history.specs.declared.refusal.Refusal.TheVariants.{OutOfMemory}
use Rattle.thp_history.specs.Prelude.{allocations, outcome, released, by, max_batch, max_callers, queue, Call, refusal, alloc_page, scan, take as take_call, take_events, split_next_events, put_back_events, scan_events, next_page, rest_after, still_flying}
use Rattle.thp_node.specs.Prelude.{BatchState, rest, tried, back_reply, scan_reply, Did, DidAlloc, Refused, NodeState}
use Rattle.thp_capi.specs.Codes.{Answer}
use Rattle.thp_capi.specs.Engines.{EngineState, OthersOpen, engine_open_of}
use Rattle.thp_capi.specs.Replies.{HasTried, MasksSet, outcome_number}
use Rattle.thp_capi.specs.declared.codes.Fault.{Fault}
use Rattle.thp_capi.specs.declared.codes.Fault.TheVariants.{Refused as RefusedWith, BadCaller, BadCount, BatchOpen, NoBatch, TooSmall}
use Rattle.thp_node.specs.declared.answers.BackReply.{BackReply}
use Rattle.thp_capi.specs.declared.replies.ThpDone.{ThpDone}
use Rattle.thp_node.specs.declared.answers.ScanReply.{ScanReply}
use Rattle.thp_capi.specs.declared.replies.ThpTried.{ThpTried}

-- ---- why calls fail, and that they change nothing then

-- a call of a caller that returns this fault changed nothing: the number is not a caller's, or the node refused the call
abbrev pub Fails : ℕ → Option Refusal → ℕ → EngineState → EngineState → Fault → Type 0
Fails caller why m old new BadCaller = (max_callers ≤ caller) × (new ≡ old)
Fails caller why m old new (RefusedWith r) = (new ≡ old) × Refused old.node new.node why m r
Fails caller why m old new _ = ⊥

-- the same for a call that requests n pages
abbrev pub FailsAsking : ℕ → ℕ → Option Refusal → ℕ → EngineState → EngineState → Fault → Type 0
FailsAsking n caller why m old new BadCount = (max_batch < n) × (new ≡ old)
FailsAsking n caller why m old new f = Fails caller why m old new f

-- the same for a take
abbrev pub FailsTaking : ℕ → ℕ → Option Refusal → ℕ → EngineState → EngineState → Fault → Type 0
FailsTaking n caller why m old new BatchOpen = IsSome (engine_open_of old caller) × (new ≡ old)
FailsTaking n caller why m old new f = FailsAsking n caller why m old new f

-- the same for a call on the caller's open batch, which records the number of events that m gives
abbrev pub FailsOnBatch : ℕ → (BatchState → ℕ) → EngineState → EngineState → Fault → Type 0
FailsOnBatch caller m old new NoBatch = (engine_open_of old caller ≡ None) × (new ≡ old)
FailsOnBatch caller m old new (RefusedWith r) = (new ≡ old) × IsSome (engine_open_of old caller) × IfSome (engine_open_of old caller) (λ b. Refused old.node new.node None (m b) r)
FailsOnBatch caller m old new _ = ⊥

-- ---- calls about pages

-- a call that records one event
abbrev pub OneCall : ℕ → Call → What → EngineState → EngineState → Answer → Type 0
OneCall caller call what old new answer =
    (new.batches ≡ old.batches)
    × OnOk answer ((refusal old.node.shape old.node.journal call ≡ None) × Did old.node new.node caller (by caller what ∷ []))
    × IfErr answer (Fails caller (refusal old.node.shape old.node.journal call) 1 old new)

-- an allocation, which returns the page's number
abbrev pub AllocCall : ℕ → EngineState → EngineState → Result ℕ Fault → Type 0
AllocCall caller old new answer =
    (new.batches ≡ old.batches)
    × OnOk answer (refusal old.node.shape old.node.journal alloc_page ≡ None)
    × IfOk answer (λ p. p ≡ allocations old.node.journal)
    × IfOk answer (DidAlloc old.node new.node caller)
    × IfErr answer (Fails caller (refusal old.node.shape old.node.journal alloc_page) 1 old new)

-- a call that removes a mapping or a pin of page p: the event contains the outcome and the frames given back, as defined, and so
-- do the numbers
abbrev pub LoseCall : ℕ → Call → ℕ → (Outcome → List Bool → What) → EngineState → EngineState → Result ThpDone Fault → Type 0
LoseCall caller call p what old new answer =
    let s = old.node.shape in let h = old.node.journal in let k = new.node.journal in
    (new.batches ≡ old.batches)
    × OnOk answer (refusal s h call ≡ None)
    × OnOk answer (Did old.node new.node caller (by caller (what (outcome s h k p) (released s h k p)) ∷ []))
    × IfOk answer (λ d. d.outcome ≡ outcome_number (outcome s h k p))
    × IfOk answer (λ d. MasksSet d.released (released s h k p))
    × IfErr answer (Fails caller (refusal s h call) 1 old new)

-- ---- the shrinker

abbrev pub ScanCall : ℕ → ℕ → EngineState → EngineState → Result ScanReply Fault → Type 0
ScanCall caller n old new answer =
    let s = old.node.shape in let h = old.node.journal in
    (new.batches ≡ old.batches)
    × OnOk answer ((refusal s h (scan caller) ≡ None) × Did old.node new.node caller (scan_events s h caller n))
    × IfOk answer (λ r. r ≡ scan_reply (scan_events s h caller n))
    × IfErr answer (FailsAsking n caller (refusal s h (scan caller)) (3 * length (take_events s h caller n)) old new)

-- a take, which returns the number of pages in the caller's batch, which is open afterwards
abbrev pub TakeCall : ℕ → ℕ → EngineState → EngineState → Result ℕ Fault → Type 0
TakeCall caller n old new answer =
    let s = old.node.shape in let h = old.node.journal in let ps = take n (queue s h) in
    OnOk answer ((refusal s h (take_call caller) ≡ None) × Did old.node new.node caller (take_events s h caller n))
    × OnOk answer (engine_open_of old caller ≡ None)
    × OnOk answer (engine_open_of new caller ≡ Some (record { caller = caller; pages = ps; place = 0 }))
    × OthersOpen caller old new
    × IfOk answer (λ k. k ≡ length ps)
    × IfErr answer (FailsTaking n caller (refusal s h (take_call caller)) (length (take_events s h caller n)) old new)

-- the open batch b became c: the same pages, after a try of the next one
abbrev pub Advanced : NodeState → BatchState → BatchState → Type 0
Advanced node b c = (c.caller ≡ b.caller) × (c.pages ≡ b.pages) × (rest c ≡ rest_after node.journal b.caller (rest b))

-- the relation of a call on the open batch to the batch before and after it
abbrev pub Batched : Option BatchState → Option BatchState → (BatchState → BatchState → Type 0) → Type 0
Batched (Some b) (Some c) P = P b c
Batched _ _ P = ⊥

-- a try of the next page of the caller's open batch
abbrev pub NextCall : ℕ → EngineState → EngineState → Result ThpTried Fault → Type 0
NextCall caller old new answer =
    let s = old.node.shape in let h = old.node.journal in
    IfOk answer (λ t. Batched (engine_open_of old caller) (engine_open_of new caller) (λ b c. Advanced old.node b c × HasTried t (tried s h (next_page h caller (rest b))) × Did old.node new.node caller (split_next_events s h caller (rest b))))
    × OthersOpen caller old new
    × IfErr answer (FailsOnBatch caller (λ b. length (split_next_events s h caller (rest b))) old new)

abbrev pub BackReplies : ℕ → EngineState → BackReply → Type 0
BackReplies caller old r = IfSome (engine_open_of old caller) (λ b. r ≡ back_reply old.node.shape old.node.journal (still_flying old.node.journal caller b.pages))

abbrev pub BackRecords : ℕ → EngineState → EngineState → Type 0
BackRecords caller old new = IfSome (engine_open_of old caller) (λ b. Did old.node new.node caller (put_back_events old.node.shape old.node.journal caller b.pages))

abbrev pub BackFails : ℕ → EngineState → EngineState → Fault → Type 0
BackFails caller old new f = FailsOnBatch caller (λ b. length (put_back_events old.node.shape old.node.journal caller b.pages)) old new f

-- the return of the pages of the caller's open batch, which is closed afterwards
abbrev pub BackCall : ℕ → EngineState → EngineState → Result BackReply Fault → Type 0
BackCall caller old new answer =
    OnOk answer (IsSome (engine_open_of old caller))
    × OnOk answer (engine_open_of new caller ≡ None)
    × OthersOpen caller old new
    × IfOk answer (BackReplies caller old)
    × OnOk answer (BackRecords caller old new)
    × IfErr answer (BackFails caller old new)

-- the caller's open batch is closed, and its pages don't change
abbrev pub AbandonCall : ℕ → EngineState → EngineState → Answer → Type 0
AbandonCall caller old new answer =
    (new.node ≡ old.node)
    × OnOk answer (IsSome (engine_open_of old caller))
    × OnOk answer (engine_open_of new caller ≡ None)
    × OthersOpen caller old new
    × IfErr answer (λ f. (f ≡ NoBatch) × (engine_open_of old caller ≡ None) × (new ≡ old))

-- ---- the node's memory, and its journal as text

-- there is room for k events; or memory for it could not be allocated, and nothing changed
abbrev pub ReserveCall : ℕ → EngineState → EngineState → Answer → Type 0
ReserveCall k old new answer =
    (new.batches ≡ old.batches)
    × (new.node ≡ record old.node { room = new.node.room })
    × OnOk answer (k ≤ new.node.room)
    × (old.node.room ≤ new.node.room)
    × IfErr answer (λ f. (f ≡ RefusedWith OutOfMemory) × (old.node.room < k) × (new ≡ old))

-- the text is at the start of the buffer, or does not fit; the size is that of the text. Or memory for it could not be allocated
abbrev pub Written : List ℕ → List ℕ → List ℕ → ℕ → ℕ → Answer → Type 0
Written text old new before size (Ok u) = (size ≡ length text) × (new ≡ text ++ drop (length text) old)
Written text old new before size (Err TooSmall) = (size ≡ length text) × (new ≡ old) × (length old < length text)
Written text old new before size (Err (RefusedWith OutOfMemory)) = (size ≡ before) × (new ≡ old)
Written text old new before size (Err _) = ⊥
