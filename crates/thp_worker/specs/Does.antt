-- The effect of one step of a caller on its node and on its open batch there, and the result.
use Rattle.std.specs.Prelude.{◌≡◌, ℕ, ◌≤◌, ⊤, Bool, List, [], ◌∷◌, Option, Some, None, Result, Ok, Err, length, take}
use Rattle.thp_history.specs.Prelude.{max_batch, allocations, History, by, queue, refusal, take_events, split_next_events, put_back_events, next_page, rest_after, still_flying, gain_what, loss_what, page_call}
use Rattle.thp_history.specs.declared.events.Event.{Event}
use Rattle.thp_history.specs.declared.events.Outcome.{Outcome}
use Rattle.thp_history.specs.declared.events.What.{What}
use Rattle.thp_history.specs.declared.events.What.TheVariants as what
use Rattle.thp_history.specs.declared.refusal.Refusal.{Refusal}
use Rattle.thp_history.specs.declared.refusal.Refusal.TheVariants.{HasBatch}
use Rattle.thp_history.specs.declared.shape.Shape.{Shape}
use Rattle.thp_history.specs.Refusals as call
use Rattle.thp_history.specs.declared.page_call.Done.{Done}
use Rattle.thp_history.specs.declared.page_call.PageCall.{PageCall}
use Rattle.thp_history.specs.declared.page_call.PageCall.TheVariants as either
use Rattle.thp_node.specs.Prelude.{BatchState, rest, tried, back_reply}
use Rattle.thp_script.specs.Prelude.{page_call_of}
use Rattle.thp_script.specs.declared.script.Op.{Op}
use Rattle.thp_script.specs.declared.script.Op.TheVariants as op
use Rattle.thp_worker.specs.declared.steps.NodeCall.{NodeCall}
use Rattle.thp_worker.specs.declared.steps.NodeCall.TheVariants as node
use Rattle.thp_worker.specs.declared.steps.Step.{Step}
use Rattle.thp_worker.specs.declared.steps.Step.TheVariants.{One, Take, SplitNext, PutBack}
use Rattle.thp_worker.specs.declared.reply.Reply.{Reply}
use Rattle.thp_worker.specs.declared.reply.Reply.TheVariants as reply

-- the result of a step or a command: its reply, or why it was refused
abbrev pub Reaction : Type 0
Reaction = Result Reply Refusal

-- the result of a call that leaves its reply in a place, which is this reply
abbrev pub answer_of : {E : Type 0} → Result (Unit {0}) E → Reply → Result Reply E
answer_of (Ok x) reply = Ok reply
answer_of (Err why) reply = Err why

-- an open batch: the pages taken, and those of them not yet tried
pub record Open : Type 0 where
  pub pages : List ℕ
  pub left : List ℕ

abbrev pub open_of : BatchState → Open
open_of b = record { pages = b.pages; left = rest b }

-- the call about a page, if there is one, else a count
abbrev pub page_call_or_count : Option (ℕ × PageCall) → NodeCall
page_call_or_count (Some call) = node.Page call.0 call.1
page_call_or_count None = node.Count

-- the call of a node that a command makes which needs no batch
abbrev pub node_call_of : Op → NodeCall
node_call_of op.Alloc = node.Alloc
node_call_of op.Close = node.Close
node_call_of o = page_call_or_count (page_call_of o)

-- the refusal of a step of caller c at h: a try, a put back and a count are never refused
abbrev pub refusal_of_call : Shape → History → NodeCall → Option Refusal
refusal_of_call s h node.Alloc = refusal s h call.alloc_page
refusal_of_call s h (node.Page p c) = refusal s h (page_call c p)
refusal_of_call s h node.Close = refusal s h call.close
refusal_of_call s h node.Count = None

abbrev pub step_refusal : Shape → History → ℕ → Step → Option Refusal
step_refusal s h c (One o) = refusal_of_call s h (node_call_of o)
step_refusal s h c (Take n) = refusal s h (call.take c)
step_refusal s h c _ = None

-- the only event is this one of caller c, and there is no reply
abbrev pub DoesOne : ℕ → What → List Event → Reaction → Type 0
DoesOne c w own answer = (own ≡ by c w ∷ []) × (answer ≡ Ok reply.Unit)

-- the only event is this one of caller c, with the outcome and the frames given back, which are the reply
abbrev pub DoesLoss : ℕ → (Outcome → List Bool → What) → List Event → Reaction → Type 0
DoesLoss c w own answer = (d : Done) × (own ≡ by c (w d.outcome d.released) ∷ []) × (answer ≡ Ok (reply.Done d))

-- caller c made this call of page p
abbrev pub DoesPageCall : ℕ → ℕ → PageCall → List Event → Reaction → Type 0
DoesPageCall c p (either.Gain g) own answer = DoesOne c (gain_what g p) own answer
DoesPageCall c p (either.Loss l) own answer = DoesLoss c (loss_what l p) own answer

-- the events and the reply of a call that is not refused; a new page's block may be chosen
abbrev pub DoesCall : Shape → History → ℕ → NodeCall → List Event → Reaction → Type 0
DoesCall s h c node.Alloc own answer = (block : ℕ) × (own ≡ by c (what.Alloc (allocations h) block) ∷ []) × (answer ≡ Ok (reply.Page (allocations h)))
DoesCall s h c (node.Page p k) own answer = DoesPageCall c p k own answer
DoesCall s h c node.Close own answer = DoesOne c what.Close own answer
DoesCall s h c node.Count own answer = (own ≡ []) × (answer ≡ Ok (reply.Count (length (queue s h))))

-- no event, and this is the result
abbrev pub Nothing : Option Open → List Event → Reaction → Option Open → Reaction → Type 0
Nothing batch own answer after said = (own ≡ []) × (answer ≡ said) × (after ≡ batch)

-- if there is no refusal; otherwise the result is the refusal
abbrev pub Unless : Option Refusal → (own : List Event) → Reaction → Option Open → Option Open → Type 0 → Type 0
Unless (Some why) own answer batch after P = Nothing batch own answer after (Err why)
Unless None own answer batch after P = P

-- A step of caller c at h, with this open batch on the node: its own events, its result, and the open batch after it. A caller
-- has at most one open batch: the runner refuses a take while one is open, and replies `NoBatch` to a try or a put back without
-- one.
unfoldable pub Does : Shape → History → ℕ → Option Open → Step → List Event → Reaction → Option Open → Type 0
Does s h c batch (One o) own answer after = Unless (refusal_of_call s h (node_call_of o)) own answer batch after (DoesCall s h c (node_call_of o) own answer × (after ≡ batch))
Does s h c (Some b) (Take n) own answer after = Nothing (Some b) own answer after (Err HasBatch)
Does s h c None (Take n) own answer after =
    Unless (refusal s h (call.take c)) own answer None after
    ((own ≡ take_events s h c n) × (answer ≡ Ok (reply.Taken (length (take n (queue s h))))) × (after ≡ Some (record { pages = take n (queue s h); left = take n (queue s h) })))
Does s h c None SplitNext own answer after = Nothing None own answer after (Ok reply.NoBatch)
Does s h c (Some b) SplitNext own answer after =
    (own ≡ split_next_events s h c b.left) × (answer ≡ Ok (reply.Tried (tried s h (next_page h c b.left)))) × (after ≡ Some (record { pages = b.pages; left = rest_after h c b.left }))
Does s h c None PutBack own answer after = Nothing None own answer after (Ok reply.NoBatch)
Does s h c (Some b) PutBack own answer after =
    (own ≡ put_back_events s h c b.pages) × (answer ≡ Ok (reply.Back (back_reply s h (still_flying h c b.pages)))) × (after ≡ None)

-- the number of events that a call records
abbrev pub call_events : NodeCall → ℕ
call_events node.Count = 0
call_events k = 1

-- the number of events that caller c's step would record at h, with this open batch, if it is not refused
abbrev pub step_events : Shape → History → ℕ → Option Open → Step → ℕ
step_events s h c batch (One o) = call_events (node_call_of o)
step_events s h c None (Take n) = length (take_events s h c n)
step_events s h c (Some b) SplitNext = length (split_next_events s h c b.left)
step_events s h c (Some b) PutBack = length (put_back_events s h c b.pages)
step_events s h c batch step = 0

-- a possible step: a command that needs no batch, a take of at most as many pages as a batch holds, a try, or a put back
abbrev pub IsStep : Step → Type 0
IsStep (One (op.Scan n)) = ⊥
IsStep (One (op.Take n)) = ⊥
IsStep (One op.SplitNext) = ⊥
IsStep (One op.PutBack) = ⊥
IsStep (Take n) = n ≤ max_batch
IsStep _ = ⊤

-- a possible command
abbrev pub IsFit : Op → Type 0
IsFit (op.Scan n) = n ≤ max_batch
IsFit (op.Take n) = n ≤ max_batch
IsFit _ = ⊤
