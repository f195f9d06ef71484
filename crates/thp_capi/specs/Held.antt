-- What the handle of a node or of a pass holds, and the effect of the calls on it.
use Rattle.std.specs.Prelude.{◌≡◌, ◌⊎◌, Bool, true, false, [], Option, None, Some, Result, Ok, Err, OnErr}
use Rattle.thp_history.specs.declared.refusal.Refusal.TheVariants.{OutOfMemory}
use Rattle.thp_history.specs.declared.shape.Shape.{Shape}
use Rattle.thp_history.specs.Prelude.{IsNodeShape}
use Rattle.thp_capi.specs.Codes.{Answer, answer_with}
use Rattle.thp_capi.specs.Engines.{EngineState, NoneOpen}
use Rattle.thp_capi.specs.Sharing.{SharedState}
use Rattle.thp_capi.specs.declared.codes.Fault.{Fault}
use Rattle.thp_capi.specs.declared.codes.Fault.TheVariants.{Refused, BadSize, Empty, InUse}
use Rattle.thp_capi.specs.declared.held.Held.{Held}
use Rattle.thp_capi.specs.declared.held.Held.TheVariants.{Kept, Counted}

-- what the handle of a node holds, and that of a pass
abbrev pub HeldEngine : Type 0
HeldEngine = Held EngineState EngineState

abbrev pub HeldPass : Type 0
HeldPass = Held SharedState SharedState

-- the engine or the pass, whatever becomes of its node's events
abbrev pub held_value : {X : Type 0} → Held X X → X
held_value (Kept x) = x
held_value (Counted x) = x

-- whether its node only counts its events
abbrev pub is_counting : {X : Type 0} → Held X X → Bool
is_counting (Kept x) = false
is_counting (Counted x) = true

-- a query that only a node answers which stores its events: P is what it does there, and Q what it does elsewhere
abbrev pub DoesIfKept : {X : Type 0} → Option (Held X X) → Option (Held X X) → (X → X → Answer → Type 0) → (X → X → Answer → Type 0) → Answer → Type 0
DoesIfKept None None P Q answer = answer ≡ Err Empty
DoesIfKept (Some (Kept old)) (Some (Kept new)) P Q answer = P old new answer
DoesIfKept (Some (Counted old)) (Some (Counted new)) P Q answer = Q old new answer
DoesIfKept _ _ P Q answer = ⊥

-- a call on a handle that is not empty has the effect P, and what becomes of the node's events stays; on an empty handle it reports
-- that
abbrev pub DoesOnHandle : {X : Type 0} → Option (Held X X) → Option (Held X X) → (X → X → Answer → Type 0) → Answer → Type 0
DoesOnHandle old new P answer = DoesIfKept old new P P answer

-- the same for a call that returns a value, which is stored in place of `before`; an error stores nothing
abbrev pub Returns : {X A : Type 0} → Option (Held X X) → Option (Held X X) → A → A → (X → X → Result A Fault → Type 0) → Answer → Type 0
Returns old new before after P answer = DoesOnHandle old new (λ old new answer. P old new (answer_with answer after)) answer × OnErr answer (after ≡ before)

-- a handle was filled with a value of which P holds; or the reason why it stays empty; or it was not empty
abbrev pub Filled : {X : Type 0} → Option X → Option X → (X → Type 0) → Type 0 → Answer → Type 0
Filled None (Some new) P IsSize answer = (answer ≡ Ok tt) × P new × IsSize
Filled None None P IsSize answer = ((answer ≡ Err BadSize) × (IsSize → ⊥)) ⊎ (answer ≡ Err (Refused OutOfMemory))
Filled (Some old) (Some new) P IsSize answer = (new ≡ old) × (answer ≡ Err InUse)
Filled (Some old) None P IsSize answer = ⊥

-- a node of this shape was created, with no page and no batch
abbrev pub MadeNode : Option HeldEngine → Option HeldEngine → Shape → Bool → Answer → Type 0
MadeNode old new s counting answer =
    Filled old new (λ held. (is_counting held ≡ counting) × ((held_value held).node.shape ≡ s) × ((held_value held).node.journal ≡ []) × NoneOpen (held_value held)) (IsNodeShape s) answer

-- the handle is empty, whatever it had before
abbrev pub Emptied : {X : Type 0} → Option X → Option X → Answer → Type 0
Emptied None None answer = answer ≡ Err Empty
Emptied (Some old) None answer = answer ≡ Ok tt
Emptied _ (Some new) answer = ⊥
