-- What the calls that read a node report of its pages and its queue. They change nothing.
use Rattle.std.specs.Prelude.{◌≡◌, ℕ, ◌≤◌, ◌<◌, ◌⊎◌, true, false, List, ◌++◌, drop, length, take, Result, Ok, Err, OnOk, IfOk, IfErr}
use Rattle.std.specs.Int.{from_bool}
use Rattle.thp_history.specs.declared.refusal.Refusal.TheVariants.{NoPage, BadRange}
use Rattle.thp_history.specs.Prelude.{is_live, is_split, own, pins, whole, queue, subpages, is_partly_mapped}
use Rattle.thp_page.specs.declared.standing.Standing.{Standing}
use Rattle.thp_page.specs.declared.standing.Standing.TheVariants.{Nowhere, Queued, Batch}
use Rattle.thp_live_pages.specs.Prelude.{standing_of}
use Rattle.thp_node.specs.Prelude.{NodeState}
use Rattle.thp_capi.specs.Engines.{EngineState}
use Rattle.thp_capi.specs.declared.codes.Fault.{Fault}
use Rattle.thp_capi.specs.declared.codes.Fault.TheVariants.{Refused as RefusedWith}
use Rattle.thp_capi.specs.declared.replies.ThpPageState.{ThpPageState}

-- the number of the list that a page is on
abbrev pub list_number : Standing → ℕ
list_number Nowhere = 0
list_number Queued = 1
list_number (Batch c) = 2

-- the caller in whose flight a page is; 0 if it is in none
abbrev pub flight_caller : Standing → ℕ
flight_caller (Batch c) = c
flight_caller w = 0

-- the state of page p, as the journal determines it
abbrev pub page_state_of : NodeState → ℕ → ThpPageState
page_state_of node p =
    let s = node.shape in let h = node.journal in
    record {
      whole_mapcount = whole h p;
      pins = pins h p;
      partly_mapped = from_bool (is_partly_mapped s h p);
      split = from_bool (is_split h p);
      list = list_number (standing_of s h p);
      caller = flight_caller (standing_of s h p);
    }

-- a query of the state of page p, which must be live
abbrev pub PageCall : ℕ → EngineState → EngineState → Result ThpPageState Fault → Type 0
PageCall p old new answer =
    (new ≡ old)
    × OnOk answer (is_live old.node.journal p ≡ true)
    × IfOk answer (λ t. t ≡ page_state_of old.node p)
    × IfErr answer (λ f. (f ≡ RefusedWith NoPage) × (is_live old.node.journal p ≡ false))

-- why the own map count of subpage i of page p was not reported
abbrev pub WhyUncounted : ℕ → ℕ → NodeState → Fault → Type 0
WhyUncounted p i node (RefusedWith NoPage) = is_live node.journal p ≡ false
WhyUncounted p i node (RefusedWith BadRange) = (is_live node.journal p ≡ true) × (subpages node.shape ≤ i)
WhyUncounted p i node f = ⊥

-- a query of the own map count of subpage i of page p, which must be live
abbrev pub MapcountCall : ℕ → ℕ → EngineState → EngineState → Result ℕ Fault → Type 0
MapcountCall p i old new answer =
    (new ≡ old)
    × OnOk answer (is_live old.node.journal p ≡ true)
    × OnOk answer (i < subpages old.node.shape)
    × IfOk answer (λ n. n ≡ own old.node.journal p i)
    × IfErr answer (WhyUncounted p i old.node)

-- the buffer with as much of the list as fits, from its start on
abbrev pub filled_with : List ℕ → List ℕ → List ℕ
filled_with ps buffer = take (length buffer) ps ++ drop (length ps) buffer

-- a query of the queued pages, oldest first, and of their number n; the buffer receives those that fit
abbrev pub QueueCall : List ℕ → List ℕ → EngineState → EngineState → Result ℕ Fault → Type 0
QueueCall before after old new answer =
    let ps = queue old.node.shape old.node.journal in
    (new ≡ old) × (answer ≡ Ok (length ps)) × (after ≡ filled_with ps before)
