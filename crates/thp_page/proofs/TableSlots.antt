-- Slots of a table before and after its calls, for the proofs of callers.
use Rattle.std.proofs.Common.{◌≡◌, ◌<◌, ℕ, List, length, get_or, Option, Some, None, ap, get_or-set_same, inl, inr}
use Rattle.std.proofs.lemmas.Bool.{cases_lt}
use Rattle.std.proofs.lemmas.List.{get_or_past}
use Rattle.thp_page.specs.Prelude.{Slot, Table, SameSlots, slot_at, with_slot}

-- the block that was written has what was written
pub slot_at-with_slot-same : (t : Table) (b : ℕ) (o : Option Slot) → b < length t.slots → slot_at (with_slot t b o) b ≡ o
slot_at-with_slot-same t b o inside = get_or-set_same t.slots b o None inside

-- calls that change pairs alone keep the slots
pub slot_at-same : (t u : Table) (b : ℕ) → SameSlots t u → slot_at u b ≡ slot_at t b
slot_at-same t u b same = ap (λ (os : List (Option Slot)). get_or os b None) same.slots

-- a taken block is one of the table's
pub slot_at-inside : (t : Table) (b : ℕ) (x : Slot) → slot_at t b ≡ Some x → b < length t.slots
slot_at-inside t b x is = elim (cases_lt b (length t.slots)) [
  | inl inside ↦ inside
  | inr past ↦ (let none : slot_at t b ≡ None = get_or_past t.slots b None past in absurd (cc (is, none)))
]
