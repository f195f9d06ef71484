-- Laws of every legal history on underused pages: while the switch is off there are none.
use Rattle.std.specs.Prelude.{◌≡◌, ℕ, Bool, true, false, Some, slice_get}
use Rattle.thp_history.specs.declared.events.Event.{Event}
use Rattle.thp_history.specs.declared.events.What.{What}
use Rattle.thp_history.specs.declared.events.What.TheVariants.{Used}
use Rattle.thp_history.specs.declared.shape.Shape.{Shape}
use Rattle.thp_history.specs.History.{History}
use Rattle.thp_history.specs.Places.{stands}
use Rattle.thp_history.specs.Counters.{thp_underused_split_page}
use Rattle.thp_history.specs.Legal.{IsLegal}
use Rattle.thp_history.specs.Underused.{shrinks_underused, is_partly_mapped}

-- each page of the queue and of the flights is partly mapped
abbrev pub StandingPagesArePartlyMapped : Type 0
StandingPagesArePartlyMapped =
    (s : Shape) (h : History) → shrinks_underused s ≡ false → IsLegal s h → (p : ℕ) → stands s h p ≡ true → is_partly_mapped s h p ≡ true

-- the event found its page in use
abbrev pub finds_used : What → Bool
finds_used (Used p) = true
finds_used _ = false

-- no page is found in use
abbrev pub NoPageIsFoundUsed : Type 0
NoPageIsFoundUsed =
    (s : Shape) (h : History) → shrinks_underused s ≡ false → IsLegal s h → (k : ℕ) (e : Event) → slice_get h k ≡ Some e → finds_used e.what ≡ false

-- no page is split as underused
abbrev pub NoPageIsSplitAsUnderused : Type 0
NoPageIsSplitAsUnderused = (s : Shape) (h : History) → shrinks_underused s ≡ false → IsLegal s h → thp_underused_split_page s h ≡ 0
