-- Laws of every legal history about requests and results: the requests determine the results, except for the blocks.
use Rattle.std.specs.Prelude.{◌≡◌, ℕ, [], ◌∷◌, ◌++◌, map}
use Rattle.thp_history.specs.declared.events.Event.{Event}
use Rattle.thp_history.specs.declared.events.Outcome.TheVariants.{Stays}
use Rattle.thp_history.specs.declared.events.What.{What}
use Rattle.thp_history.specs.declared.events.What.TheVariants.{Alloc, UnmapWhole, UnmapSub, Unpin, Taken, Split, Pinned, Used, Back, Dropped}
use Rattle.thp_history.specs.declared.shape.Shape.{Shape}
use Rattle.thp_history.specs.History.{History, by}
use Rattle.thp_history.specs.Legal.{IsLegal, FitsBy}
use Rattle.thp_history.specs.BlockLaws.{SameButBlocks, with_block}

-- the request of an event, without its result: an allocation, a take and a return choose no page, and a try contains its page
-- only
abbrev pub asked : What → What
asked (Alloc p block) = Alloc 0 0
asked (UnmapWhole outcome p released) = UnmapWhole Stays p []
asked (UnmapSub outcome p first count released) = UnmapSub Stays p first count []
asked (Unpin outcome p released) = Unpin Stays p []
asked (Taken p) = Taken 0
asked (Split p released) = Pinned p
asked (Used p) = Pinned p
asked (Back p) = Back 0
asked (Dropped p) = Back 0
asked w = w

-- the same request, at histories that are equal except for their blocks, has one result except for its block
abbrev pub AnswersAreOne : Type 0
AnswersAreOne =
    (s : Shape) (h k : History) (c : ℕ) (v w : What) → SameButBlocks h k → asked v ≡ asked w →
    FitsBy s h (h ++ by c v ∷ []) c v → FitsBy s k (k ++ by c w ∷ []) c w → with_block 0 v ≡ with_block 0 w

-- the requests with their callers, in order
unfoldable pub requests : History → History
requests h = map (λ (e : Event). by e.caller (asked e.what)) h

-- legal histories of the same requests are equal except for their blocks
abbrev pub RequestsDecide : Type 0
RequestsDecide = (s : Shape) (h k : History) → IsLegal s h → IsLegal s k → requests h ≡ requests k → SameButBlocks h k
