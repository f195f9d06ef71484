-- Laws of every legal history on the frames of pages.
use Rattle.std.specs.Prelude.{◌≡◌, ℕ, ◌+◌, ◌*◌, ◌<◌, Bool, false, cond, ◌&&◌, nat_eq, nat_lt}
use Rattle.thp_history.specs.declared.events.What.{What}
use Rattle.thp_history.specs.declared.events.What.TheVariants.{UnmapWhole, UnmapSub, Unpin, Split}
use Rattle.thp_history.specs.declared.shape.Shape.{Shape}
use Rattle.thp_history.specs.History.{History, count_of}
use Rattle.thp_history.specs.Counts.{is_live, is_split, allocations}
use Rattle.thp_history.specs.Frames.{is_held, frames_held, frames_given}
use Rattle.thp_history.specs.Legal.{IsLegal}
use Rattle.thp_history.specs.Sets.{has, some_below}
use Rattle.thp_history.specs.Shapes.{subpages, IsNodeShape}
use Rattle.thp_history.specs.Underused.{shrinks_underused}

-- the event gave back the frame of subpage i of page p
abbrev pub gives_frame : ℕ → ℕ → What → Bool
gives_frame p i (UnmapWhole outcome q released) = nat_eq p q && has released i
gives_frame p i (UnmapSub outcome q first count released) = nat_eq p q && has released i
gives_frame p i (Unpin outcome q released) = nat_eq p q && has released i
gives_frame p i (Split q released) = nat_eq p q && has released i
gives_frame p i _ = false

-- each frame of each allocated page is either held and was never given back, or not held and given back once: 1 if it is held,
-- plus the number of events that gave it back, is 1 for an allocated page, and 0 for any other
abbrev pub EachFrameOnce : Type 0
EachFrameOnce =
    (s : Shape) (h : History) → IsNodeShape s → IsLegal s h → (p i : ℕ) → i < subpages s →
    cond (is_held s h p i) 1 0 + count_of (gives_frame p i) h ≡ cond (nat_lt p (allocations h)) 1 0

-- in sum, the frames of all allocated pages are those held and those given back
abbrev pub FramesAreKept : Type 0
FramesAreKept = (s : Shape) (h : History) → IsNodeShape s → IsLegal s h → subpages s * allocations h ≡ frames_held s h + frames_given h

-- a page holds a frame exactly while it is live, with one exception: while the switch is on, a split page may have only mappings
-- of the shared zero page. While the switch is off, a block is therefore free exactly if none of its frames is held
abbrev pub LivePagesHoldFrames : Type 0
LivePagesHoldFrames =
    (s : Shape) (h : History) (p : ℕ) → IsLegal s h → (shrinks_underused s && is_split h p) ≡ false →
    some_below (subpages s) (is_held s h p) ≡ is_live h p
