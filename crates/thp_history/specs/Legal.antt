-- Which events fit a history, and which histories are legal.
use Rattle.std.specs.Prelude.{◌≡◌, ℕ, Bool, true, false, not, ◌||◌, ◌<◌, List, [], ◌∷◌, ◌++◌, Some, None, slice_get, take}
use Rattle.thp_history.specs.declared.events.Event.{Event}
use Rattle.thp_history.specs.declared.events.Outcome.{Outcome}
use Rattle.thp_history.specs.declared.events.What.{What}
use Rattle.thp_history.specs.declared.events.What.TheVariants.{Alloc, MapWhole, UnmapWhole, MapSub, UnmapSub, SplitPmd, Pin, Unpin, Write, Zero, Taken, Split, Pinned, Used, Back, Dropped, Close}
use Rattle.thp_history.specs.declared.shape.Shape.{Shape}
use Rattle.thp_history.specs.History.{History}
use Rattle.thp_history.specs.Counts.{pins, is_closed, allocations}
use Rattle.thp_history.specs.Places.{queue, flight, has_page, no_pages, is_taking}
use Rattle.thp_history.specs.Frames.{released, outcome, block_in_use}
use Rattle.thp_history.specs.Refusals.{refusal, refusal_of}
use Rattle.thp_history.specs.Underused.{is_partly_mapped, is_worth_split}
use Rattle.thp_history.specs.Refusals as call

-- an event of page p at h contains its outcome and the set of frames that it gives back; k is h with the event
pub record Gives (s : Shape) (h k : History) (p : ℕ) (o : Outcome) (set : List Bool) : Type 0 where
  pub outcome_is : o ≡ outcome s h k p
  pub set_is : set ≡ released s h k p

-- a new page has the next number, and a block that holds no live page; any such block may be chosen
pub record FitsAlloc (s : Shape) (h : History) (p b : ℕ) : Type 0 where
  pub allowed : refusal s h call.alloc_page ≡ None
  pub number : p ≡ allocations h
  pub inside : b < s.blocks
  pub free : block_in_use h b ≡ false

-- a take is of the oldest page, by a caller that has no page in flight or continues its take
pub record FitsTaken (s : Shape) (h : History) (c p : ℕ) : Type 0 where
  pub oldest : slice_get (queue s h) 0 ≡ Some p
  pub may_take : (no_pages (flight h c) || is_taking h c) ≡ true

-- a split is of a page in the caller's flight that is worth a split and has no pins
pub record FitsSplit (s : Shape) (h k : History) (c p : ℕ) (set : List Bool) : Type 0 where
  pub in_flight : has_page p (flight h c) ≡ true
  pub worth : is_worth_split s h p ≡ true
  pub unpinned : pins h p ≡ 0
  pub set_is : set ≡ released s h k p

-- a page that leaves its batch joins the queue's tail if it is partly mapped and the node is open; otherwise it is dropped
abbrev pub is_dropped : Shape → History → ℕ → Bool
is_dropped s h p = is_closed h || not (is_partly_mapped s h p)

-- the event of caller c fits the history h, and extends it to the history k: its call is not refused, and what it records is right
abbrev pub FitsBy : Shape → History → History → ℕ → What → Type 0
FitsBy s h k c (Alloc p b) = FitsAlloc s h p b
FitsBy s h k c (UnmapWhole o p set) = (refusal_of s h (UnmapWhole o p set) ≡ None) × Gives s h k p o set
FitsBy s h k c (UnmapSub o p first count set) = (refusal_of s h (UnmapSub o p first count set) ≡ None) × Gives s h k p o set
FitsBy s h k c (Unpin o p set) = (refusal_of s h (Unpin o p set) ≡ None) × Gives s h k p o set
FitsBy s h k c (Taken p) = FitsTaken s h c p
FitsBy s h k c (Split p set) = FitsSplit s h k c p set
FitsBy s h k c (Pinned p) = (has_page p (flight h c) ≡ true) × (0 < pins h p) × (is_worth_split s h p ≡ true)
FitsBy s h k c (Used p) = (has_page p (flight h c) ≡ true) × (is_worth_split s h p ≡ false)
FitsBy s h k c (Back p) = (slice_get (flight h c) 0 ≡ Some p) × (is_closed h ≡ false) × (is_partly_mapped s h p ≡ true)
FitsBy s h k c (Dropped p) = (slice_get (flight h c) 0 ≡ Some p) × (is_dropped s h p ≡ true)
FitsBy s h k c (MapWhole p) = refusal_of s h (MapWhole p) ≡ None
FitsBy s h k c (MapSub p first count) = refusal_of s h (MapSub p first count) ≡ None
FitsBy s h k c (SplitPmd p) = refusal_of s h (SplitPmd p) ≡ None
FitsBy s h k c (Pin p) = refusal_of s h (Pin p) ≡ None
FitsBy s h k c (Write p first count) = refusal_of s h (Write p first count) ≡ None
FitsBy s h k c (Zero p first count) = refusal_of s h (Zero p first count) ≡ None
FitsBy s h k c Close = refusal_of s h Close ≡ None

-- the event may follow the history
abbrev pub Fits : Shape → History → Event → Type 0
Fits s h e = FitsBy s h (h ++ e ∷ []) e.caller e.what

-- every event fits the events before it
pub record IsLegal (s : Shape) (h : History) : Type 0 where
  pub each : (k : ℕ) (e : Event) → slice_get h k ≡ Some e → Fits s (take k h) e

-- the event at k is the first that does not fit
pub record IsFirstMisfit (s : Shape) (h : History) (k : ℕ) : Type 0 where
  pub legal_before : IsLegal s (take k h)
  pub misfit : (e : Event) × (slice_get h k ≡ Some e) × (Fits s (take k h) e → ⊥)
