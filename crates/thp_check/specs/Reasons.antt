-- Why an event does not fit a history: the first reason that holds, in the order of `Fits`.
use Rattle.std.specs.Prelude.{◌≡◌, ◌≢◌, ℕ, ◌<◌, Bool, true, false, ◌||◌, List, Option, Some, slice_get}
use Rattle.thp_history.specs.declared.events.Event.{Event}
use Rattle.thp_history.specs.declared.events.Outcome.{Outcome}
use Rattle.thp_history.specs.declared.events.What.{What}
use Rattle.thp_history.specs.declared.events.What.TheVariants.{Alloc, UnmapWhole, UnmapSub, Unpin, Taken, Split, Pinned, Used, Back, Dropped}
use Rattle.thp_history.specs.declared.refusal.Refusal.TheVariants as reason
use Rattle.thp_history.specs.declared.shape.Shape.{Shape}
use Rattle.thp_history.specs.Prelude.{allocations, is_closed, pins, block_in_use, History, by, Fits, is_dropped, flight, has_page, is_taking, no_pages, queue, refusal_of, is_worth_split}
use Rattle.thp_check.specs.declared.misfit.Misfit.{Misfit}
use Rattle.thp_check.specs.declared.misfit.Misfit.TheVariants as misfit

-- the same unmap or unpin with this outcome and these frames
abbrev pub with_outcome : Outcome → List Bool → What → What
with_outcome o set (UnmapWhole reported p given) = UnmapWhole o p set
with_outcome o set (UnmapSub reported p first count given) = UnmapSub o p first count set
with_outcome o set (Unpin reported p given) = Unpin o p set
with_outcome o set w = w

-- the same split with these frames
abbrev pub with_frames : List Bool → What → What
with_frames set (Split p given) = Split p set
with_frames set w = w

-- page p is in the flight of caller c, and is worth a split or not
abbrev pub IsTried : Shape → History → ℕ → ℕ → Bool → Type 0
IsTried s h c p worth = (has_page p (flight h c) ≡ true) × (is_worth_split s h p ≡ worth)

-- the required page is this one, or none, and the event has page p
abbrev pub IsAnother : Option ℕ → Option ℕ → ℕ → Type 0
IsAnother wanted this p = (this ≡ wanted) × (this ≢ Some p)

-- why the event of c does not fit the history h
abbrev pub ExplainsBy : Shape → History → ℕ → What → Misfit → Type 0
ExplainsBy s h c (Alloc p b) (misfit.Refused r) = (is_closed h ≡ true) × (r ≡ reason.Closed)
ExplainsBy s h c w (misfit.Refused r) = refusal_of s h w ≡ Some r
ExplainsBy s h c (Alloc p b) (misfit.Number n) = (is_closed h ≡ false) × IsAnother (Some (allocations h)) (Some n) p
ExplainsBy s h c (Alloc p b) misfit.BlockTaken = (is_closed h ≡ false) × (p ≡ allocations h) × (b < s.blocks → block_in_use h b ≡ true)
ExplainsBy s h c w (misfit.Outcome o set) = Fits s h (by c (with_outcome o set w)) × (with_outcome o set w ≢ w)
ExplainsBy s h c (Taken p) (misfit.Oldest o) = IsAnother (slice_get (queue s h) 0) o p
ExplainsBy s h c (Taken p) misfit.HasBatch = (slice_get (queue s h) 0 ≡ Some p) × ((no_pages (flight h c) || is_taking h c) ≡ false)
ExplainsBy s h c (Split p set) misfit.NotInFlight = has_page p (flight h c) ≡ false
ExplainsBy s h c (Pinned p) misfit.NotInFlight = has_page p (flight h c) ≡ false
ExplainsBy s h c (Used p) misfit.NotInFlight = has_page p (flight h c) ≡ false
ExplainsBy s h c (Split p set) misfit.InUse = IsTried s h c p false
ExplainsBy s h c (Split p set) misfit.HasPins = IsTried s h c p true × (pins h p ≢ 0)
ExplainsBy s h c w (misfit.Released set) = Fits s h (by c (with_frames set w)) × (with_frames set w ≢ w)
ExplainsBy s h c (Pinned p) misfit.NoPins = (has_page p (flight h c) ≡ true) × (pins h p ≡ 0)
ExplainsBy s h c (Pinned p) misfit.InUse = IsTried s h c p false × (pins h p ≢ 0)
ExplainsBy s h c (Used p) misfit.WorthSplit = IsTried s h c p true
ExplainsBy s h c (Back p) (misfit.First o) = IsAnother (slice_get (flight h c) 0) o p
ExplainsBy s h c (Back p) misfit.MustDrop = (slice_get (flight h c) 0 ≡ Some p) × (is_dropped s h p ≡ true)
ExplainsBy s h c (Dropped p) (misfit.First o) = IsAnother (slice_get (flight h c) 0) o p
ExplainsBy s h c (Dropped p) misfit.MustRequeue = (slice_get (flight h c) 0 ≡ Some p) × (is_dropped s h p ≡ false)
ExplainsBy s h c w m = ⊥

-- why the event does not fit the history
abbrev pub Explains : Shape → History → Event → Misfit → Type 0
Explains s h e m = ExplainsBy s h e.caller e.what m
