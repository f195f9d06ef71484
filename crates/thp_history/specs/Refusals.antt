-- The refusal of each call at a history: the first reason that holds, of the reasons that the call can have.
use Rattle.std.specs.Prelude.{ℕ, Bool, not, ◌&&◌, ◌||◌, nat_eq, nat_lt, ◌+◌, List, [], ◌∷◌, if◌then◌else◌, Option, Some, None, option_and_then}
use Rattle.thp_history.specs.declared.events.What.{What}
use Rattle.thp_history.specs.declared.events.What.TheVariants as what
use Rattle.thp_history.specs.declared.refusal.Refusal.{Refusal}
use Rattle.thp_history.specs.declared.refusal.Refusal.TheVariants as reason
use Rattle.thp_history.specs.declared.shape.Shape.{Shape}
use Rattle.thp_history.specs.Sets.{covers, some_below, each_below}
use Rattle.thp_history.specs.Shapes.{subpages}
use Rattle.thp_history.specs.History.{History}
use Rattle.thp_history.specs.Counts.{total, whole, own, is_split, is_live, is_closed, pins}
use Rattle.thp_history.specs.Places.{flight, no_pages}
use Rattle.thp_history.specs.Frames.{is_held, block_in_use}

-- the calls of a node that can be refused, with their pages, ranges of subpages and callers
pub data Call : Type 0 where
  alloc_page : Call
  map_whole : (page : ℕ) → Call
  unmap_whole : (page : ℕ) → Call
  map_sub : (page first count : ℕ) → Call
  unmap_sub : (page first count : ℕ) → Call
  split_pmd : (page : ℕ) → Call
  pin : (page : ℕ) → Call
  unpin : (page : ℕ) → Call
  write : (page first count : ℕ) → Call
  zero_fill : (page first count : ℕ) → Call
  close : Call
  take : (caller : ℕ) → Call
  scan : (caller : ℕ) → Call

-- the first reason of a list that holds
abbrev pub first_of : List (Bool × Refusal) → Option Refusal
first_of [] = None
first_of (r ∷ rs) = if r.0 then Some r.1 else first_of rs

-- the greatest map count of a subpage, and the greatest number of pins
abbrev pub most : ℕ
most = 65535

abbrev pub no_page : History → ℕ → Bool × Refusal
no_page h p = (not (is_live h p), reason.NoPage)

abbrev pub bad_range : Shape → ℕ → ℕ → Bool × Refusal
bad_range s first count = (nat_eq count 0 || nat_lt (subpages s) (first + count), reason.BadRange)

abbrev pub split_page : History → ℕ → Bool × Refusal
split_page h p = (is_split h p, reason.IsSplit)

-- some subpage of the range passes the test
abbrev pub some_of : Shape → ℕ → ℕ → (ℕ → Bool) → Bool
some_of s first count test = some_below (subpages s) (λ i. covers first count i && test i)

-- the reasons to refuse a write of data or zeros
abbrev pub write_reasons : Shape → History → ℕ → ℕ → ℕ → List (Bool × Refusal)
write_reasons s h p first count =
    no_page h p
    ∷ bad_range s first count
    ∷ split_page h p
    ∷ (some_of s first count (λ i. nat_eq (total h p i) 0), reason.NotMapped)
    ∷ []

-- the reasons to refuse each call at a history, in the order of the tests
unfoldable pub refusal : Shape → History → Call → Option Refusal
refusal s h alloc_page = first_of ((is_closed h, reason.Closed) ∷ (each_below s.blocks (block_in_use h), reason.NoBlock) ∷ [])
refusal s h (map_whole p) =
    first_of (no_page h p ∷ split_page h p ∷ (some_below (subpages s) (λ i. nat_eq (total h p i) most), reason.TooMany) ∷ [])
refusal s h (unmap_whole p) = first_of (no_page h p ∷ split_page h p ∷ (nat_eq (whole h p) 0, reason.NotMapped) ∷ [])
refusal s h (map_sub p first count) =
    first_of
    (no_page h p
    ∷ bad_range s first count
    ∷ (is_split h p && some_of s first count (λ i. not (is_held s h p i)), reason.Gone)
    ∷ (some_of s first count (λ i. nat_eq (total h p i) most), reason.TooMany)
    ∷ [])
refusal s h (unmap_sub p first count) =
    first_of
    (no_page h p
    ∷ bad_range s first count
    ∷ (some_of s first count (λ i. nat_eq (own h p i) 0), reason.NotMapped)
    ∷ [])
refusal s h (split_pmd p) = first_of (no_page h p ∷ split_page h p ∷ (nat_eq (whole h p) 0, reason.NotMapped) ∷ [])
refusal s h (pin p) = first_of (no_page h p ∷ split_page h p ∷ (nat_eq (pins h p) most, reason.TooMany) ∷ [])
refusal s h (unpin p) = first_of (no_page h p ∷ split_page h p ∷ (nat_eq (pins h p) 0, reason.NotPinned) ∷ [])
refusal s h (write p first count) = first_of (write_reasons s h p first count)
refusal s h (zero_fill p first count) = first_of (write_reasons s h p first count)
refusal s h close = first_of ((is_closed h, reason.Closed) ∷ [])
refusal s h (take c) = first_of ((not (no_pages (flight h c)), reason.HasBatch) ∷ [])
refusal s h (scan c) = first_of ((not (no_pages (flight h c)), reason.HasBatch) ∷ [])

-- the call that an event records; what a batch does with a page is none
abbrev pub call_of : What → Option Call
call_of (what.Alloc p b) = Some alloc_page
call_of (what.MapWhole p) = Some (map_whole p)
call_of (what.UnmapWhole o p set) = Some (unmap_whole p)
call_of (what.MapSub p first count) = Some (map_sub p first count)
call_of (what.UnmapSub o p first count set) = Some (unmap_sub p first count)
call_of (what.SplitPmd p) = Some (split_pmd p)
call_of (what.Pin p) = Some (pin p)
call_of (what.Unpin o p set) = Some (unpin p)
call_of (what.Write p first count) = Some (write p first count)
call_of (what.Zero p first count) = Some (zero_fill p first count)
call_of what.Close = Some close
call_of w = None

-- the refusal at h of the call that an event records
abbrev pub refusal_of : Shape → History → What → Option Refusal
refusal_of s h w = option_and_then (refusal s h) (call_of w)
