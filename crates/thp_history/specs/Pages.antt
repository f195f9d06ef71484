-- One page: its counts, the effect of each page call on them, and their agreement with a history.
use Rattle.std.specs.Prelude.{◌≡◌, ◌<◌, ◌≤◌, ℕ, ◌+◌, ◌^◌, Bool, true, false, not, cond, ◌&&◌, ◌||◌, nat_eq, nat_lt, List, [], ◌∷◌, slice_index_or, Option, None}
use Rattle.thp_history.specs.declared.refusal.Refusal.{Refusal}
use Rattle.thp_history.specs.declared.refusal.Refusal.TheVariants as reason
use Rattle.thp_history.specs.declared.shape.Shape.{Shape}
use Rattle.thp_history.specs.Sets.{set_of, has, covers, some_below, count_below}
use Rattle.thp_history.specs.Shapes.{subpages}
use Rattle.thp_history.specs.History.{History, count_of}
use Rattle.thp_history.specs.Counts.{maps, unmaps, maps_whole, unmaps_whole, pins_page, unpins_page, is_split}
use Rattle.thp_history.specs.Underused.{shrinks_underused, is_zero_filled, is_partly_mapped, is_above}
use Rattle.thp_history.specs.Refusals.{Call, map_whole, unmap_whole, map_sub, unmap_sub, split_pmd, pin, unpin, write, zero_fill, first_of, most}

-- a page's order, its whole map count, the own map counts of its subpages, its pins, and whether it is split; which of its
-- subpages are zero-filled, whether it is partly mapped, and whether its split gave back the frames of the zero-filled subpages
pub record PageState : Type 0 where
  pub order : ℕ
  pub whole : ℕ
  pub own : List ℕ
  pub pins : ℕ
  pub split : Bool
  pub zero : List Bool
  pub partly : Bool
  pub freed_zero_frames : Bool

-- the number of the page's subpages
unfoldable pub size : PageState → ℕ
size t = 2 ^ t.order

-- the own map count of subpage i, and its total map count
abbrev pub own_at : PageState → ℕ → ℕ
own_at t i = slice_index_or t.own i 0

abbrev pub total_at : PageState → ℕ → ℕ
total_at t i = t.whole + own_at t i

-- some subpage is in use
abbrev pub has_use : PageState → Bool
has_use t = some_below (size t) (λ i. nat_lt 0 (total_at t i))

-- the subpages in use
abbrev pub used_set : PageState → List Bool
used_set t = set_of (λ i. nat_lt i (size t) && nat_lt 0 (total_at t i))

-- subpage i is zero-filled
abbrev pub zero_at : PageState → ℕ → Bool
zero_at t i = has t.zero i

-- the set of the zero-filled subpages, and their number
abbrev pub zero_set : PageState → List Bool
zero_set t = set_of (λ i. nat_lt i (size t) && zero_at t i)

abbrev pub zero_count : PageState → ℕ
zero_count t = count_below (size t) (zero_at t)

-- the page is a split candidate, if pages are underused above this threshold
abbrev pub is_split_candidate : Option ℕ → PageState → Bool
is_split_candidate threshold t = t.partly || is_above threshold (zero_count t)

-- the page, while it is live, holds the frame of subpage i: every frame before its split, and afterwards those that the split
-- left
abbrev pub holds : PageState → ℕ → Bool
holds t i = nat_lt i (size t) && (not t.split || (nat_lt 0 (total_at t i) && not (t.freed_zero_frames && zero_at t i)))

-- some subpage was in use before and is not in use after
abbrev pub drops_use : PageState → PageState → Bool
drops_use old new = some_below (size old) (λ i. nat_lt 0 (total_at old i) && nat_eq (total_at new i) 0)

-- the frames held before and not held after
abbrev pub gives_frames : PageState → PageState → List Bool
gives_frames old new = set_of (λ i. holds old i && not (holds new i))

-- the invariant of every page
pub record IsPage (t : PageState) : Type 0 where
  pub least_order : 2 ≤ t.order
  pub most_order : t.order ≤ 9
  pub bounded : (i : ℕ) → i < size t → total_at t i ≤ most
  pub few_pins : t.pins ≤ most
  pub no_whole : t.split ≡ true → t.whole ≡ 0
  pub no_pins : t.split ≡ true → t.pins ≡ 0

-- the reasons to refuse a page call that depend on the page only
abbrev pub is_split_page : PageState → Bool × Refusal
is_split_page t = (t.split, reason.IsSplit)

abbrev pub is_bad_range : PageState → ℕ → ℕ → Bool × Refusal
is_bad_range t first count = (nat_eq count 0 || nat_lt (size t) (first + count), reason.BadRange)

abbrev pub some_in_range : PageState → ℕ → ℕ → (ℕ → Bool) → Bool
some_in_range t first count test = some_below (size t) (λ i. covers first count i && test i)

-- the reasons to refuse a write of data or zeros
abbrev pub page_write_reasons : PageState → ℕ → ℕ → List (Bool × Refusal)
page_write_reasons t first count =
    is_bad_range t first count ∷ is_split_page t ∷ (some_in_range t first count (λ i. nat_eq (total_at t i) 0), reason.NotMapped) ∷ []

-- the first reason that holds
unfoldable pub page_refusal : PageState → Call → Option Refusal
page_refusal t (map_whole p) = first_of (is_split_page t ∷ (some_below (size t) (λ i. nat_eq (total_at t i) most), reason.TooMany) ∷ [])
page_refusal t (unmap_whole p) = first_of (is_split_page t ∷ (nat_eq t.whole 0, reason.NotMapped) ∷ [])
page_refusal t (map_sub p first count) =
    first_of
    (is_bad_range t first count
    ∷ (t.split && some_in_range t first count (λ i. not (holds t i)), reason.Gone)
    ∷ (some_in_range t first count (λ i. nat_eq (total_at t i) most), reason.TooMany)
    ∷ [])
page_refusal t (unmap_sub p first count) =
    first_of (is_bad_range t first count ∷ (some_in_range t first count (λ i. nat_eq (own_at t i) 0), reason.NotMapped) ∷ [])
page_refusal t (split_pmd p) = first_of (is_split_page t ∷ (nat_eq t.whole 0, reason.NotMapped) ∷ [])
page_refusal t (pin p) = first_of (is_split_page t ∷ (nat_eq t.pins most, reason.TooMany) ∷ [])
page_refusal t (unpin p) = first_of (is_split_page t ∷ (nat_eq t.pins 0, reason.NotPinned) ∷ [])
page_refusal t (write p first count) = first_of (page_write_reasons t first count)
page_refusal t (zero_fill p first count) = first_of (page_write_reasons t first count)
page_refusal t _ = None

-- what a call about mappings or pins does not change: the zero-filled subpages, and whether their frames were given back
pub record KeepsZero (old new : PageState) : Type 0 where
  pub zero : new.zero ≡ old.zero
  pub freed_zero_frames : new.freed_zero_frames ≡ old.freed_zero_frames

-- one more mapping of the whole page
pub record WholeMapped (old new : PageState) : Type 0 where
  pub order : new.order ≡ old.order
  pub whole : new.whole ≡ old.whole + 1
  pub own : (i : ℕ) → i < size old → own_at new i ≡ own_at old i
  pub pins : new.pins ≡ old.pins
  pub split : new.split ≡ old.split
  pub partly : new.partly ≡ old.partly
  pub kept : KeepsZero old new

-- the page is partly mapped after an unmap: it was before, or a subpage went out of use and another one is in use
abbrev pub partly_after : PageState → PageState → Bool
partly_after old new = old.partly || (drops_use old new && has_use new)

-- one mapping of the whole page removed
pub record WholeUnmapped (old new : PageState) : Type 0 where
  pub order : new.order ≡ old.order
  pub whole : old.whole ≡ new.whole + 1
  pub own : (i : ℕ) → i < size old → own_at new i ≡ own_at old i
  pub pins : new.pins ≡ old.pins
  pub split : new.split ≡ old.split
  pub partly : new.partly ≡ partly_after old new
  pub kept : KeepsZero old new

-- one more mapping of each subpage of a range
pub record RangeMapped (first count : ℕ) (old new : PageState) : Type 0 where
  pub order : new.order ≡ old.order
  pub whole : new.whole ≡ old.whole
  pub own : (i : ℕ) → i < size old → own_at new i ≡ own_at old i + cond (covers first count i) 1 0
  pub pins : new.pins ≡ old.pins
  pub split : new.split ≡ old.split
  pub partly : new.partly ≡ old.partly
  pub kept : KeepsZero old new

-- one mapping of each subpage of a range removed
pub record RangeUnmapped (first count : ℕ) (old new : PageState) : Type 0 where
  pub order : new.order ≡ old.order
  pub whole : new.whole ≡ old.whole
  pub own : (i : ℕ) → i < size old → own_at old i ≡ own_at new i + cond (covers first count i) 1 0
  pub pins : new.pins ≡ old.pins
  pub split : new.split ≡ old.split
  pub partly : new.partly ≡ partly_after old new
  pub kept : KeepsZero old new

-- one mapping of the whole page replaced by one of each subpage
pub record PmdSplit (old new : PageState) : Type 0 where
  pub order : new.order ≡ old.order
  pub whole : old.whole ≡ new.whole + 1
  pub own : (i : ℕ) → i < size old → own_at new i ≡ own_at old i + 1
  pub pins : new.pins ≡ old.pins
  pub split : new.split ≡ old.split
  pub partly : new.partly ≡ old.partly
  pub kept : KeepsZero old new

-- one more pin; with the states exchanged, one pin removed
pub record Pinned (old new : PageState) : Type 0 where
  pub order : new.order ≡ old.order
  pub whole : new.whole ≡ old.whole
  pub own : (i : ℕ) → i < size old → own_at new i ≡ own_at old i
  pub pins : new.pins ≡ old.pins + 1
  pub split : new.split ≡ old.split
  pub partly : new.partly ≡ old.partly
  pub kept : KeepsZero old new

-- what a call that writes subpages does not change: everything except which of them are zero-filled
pub record KeepsCounts (old new : PageState) : Type 0 where
  pub order : new.order ≡ old.order
  pub whole : new.whole ≡ old.whole
  pub own : new.own ≡ old.own
  pub pins : new.pins ≡ old.pins
  pub split : new.split ≡ old.split
  pub partly : new.partly ≡ old.partly
  pub freed_zero_frames : new.freed_zero_frames ≡ old.freed_zero_frames

-- data written to each subpage of a range: none of them is zero-filled
pub record RangeWritten (first count : ℕ) (old new : PageState) : Type 0 where
  pub kept : KeepsCounts old new
  pub zero : (i : ℕ) → i < size old → zero_at new i ≡ (zero_at old i && not (covers first count i))

-- zeros written to each subpage of a range: each of them is zero-filled
pub record RangeZeroed (first count : ℕ) (old new : PageState) : Type 0 where
  pub kept : KeepsCounts old new
  pub zero : (i : ℕ) → i < size old → zero_at new i ≡ (zero_at old i || covers first count i)

-- the page split into base pages: each subpage keeps its mappings as its own; zero-filled subpages give their frames back if
-- give_zero is true
pub record PageSplit (give_zero : Bool) (old new : PageState) : Type 0 where
  pub order : new.order ≡ old.order
  pub whole : new.whole ≡ 0
  pub own : (i : ℕ) → i < size old → own_at new i ≡ total_at old i
  pub pins : new.pins ≡ old.pins
  pub split : new.split ≡ true
  pub zero : new.zero ≡ old.zero
  pub partly : new.partly ≡ old.partly
  pub freed_zero_frames : new.freed_zero_frames ≡ give_zero

-- a page just allocated: mapped whole once, with all subpages zero-filled
pub record IsFresh (order : ℕ) (t : PageState) : Type 0 where
  pub order_is : t.order ≡ order
  pub whole : t.whole ≡ 1
  pub own : (i : ℕ) → own_at t i ≡ 0
  pub pins : t.pins ≡ 0
  pub split : t.split ≡ false
  pub zero : (i : ℕ) → i < size t → zero_at t i ≡ true
  pub partly : t.partly ≡ false
  pub freed_zero_frames : t.freed_zero_frames ≡ false

-- the page's state is the one that the history gives page p
pub record Tallies (s : Shape) (h : History) (p : ℕ) (t : PageState) : Type 0 where
  pub order : t.order ≡ s.order
  pub totals : (i : ℕ) → i < subpages s → count_of (maps p i) h ≡ count_of (unmaps p i) h + total_at t i
  pub whole_of : is_split h p ≡ false → count_of (maps_whole p) h ≡ count_of (unmaps_whole p) h + t.whole
  pub no_whole : is_split h p ≡ true → t.whole ≡ 0
  pub pins_of : count_of (pins_page p) h ≡ count_of (unpins_page p) h + t.pins
  pub split : t.split ≡ is_split h p
  pub zero : (i : ℕ) → i < subpages s → zero_at t i ≡ is_zero_filled h p i
  pub partly : t.partly ≡ is_partly_mapped s h p
  pub freed_zero_frames : t.split ≡ true → t.freed_zero_frames ≡ shrinks_underused s
