-- Which subpages of a page are zero-filled, and whether a page is worth a split: partly mapped, or underused.
-- (admin-guide/mm/transhuge.rst, "shrink_underused", for the switch; the threshold and what counts as zero-filled are this
-- project's profile)
use Rattle.std.specs.Prelude.{ℕ, Bool, true, false, not, ◌&&◌, ◌||◌, nat_eq, nat_lt, [], ◌∷◌, ◌++◌, Option, Some, None, fold}
use Rattle.thp_history.specs.declared.events.Event.{Event}
use Rattle.thp_history.specs.declared.events.What.{What}
use Rattle.thp_history.specs.declared.events.What.TheVariants.{Alloc, UnmapWhole, UnmapSub, Write, Zero}
use Rattle.thp_history.specs.declared.shape.Shape.{Shape}
use Rattle.thp_history.specs.Sets.{covers, count_below}
use Rattle.thp_history.specs.Shapes.{subpages}
use Rattle.thp_history.specs.History.{History}
use Rattle.thp_history.specs.Counts.{is_mapped, loses_use}

-- the switch is on: the shrinker considers every page of the node, and splits the underused ones too
abbrev pub shrinks_underused : Shape → Bool
shrinks_underused s = is_on s.underused where
  is_on : Option ℕ → Bool
  is_on None = false
  is_on (Some threshold) = true

-- the event fills subpage i of page p with data
abbrev pub writes : ℕ → ℕ → What → Bool
writes p i (Write q first count) = nat_eq p q && covers first count i
writes p i _ = false

-- the event fills subpage i of page p with zeros; the page's allocation does
abbrev pub zeroes : ℕ → ℕ → What → Bool
zeroes p i (Alloc q block) = nat_eq p q
zeroes p i (Zero q first count) = nat_eq p q && covers first count i
zeroes p i _ = false

-- whether the subpage is zero-filled after an event, given whether it was before
abbrev pub zero_after : ℕ → ℕ → Bool → What → Bool
zero_after p i before w = zeroes p i w || (before && not (writes p i w))

-- subpage i of page p is zero-filled: the last event that filled it was not a write of data
unfoldable pub is_zero_filled : History → ℕ → ℕ → Bool
is_zero_filled h p i = fold (λ before (e : Event). zero_after p i before e.what) true h

-- the event unmaps page p, as a whole or some of its subpages
abbrev pub unmaps_some : ℕ → What → Bool
unmaps_some p (UnmapWhole outcome q released) = nat_eq p q
unmaps_some p (UnmapSub outcome q first count released) = nat_eq p q
unmaps_some p _ = false

-- the event, at h, removes the last mapping of a subpage of page p and leaves another subpage mapped
abbrev pub unmaps_part : Shape → ℕ → History → Event → Bool
unmaps_part s p h e = unmaps_some p e.what && (loses_use s h (h ++ e ∷ []) p && is_mapped s (h ++ e ∷ []) p)

-- the history so far and whether an event of it did that, after one more event
abbrev pub add_unmap : Shape → ℕ → History × Bool → Event → History × Bool
add_unmap s p sofar e = (sofar.0 ++ e ∷ [], sofar.1 || unmaps_part s p sofar.0 e)

-- page p is partly mapped: some event unmapped a part of it and left another part mapped
unfoldable pub is_partly_mapped : Shape → History → ℕ → Bool
is_partly_mapped s h p = (fold (add_unmap s p) ([], false) h).1

-- a number is above the threshold; false if there is no threshold
abbrev pub is_above : Option ℕ → ℕ → Bool
is_above None n = false
is_above (Some threshold) n = nat_lt threshold n

-- the number of zero-filled subpages of page p
abbrev pub zero_filled : Shape → History → ℕ → ℕ
zero_filled s h p = count_below (subpages s) (is_zero_filled h p)

-- page p is underused: the switch is on, and more of its subpages are zero-filled than the threshold
abbrev pub is_underused : Shape → History → ℕ → Bool
is_underused s h p = is_above s.underused (zero_filled s h p)

-- page p is worth a split
abbrev pub is_worth_split : Shape → History → ℕ → Bool
is_worth_split s h p = is_partly_mapped s h p || is_underused s h p
