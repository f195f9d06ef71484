-- Laws of every legal history about blocks: live pages have different blocks, and the choice of blocks is free.
use Rattle.std.specs.Prelude.{◌≡◌, ℕ, ◌≤◌, Bool, true, false, not, ◌&&◌, ◌||◌, nat_eq, if◌then◌else◌, List, [], ◌∷◌, ◌++◌, map}
use Rattle.std.specs.List.{fold, range_with_len}
use Rattle.thp_history.specs.declared.events.Event.{Event}
use Rattle.thp_history.specs.declared.events.What.{What}
use Rattle.thp_history.specs.declared.events.What.TheVariants.{Alloc}
use Rattle.thp_history.specs.declared.shape.Shape.{Shape}
use Rattle.thp_history.specs.History.{History, by, some_event}
use Rattle.thp_history.specs.Counts.{is_live, frees}
use Rattle.thp_history.specs.Frames.{places, block_in_use}
use Rattle.thp_history.specs.Legal.{IsLegal, IsFirstMisfit}

-- two live pages have different blocks
abbrev pub LivePagesAreApart : Type 0
LivePagesAreApart =
    (s : Shape) (h : History) → IsLegal s h → (p q b : ℕ) → is_live h p ≡ true → is_live h q ≡ true →
    some_event (places p b) h ≡ true → some_event (places q b) h ≡ true → p ≡ q

-- the event, with block b if it is an allocation
abbrev pub with_block : ℕ → What → What
with_block b (Alloc p c) = Alloc p b
with_block b w = w

abbrev pub event_with : ℕ → Event → Event
event_with b e = by e.caller (with_block b e.what)

-- the history with block 0 in each allocation
unfoldable pub without_blocks : History → History
without_blocks h = map (event_with 0) h

-- the histories are equal except for their blocks
abbrev pub SameButBlocks : History → History → Type 0
SameButBlocks h k = without_blocks h ≡ without_blocks k

-- the first number of a list that passes a test, or 0
abbrev pub first_that : (ℕ → Bool) → List ℕ → ℕ
first_that test [] = 0
first_that test (i ∷ is) = if test i then i else first_that test is

-- the event allocates a page in block b, and none of the later events frees the page
abbrev pub keeps_block : ℕ → What → History → Bool
keeps_block b (Alloc p c) later = nat_eq b c && not (some_event (frees p) later)
keeps_block b w later = false

-- a page holds block b, in any list of events: from its allocation there to the next event that frees it
unfoldable pub is_block_held : History → ℕ → Bool
is_block_held [] b = false
is_block_held (e ∷ h) b = keeps_block b e.what h || is_block_held h b

-- in a legal history the blocks held are those in use
abbrev pub HeldBlocksAreInUse : Type 0
HeldBlocksAreInUse = (s : Shape) (h : History) → IsLegal s h → (b : ℕ) → is_block_held h b ≡ block_in_use h b

-- the least block that no page holds; 0 if every block is held
unfoldable pub least_free : Shape → History → ℕ
least_free s h = first_that (λ b. not (is_block_held h b)) (range_with_len 0 s.blocks)

-- the history with the least free block in each allocation
unfoldable pub with_least_blocks : Shape → History → History
with_least_blocks s h = fold (λ k (e : Event). k ++ event_with (least_free s k) e ∷ []) [] h

-- with_least_blocks changes nothing but blocks, in any list of events
abbrev pub LeastBlocksChangeOnlyBlocks : Type 0
LeastBlocksChangeOnlyBlocks = (s : Shape) (h : History) → SameButBlocks h (with_least_blocks s h)

-- if some choice of blocks makes the events legal, so does the choice of the least blocks
abbrev pub LeastBlocksAreLegal : Type 0
LeastBlocksAreLegal = (s : Shape) (h k : History) → SameButBlocks h k → IsLegal s k → IsLegal s (with_least_blocks s h)

-- no choice of blocks is legal for longer: the first misfit with the least blocks comes last
abbrev pub LeastBlocksLastLongest : Type 0
LeastBlocksLastLongest =
    (s : Shape) (h k : History) (i j : ℕ) → SameButBlocks h k → IsFirstMisfit s k i → IsFirstMisfit s (with_least_blocks s h) j → i ≤ j
