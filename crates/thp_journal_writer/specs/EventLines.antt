-- Events as lines of a journal (this project's journal format). Lines are without their line feed here.
use Rattle.std.specs.Prelude.{◌≡◌, ℕ, ◌<◌, ◌^◌, Bool, List, [], ◌∷◌, length, codes, ⊤, Option, Some, None, decimal}
use Rattle.std.specs.List.{join_with_byte}
use Rattle.thp_history.specs.declared.events.Event.{Event}
use Rattle.thp_history.specs.declared.events.Outcome.{Outcome}
use Rattle.thp_history.specs.declared.events.Outcome.TheVariants.{Stays, Queued, Freed}
use Rattle.thp_history.specs.Prelude.{max_subpages}
use Rattle.thp_history.specs.declared.events.What.{What}
use Rattle.thp_history.specs.declared.events.What.TheVariants.{Alloc, MapWhole, UnmapWhole, MapSub, UnmapSub, SplitPmd, Pin, Unpin, Write, Zero, Taken, Split, Pinned, Used, Back, Dropped, Close}
use Rattle.thp_journal_writer.specs.SetTexts.{set_text}

-- words separated by a space (32)
abbrev pub spaced_line : List (List ℕ) → List ℕ
spaced_line words = join_with_byte 32 words

-- the effect of an unmap or an unpin on its page
abbrev pub outcome_word : Outcome → List ℕ
outcome_word Stays = codes "stays"
outcome_word Queued = codes "queued"
outcome_word Freed = codes "freed"

-- a name and a page's number
abbrev pub page_words : List ℕ → ℕ → List (List ℕ)
page_words name page = name ∷ decimal page ∷ []

-- a name and a range of a page's subpages
abbrev pub range_words : List ℕ → ℕ → ℕ → ℕ → List (List ℕ)
range_words name page first count = name ∷ decimal page ∷ decimal first ∷ decimal count ∷ []

-- the event: its name, the page, a range if there is one, then the outcome and the set given back if there are. The block of a
-- new page is not included.
abbrev pub what_words : What → List (List ℕ)
what_words (Alloc page block) = page_words (codes "alloc") page
what_words (MapWhole page) = page_words (codes "mapwhole") page
what_words (UnmapWhole outcome page released) = codes "unmapwhole" ∷ decimal page ∷ outcome_word outcome ∷ set_text released ∷ []
what_words (MapSub page first count) = range_words (codes "mapsub") page first count
what_words (UnmapSub outcome page first count released) = codes "unmapsub" ∷ decimal page ∷ decimal first ∷ decimal count ∷ outcome_word outcome ∷ set_text released ∷ []
what_words (SplitPmd page) = page_words (codes "splitpmd") page
what_words (Pin page) = page_words (codes "pin") page
what_words (Unpin outcome page released) = codes "unpin" ∷ decimal page ∷ outcome_word outcome ∷ set_text released ∷ []
what_words (Write page first count) = range_words (codes "write") page first count
what_words (Zero page first count) = range_words (codes "zero") page first count
what_words (Taken page) = page_words (codes "taken") page
what_words (Split page released) = codes "split" ∷ decimal page ∷ set_text released ∷ []
what_words (Pinned page) = page_words (codes "pinned") page
what_words (Used page) = page_words (codes "used") page
what_words (Back page) = page_words (codes "back") page
what_words (Dropped page) = page_words (codes "dropped") page
what_words Close = codes "close" ∷ []

-- the page in the words; none for a close
abbrev pub event_page : What → Option ℕ
event_page (Alloc page block) = Some page
event_page (MapWhole page) = Some page
event_page (UnmapWhole outcome page released) = Some page
event_page (MapSub page first count) = Some page
event_page (UnmapSub outcome page first count released) = Some page
event_page (SplitPmd page) = Some page
event_page (Pin page) = Some page
event_page (Unpin outcome page released) = Some page
event_page (Write page first count) = Some page
event_page (Zero page first count) = Some page
event_page (Taken page) = Some page
event_page (Split page released) = Some page
event_page (Pinned page) = Some page
event_page (Used page) = Some page
event_page (Back page) = Some page
event_page (Dropped page) = Some page
event_page Close = None

-- the caller's number, then the event
unfoldable pub event_words : Event → List (List ℕ)
event_words e = decimal e.caller ∷ what_words e.what

-- the line of an event
unfoldable pub event_line : Event → List ℕ
event_line e = spaced_line (event_words e)

-- the numbers of a range of subpages fit an operand
abbrev pub IsSmallRange : ℕ → ℕ → ℕ → Type 0
IsSmallRange page first count = (page < 2 ^ 64) × (first < 2 ^ 16) × (count < 2 ^ 16)

-- a page's number, and a set of subpages
abbrev pub IsSmallLoss : ℕ → List Bool → Type 0
IsSmallLoss page set = (page < 2 ^ 64) × (length set ≡ max_subpages)

-- the numbers of the event fit the operands of its line
abbrev pub HasSmallNumbers : What → Type 0
HasSmallNumbers (Alloc page block) = page < 2 ^ 64
HasSmallNumbers (MapWhole page) = page < 2 ^ 64
HasSmallNumbers (UnmapWhole outcome page set) = IsSmallLoss page set
HasSmallNumbers (MapSub page first count) = IsSmallRange page first count
HasSmallNumbers (UnmapSub outcome page first count set) = (page < 2 ^ 64) × (first < 2 ^ 16) × (count < 2 ^ 16) × (length set ≡ max_subpages)
HasSmallNumbers (SplitPmd page) = page < 2 ^ 64
HasSmallNumbers (Pin page) = page < 2 ^ 64
HasSmallNumbers (Unpin outcome page set) = IsSmallLoss page set
HasSmallNumbers (Write page first count) = IsSmallRange page first count
HasSmallNumbers (Zero page first count) = IsSmallRange page first count
HasSmallNumbers (Taken page) = page < 2 ^ 64
HasSmallNumbers (Split page set) = IsSmallLoss page set
HasSmallNumbers (Pinned page) = page < 2 ^ 64
HasSmallNumbers (Used page) = page < 2 ^ 64
HasSmallNumbers (Back page) = page < 2 ^ 64
HasSmallNumbers (Dropped page) = page < 2 ^ 64
HasSmallNumbers Close = ⊤
