-- The state of one page after a history: its map counts, its pins and its states. Each is a count of the history's events.
-- (mm/transhuge.rst, "Refcounts and transparent huge pages"; the separate count for the whole page is this project's profile)
use Rattle.std.specs.Prelude.{ℕ, ◌-◌, Bool, true, false, not, ◌&&◌, if◌then◌else◌, nat_eq, nat_lt, IsTrue}
use Rattle.thp_history.specs.declared.events.Outcome.{Outcome}
use Rattle.thp_history.specs.declared.events.Outcome.TheVariants.{Freed, Queued}
use Rattle.thp_history.specs.declared.events.What.{What}
use Rattle.thp_history.specs.declared.events.What.TheVariants.{Alloc, MapWhole, UnmapWhole, MapSub, UnmapSub, SplitPmd, Pin, Unpin, Split, Close}
use Rattle.thp_history.specs.declared.shape.Shape.{Shape}
use Rattle.thp_history.specs.Sets.{covers, some_below}
use Rattle.thp_history.specs.Shapes.{subpages}
use Rattle.thp_history.specs.History.{History, count_of, some_event}

-- the event adds a mapping of subpage i of page p
abbrev pub maps : ℕ → ℕ → What → Bool
maps p i (Alloc q block) = nat_eq p q
maps p i (MapWhole q) = nat_eq p q
maps p i (MapSub q first count) = nat_eq p q && covers first count i
maps p i _ = false

-- the event removes a mapping of subpage i of page p
abbrev pub unmaps : ℕ → ℕ → What → Bool
unmaps p i (UnmapWhole outcome q released) = nat_eq p q
unmaps p i (UnmapSub outcome q first count released) = nat_eq p q && covers first count i
unmaps p i _ = false

-- the event adds a mapping of the whole page p
abbrev pub maps_whole : ℕ → What → Bool
maps_whole p (Alloc q block) = nat_eq p q
maps_whole p (MapWhole q) = nat_eq p q
maps_whole p _ = false

-- the event removes a mapping of the whole page p, or replaces it by one of each subpage
abbrev pub unmaps_whole : ℕ → What → Bool
unmaps_whole p (UnmapWhole outcome q released) = nat_eq p q
unmaps_whole p (SplitPmd q) = nat_eq p q
unmaps_whole p _ = false

-- the event pins page p
abbrev pub pins_page : ℕ → What → Bool
pins_page p (Pin q) = nat_eq p q
pins_page p _ = false

-- the event removes a pin of page p
abbrev pub unpins_page : ℕ → What → Bool
unpins_page p (Unpin outcome q released) = nat_eq p q
unpins_page p _ = false

-- the event allocates page p
abbrev pub allocates : ℕ → What → Bool
allocates p (Alloc q block) = nat_eq p q
allocates p _ = false

-- the event allocates a page
abbrev pub is_alloc : What → Bool
is_alloc (Alloc q block) = true
is_alloc _ = false

abbrev pub is_freed : Outcome → Bool
is_freed Freed = true
is_freed _ = false

abbrev pub is_queued : Outcome → Bool
is_queued Queued = true
is_queued _ = false

-- the event frees page p
abbrev pub frees : ℕ → What → Bool
frees p (UnmapWhole outcome q released) = nat_eq p q && is_freed outcome
frees p (UnmapSub outcome q first count released) = nat_eq p q && is_freed outcome
frees p (Unpin outcome q released) = nat_eq p q && is_freed outcome
frees p _ = false

-- the event splits page p
abbrev pub splits : ℕ → What → Bool
splits p (Split q released) = nat_eq p q
splits p _ = false

abbrev pub closes : What → Bool
closes Close = true
closes _ = false

-- the number of pages allocated
abbrev pub allocations : History → ℕ
allocations h = count_of is_alloc h

-- the number of mappings of subpage i of page p, by PMD and by PTE entries
abbrev pub total : History → ℕ → ℕ → ℕ
total h p i = count_of (maps p i) h - count_of (unmaps p i) h

-- page p was split into base pages
abbrev pub is_split : History → ℕ → Bool
is_split h p = some_event (splits p) h

-- the whole map count of page p: the number of PMD entries that map it
abbrev pub whole : History → ℕ → ℕ
whole h p = if is_split h p then 0 else count_of (maps_whole p) h - count_of (unmaps_whole p) h

-- the own map count of subpage i: the number of PTE entries that map it
abbrev pub own : History → ℕ → ℕ → ℕ
own h p i = total h p i - whole h p

-- the number of extra pins of page p
abbrev pub pins : History → ℕ → ℕ
pins h p = count_of (pins_page p) h - count_of (unpins_page p) h

-- some subpage of page p is mapped
abbrev pub is_mapped : Shape → History → ℕ → Bool
is_mapped s h p = some_below (subpages s) (λ i. nat_lt 0 (total h p i))

-- some subpage of page p was mapped before and is not mapped after
abbrev pub loses_use : Shape → History → History → ℕ → Bool
loses_use s before after p = some_below (subpages s) (λ i. nat_lt 0 (total before p i) && nat_eq (total after p i) 0)

-- page p was allocated and not freed
abbrev pub is_live : History → ℕ → Bool
is_live h p = some_event (allocates p) h && not (some_event (frees p) h)

-- the node was closed
abbrev pub is_closed : History → Bool
is_closed h = some_event closes h

-- subpage i of live page p is in use: some entry maps it
abbrev pub is_used : History → ℕ → ℕ → Bool
is_used h p i = is_live h p && nat_lt 0 (total h p i)

abbrev pub IsSplit : History → ℕ → Type 0
IsSplit h p = IsTrue (is_split h p)
