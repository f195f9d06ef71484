-- Worked histories, event by event, with their totals.
use Rattle.std.specs.Prelude.{◌≡◌, ℕ, Some, None, ◌++◌, Bool, false, ◌||◌, nat_eq, List, [], ◌∷◌, length}
use Rattle.thp_history.specs.declared.events.Outcome.TheVariants.{Queued, Stays, Freed}
use Rattle.thp_history.specs.declared.events.What.TheVariants.{Alloc, UnmapSub, SplitPmd, Pin, Unpin, Write, Taken, Split, Pinned, Used, Back, Dropped}
use Rattle.thp_history.specs.declared.shape.Shape.{Shape}
use Rattle.thp_history.specs.Sets.{set_of, covers}
use Rattle.thp_history.specs.History.{History, by}
use Rattle.thp_history.specs.Counts.{allocations}
use Rattle.thp_history.specs.Places.{queue}
use Rattle.thp_history.specs.Frames.{frames_held, frames_given}
use Rattle.thp_history.specs.Counters.{thp_split_page, thp_split_page_failed, thp_deferred_split_page, thp_split_pmd, thp_underused_split_page}

-- a node of 16 blocks whose pages have 512 subpages, and one whose pages have 4
abbrev pub large_pages : Shape
large_pages = record { blocks = 16; order = 9; underused = None }

abbrev pub small_pages : Shape
small_pages = record { blocks = 16; order = 2; underused = None }

-- a node of 4 blocks whose pages have 4 subpages; a page is underused if more than one of them is zero-filled
abbrev pub few_used : Shape
few_used = record { blocks = 4; order = 2; underused = Some 1 }

-- the set of the `count` subpages from `first` on, and the empty set
abbrev pub subpages_of : ℕ → ℕ → List Bool
subpages_of first count = set_of (covers first count)

abbrev pub nothing : List Bool
nothing = set_of (λ i. false)

-- page p is allocated in block p, its PMD mapping is split, and its first subpages are unmapped, which queues it
abbrev pub queue_page : ℕ → ℕ → History
queue_page p count = by 0 (Alloc p p) ∷ by 0 (SplitPmd p) ∷ by 0 (UnmapSub Queued p 0 count nothing) ∷ []

-- the totals of a history
pub record HasTotals (s : Shape) (h : History) (pages queued held given split failed deferred pmds underused : ℕ) : Type 0 where
  pub pages_are : allocations h ≡ pages
  pub queue_is : length (queue s h) ≡ queued
  pub held_are : frames_held s h ≡ held
  pub given_are : frames_given h ≡ given
  pub split_are : thp_split_page h ≡ split
  pub failed_are : thp_split_page_failed h ≡ failed
  pub deferred_are : thp_deferred_split_page h ≡ deferred
  pub pmds_are : thp_split_pmd h ≡ pmds
  pub underused_are : thp_underused_split_page s h ≡ underused

-- half of a page is unmapped, and a scan splits the page
abbrev pub first_run : History
first_run = queue_page 0 256 ++ by 0 (Taken 0) ∷ by 0 (Split 0 (subpages_of 0 256)) ∷ []

-- the second of three queued pages is pinned: a scan puts it back at the tail; after the unpin the next scan splits it
abbrev pub pinned_goes_to_the_tail : History
pinned_goes_to_the_tail =
    queue_page 0 1 ++ queue_page 1 1 ++ queue_page 2 1 ++ by 0 (Pin 1)
    ∷ by 0 (Taken 0) ∷ by 0 (Taken 1) ∷ by 0 (Taken 2)
    ∷ by 0 (Split 0 (subpages_of 0 1)) ∷ by 0 (Pinned 1) ∷ by 0 (Split 2 (subpages_of 0 1)) ∷ by 0 (Back 1)
    ∷ by 0 (Unpin Stays 1 nothing)
    ∷ by 0 (Taken 1) ∷ by 0 (Split 1 (subpages_of 0 1)) ∷ []

-- three of the four subpages of a small page are unmapped, and a scan splits the page
abbrev pub small_page_split : History
small_page_split = queue_page 0 3 ++ by 0 (Taken 0) ∷ by 0 (Split 0 (subpages_of 0 3)) ∷ []

-- a scan finds a page with one zero-filled subpage in use. After a partial unmap the page is split, and its zero-filled subpage
-- gives its frame back too: the later unmap of that subpage gives nothing back, and the last unmap gives back the remaining two
-- frames
abbrev pub underused_scan : History
underused_scan =
    by 0 (Alloc 0 0) ∷ by 0 (Write 0 0 3) ∷ by 0 (Taken 0) ∷ by 0 (Used 0)
    ∷ by 0 (SplitPmd 0) ∷ by 0 (UnmapSub Queued 0 0 1 nothing)
    ∷ by 0 (Taken 0) ∷ by 0 (Split 0 (set_of (λ i. nat_eq i 0 || nat_eq i 3)))
    ∷ by 0 (UnmapSub Stays 0 3 1 nothing) ∷ by 0 (UnmapSub Freed 0 1 2 (subpages_of 1 2)) ∷ []

-- the second of two underused pages is pinned: a scan splits the first, and drops the second, which is not partly mapped
abbrev pub underused_pinned : History
underused_pinned =
    by 0 (Alloc 0 0) ∷ by 0 (Alloc 1 1) ∷ by 0 (Write 0 0 2) ∷ by 0 (Pin 1)
    ∷ by 0 (Taken 0) ∷ by 0 (Taken 1) ∷ by 0 (Split 0 (subpages_of 2 2)) ∷ by 0 (Pinned 1) ∷ by 0 (Dropped 1) ∷ []
