-- The node's statistics, named as in /proc/vmstat. (admin-guide/mm/transhuge.rst, "Monitoring usage", for the names; when each of
-- them increases is this project's profile)
use Rattle.std.specs.Prelude.{ℕ, ◌+◌, Bool, true, false, if◌then◌else◌, [], ◌∷◌, ◌++◌, fold}
use Rattle.thp_history.specs.declared.events.Event.{Event}
use Rattle.thp_history.specs.declared.events.What.{What}
use Rattle.thp_history.specs.declared.events.What.TheVariants.{UnmapWhole, UnmapSub, SplitPmd, Unpin, Split, Pinned}
use Rattle.thp_history.specs.declared.shape.Shape.{Shape}
use Rattle.thp_history.specs.declared.tally.Counters.{Counters}
use Rattle.thp_history.specs.History.{History, count_of}
use Rattle.thp_history.specs.Counts.{whole, is_queued}
use Rattle.thp_history.specs.Underused.{is_partly_mapped}

abbrev pub is_page_split : What → Bool
is_page_split (Split p set) = true
is_page_split _ = false

abbrev pub is_failed_try : What → Bool
is_failed_try (Pinned p) = true
is_failed_try _ = false

-- the event's outcome is that its page was queued; a put back or an allocation doesn't count
abbrev pub queues : What → Bool
queues (UnmapWhole outcome p set) = is_queued outcome
queues (UnmapSub outcome p first count set) = is_queued outcome
queues (Unpin outcome p set) = is_queued outcome
queues _ = false

-- the number of pages split
abbrev pub thp_split_page : History → ℕ
thp_split_page h = count_of is_page_split h

-- the number of tries that failed
abbrev pub thp_split_page_failed : History → ℕ
thp_split_page_failed h = count_of is_failed_try h

-- the number of times that a page was queued
abbrev pub thp_deferred_split_page : History → ℕ
thp_deferred_split_page h = count_of queues h

-- the number of PMD mappings that an event splits at h: one, or all mappings of the whole page if the page itself is split
abbrev pub splits_pmds : History → What → ℕ
splits_pmds h (SplitPmd p) = 1
splits_pmds h (Split p set) = whole h p
splits_pmds h _ = 0

-- the history so far and the PMD mappings split so far, after one more event
abbrev pub add_split_pmds : History × ℕ → Event → History × ℕ
add_split_pmds sofar e = (sofar.0 ++ e ∷ [], sofar.1 + splits_pmds sofar.0 e.what)

-- the number of PMD mappings split
unfoldable pub thp_split_pmd : History → ℕ
thp_split_pmd h = (fold add_split_pmds ([], 0) h).1

-- the number of pages that an event splits at h although they are not partly mapped: they are split as underused
abbrev pub splits_underused : Shape → History → What → ℕ
splits_underused s h (Split p set) = if is_partly_mapped s h p then 0 else 1
splits_underused s h _ = 0

-- the history so far and the underused pages split so far, after one more event
abbrev pub add_split_underused : Shape → History × ℕ → Event → History × ℕ
add_split_underused s sofar e = (sofar.0 ++ e ∷ [], sofar.1 + splits_underused s sofar.0 e.what)

-- the number of pages split as underused
unfoldable pub thp_underused_split_page : Shape → History → ℕ
thp_underused_split_page s h = (fold (add_split_underused s) ([], 0) h).1

-- the statistics that a history determines
abbrev pub counters_of : Shape → History → Counters
counters_of s h = record {
  split_page = thp_split_page h;
  split_page_failed = thp_split_page_failed h;
  deferred_split_page = thp_deferred_split_page h;
  underused_split_page = thp_underused_split_page s h;
  split_pmd = thp_split_pmd h;
}
