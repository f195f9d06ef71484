-- The sums of the events of a history, as a node and a replay store them.
use Rattle.std.specs.Prelude.{◌≡◌, ℕ, ◌+◌, ◌*◌, ◌^◌, ◌≤◌, ◌<◌, Bool, List, length}
use Rattle.std.specs.Int.{from_bool}
use Rattle.thp_history.specs.declared.events.Outcome.{Outcome}
use Rattle.thp_history.specs.declared.events.What.{What}
use Rattle.thp_history.specs.declared.events.What.TheVariants.{UnmapWhole, UnmapSub, SplitPmd, Unpin, Split}
use Rattle.thp_history.specs.declared.shape.Shape.{Shape}
use Rattle.thp_history.specs.declared.tally.Tally.{Tally}
use Rattle.thp_history.specs.declared.tally.SplitContext.{SplitContext}
use Rattle.thp_history.specs.Counters.{is_page_split, is_failed_try, queues, thp_split_page, thp_split_page_failed, thp_deferred_split_page, thp_split_pmd, thp_underused_split_page, splits_underused}
use Rattle.thp_history.specs.Counts.{whole, is_queued}
use Rattle.thp_history.specs.Frames.{frames_given}
use Rattle.thp_history.specs.History.{History}
use Rattle.thp_history.specs.Sets.{set_size}

-- the numbers are those of the history
pub record AddsUp (s : Shape) (h : History) (t : Tally) : Type 0 where
  pub frames_given : t.frames_given ≡ frames_given h
  pub split_page : t.counters.split_page ≡ thp_split_page h
  pub split_page_failed : t.counters.split_page_failed ≡ thp_split_page_failed h
  pub deferred_split_page : t.counters.deferred_split_page ≡ thp_deferred_split_page h
  pub underused_split_page : t.counters.underused_split_page ≡ thp_underused_split_page s h
  pub split_pmd : t.counters.split_pmd ≡ thp_split_pmd h
  -- each event splits at most one page, and fewer than 2 ^ 32 PMD mappings
  pub few_underused : thp_underused_split_page s h ≤ length h
  pub few_split_pmds : thp_split_pmd h ≤ 2 ^ 32 * length h

-- the numbers have room for what any event can add to them
pub record HasRoom (t : Tally) : Type 0 where
  pub frames_given : t.frames_given + 2 ^ 32 < 2 ^ 128
  pub split_page : t.counters.split_page + 1 < 2 ^ 64
  pub split_page_failed : t.counters.split_page_failed + 1 < 2 ^ 64
  pub deferred_split_page : t.counters.deferred_split_page + 1 < 2 ^ 64
  pub underused_split_page : t.counters.underused_split_page + 1 < 2 ^ 64
  pub split_pmd : t.counters.split_pmd + 2 ^ 32 < 2 ^ 128

-- the number of frames that an event gives back
abbrev pub frames_of : What → ℕ
frames_of (UnmapWhole outcome p set) = set_size set
frames_of (UnmapSub outcome p first count set) = set_size set
frames_of (Unpin outcome p set) = set_size set
frames_of (Split p set) = set_size set
frames_of w = 0

-- the number of PMD mappings that an event splits, and of pages that were not partly mapped, computed from the facts that the
-- event does not contain
abbrev pub pmds_of : What → SplitContext → ℕ
pmds_of (SplitPmd p) u = 1
pmds_of (Split p set) u = u.mappings
pmds_of w u = 0

abbrev pub underused_of : What → SplitContext → ℕ
underused_of (Split p set) u = from_bool u.underused
underused_of w u = 0

-- what an event adds to the numbers
pub record Adds (old new : Tally) (w : What) (u : SplitContext) : Type 0 where
  pub frames_given : new.frames_given ≡ old.frames_given + frames_of w
  pub split_page : new.counters.split_page ≡ old.counters.split_page + from_bool (is_page_split w)
  pub split_page_failed : new.counters.split_page_failed ≡ old.counters.split_page_failed + from_bool (is_failed_try w)
  pub deferred_split_page : new.counters.deferred_split_page ≡ old.counters.deferred_split_page + from_bool (queues w)
  pub underused_split_page : new.counters.underused_split_page ≡ old.counters.underused_split_page + underused_of w u
  pub split_pmd : new.counters.split_pmd ≡ old.counters.split_pmd + pmds_of w u
  -- bounded, so that their sum is bounded
  pub few_split_pmds : pmds_of w u < 2 ^ 32

-- the numbers with one more unmap or unpin
abbrev pub with_loss : Outcome → List Bool → Tally → Tally
with_loss o set t = record t { frames_given = t.frames_given + set_size set; counters = record t.counters { deferred_split_page = t.counters.deferred_split_page + from_bool (is_queued o) } }

-- the facts about a page that is split, which the event does not contain, agree with the history
abbrev pub IsContext : Shape → History → What → SplitContext → Type 0
IsContext s h (Split p set) u = (u.mappings ≡ whole h p) × (from_bool u.underused ≡ splits_underused s h (Split p set))
IsContext s h w u = Unit {0}
