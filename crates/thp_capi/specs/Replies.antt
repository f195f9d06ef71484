-- The meaning of the numbers that calls return in addition to their code.
use Rattle.std.specs.Prelude.{◌≡◌, ℕ, ◌<◌, ◌≤◌, ◌-◌, ◌^◌, min, Bool, List, length, if◌then◌else◌, nat_eq}
use Rattle.thp_history.specs.declared.events.Outcome.{Outcome}
use Rattle.thp_history.specs.declared.events.Outcome.TheVariants.{Stays, Queued, Freed}
use Rattle.thp_history.specs.Prelude.{allocations, frames_given, frames_held, max_subpages, queue, has, in_words, counters_of}
use Rattle.thp_node.specs.declared.answers.Tried.{Tried}
use Rattle.thp_node.specs.declared.answers.Tried.TheVariants as try
use Rattle.thp_node.specs.Prelude.{NodeState}
use Rattle.thp_capi.specs.declared.replies.ThpTried.{ThpTried}
use Rattle.thp_capi.specs.declared.replies.ThpStats.{ThpStats}

abbrev pub outcome_number : Outcome → ℕ
outcome_number Stays = 0
outcome_number Queued = 1
outcome_number Freed = 2

-- bit i % 64 of word i / 64 is set exactly if subpage i is in the set
abbrev pub MasksSet : List ℕ → List Bool → Type 0
MasksSet words set = (i : ℕ) → i < max_subpages → in_words words i ≡ has set i

abbrev pub tried_of : ThpTried → Tried
tried_of t =
    if nat_eq t.kind 0 then try.Done
    else if nat_eq t.kind 1 then try.Split t.page
    else if nat_eq t.kind 2 then try.Pinned t.page
    else try.Used t.page

-- the numbers are those of this result of a try
abbrev pub HasTried : ThpTried → Tried → Type 0
HasTried t r = (tried_of t ≡ r) × (t.kind ≤ 3)

-- the number, or the greatest 64-bit number if it is larger
abbrev pub narrow : ℕ → ℕ
narrow n = min n (2 ^ 64 - 1)

-- a node's statistics, as its journal determines them
abbrev pub stats_of : NodeState → ThpStats
stats_of node =
    let s = node.shape in let h = node.journal in let c = counters_of s h in
    record {
      events = length h;
      allocations = allocations h;
      queued = length (queue s h);
      frames_given = narrow (frames_given h);
      frames_held = narrow (frames_held s h);
      split_page = c.split_page;
      split_page_failed = c.split_page_failed;
      deferred_split_page = c.deferred_split_page;
      underused_split_page = c.underused_split_page;
      split_pmd = narrow c.split_pmd;
    }
