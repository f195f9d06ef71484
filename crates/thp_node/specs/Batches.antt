-- The view that contracts have of a batch, the results of a try and a put back, and the counts of a scan.
use Rattle.std.specs.Prelude.{◌≡◌, ◌≢◌, ℕ, ◌≤◌, ◌<◌, length, count_by, nat_eq, if◌then◌else◌, Bool, true, false, List, [], ◌++◌, drop, Option, Some, None, All}
use Rattle.thp_history.specs.Prelude.{max_batch, max_node_callers, History, count_of, pins, is_worth_split, is_dropped as drops, flight, has_page, still_flying, goes_back}
use Rattle.thp_history.specs.declared.events.Event.{Event}
use Rattle.thp_history.specs.declared.events.What.{What}
use Rattle.thp_history.specs.declared.events.What.TheVariants.{Taken, Split as SplitOf, Pinned as PinnedOf, Used as UsedOf, Back, Dropped}
use Rattle.thp_history.specs.declared.shape.Shape.{Shape}
use Rattle.thp_node.specs.declared.answers.Tried.{Tried}
use Rattle.thp_node.specs.declared.answers.Tried.TheVariants.{Split, Pinned, Used, Done}
use Rattle.thp_node.specs.declared.answers.BackReply.{BackReply}
use Rattle.thp_node.specs.declared.answers.ScanReply.{ScanReply}

-- the caller, the pages taken in order, and the number of them that were tried
pub record BatchState : Type 0 where
  pub caller : ℕ
  pub pages : List ℕ
  pub place : ℕ

-- an empty batch of no particular caller
abbrev pub no_batch : BatchState
no_batch = record { caller = 0; pages = []; place = 0 }

-- the pages still to be tried
abbrev pub rest : BatchState → List ℕ
rest b = drop b.place b.pages

-- the invariant of a batch
pub record IsBatch (b : BatchState) : Type 0 where
  pub caller : b.caller < max_node_callers
  pub few : length b.pages ≤ max_batch
  pub inside : b.place ≤ length b.pages

-- the pages of the batch that are still in flight are a prefix of its caller's flight
pub record IsInFront (h : History) (b : BatchState) : Type 0 where
  pub others : List ℕ
  pub front : flight h b.caller ≡ still_flying h b.caller b.pages ++ others

-- every batch that is a prefix of its flight at h is one at k
abbrev pub FrontsStay : History → History → Type 0
FrontsStay h k = (b : BatchState) → IsInFront h b → IsInFront k b

-- the same for every batch of a caller other than c
abbrev pub OtherFrontsStay : ℕ → History → History → Type 0
OtherFrontsStay c h k = (b : BatchState) → b.caller ≢ c → IsInFront h b → IsInFront k b

-- a batch of caller c that contains none of the pages ps, which are those of its flight, is a prefix of the flight at h
abbrev pub OlderAreInFront : ℕ → List ℕ → History → Type 0
OlderAreInFront c ps h = (b : BatchState) → b.caller ≡ c → All (λ p. has_page p ps ≡ false) b.pages → IsInFront h b

-- the result of a try of the next page
abbrev pub tried : Shape → History → Option ℕ → Tried
tried s h None = Done
tried s h (Some p) = if is_worth_split s h p then if nat_eq (pins h p) 0 then Split p else Pinned p else Used p

-- the result of a put back of these pages: the numbers of pages put back and dropped
abbrev pub back_reply : Shape → History → List ℕ → BackReply
back_reply s h ps = record { back = count_by (goes_back s h) ps; dropped = count_by (drops s h) ps }

abbrev pub takes_page : What → Bool
takes_page (Taken p) = true
takes_page _ = false

abbrev pub is_split_off : What → Bool
is_split_off (SplitOf p set) = true
is_split_off _ = false

abbrev pub is_pinned_found : What → Bool
is_pinned_found (PinnedOf p) = true
is_pinned_found _ = false

abbrev pub is_used_found : What → Bool
is_used_found (UsedOf p) = true
is_used_found _ = false

abbrev pub is_back : What → Bool
is_back (Back p) = true
is_back _ = false

abbrev pub drops_page : What → Bool
drops_page (Dropped p) = true
drops_page _ = false

-- the result of a scan: the number of events of each kind that it recorded
abbrev pub scan_reply : List Event → ScanReply
scan_reply es = record {
  taken = count_of takes_page es;
  split = count_of is_split_off es;
  pinned = count_of is_pinned_found es;
  back = count_of is_back es;
  dropped = count_of drops_page es;
  used = count_of is_used_found es;
}
