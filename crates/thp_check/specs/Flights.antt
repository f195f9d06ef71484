-- The view that contracts have of the flights of a replay. No public clause cites this module.
use Rattle.std.specs.Prelude.{◌≡◌, ℕ, ◌%◌, cond, nat_eq, List, [], length, slice_index_or, Option, Some, None, filter, Contains}
use Rattle.thp_links.specs.declared.link.Link.{Link}
use Rattle.thp_links.specs.Prelude.{without_index, Stands}

-- the caller of each block, and 4096 lists of blocks by caller
pub record FlightsState : Type 0 where
  pub callers : List ℕ
  pub lists : List (List ℕ)

abbrev pub caller_at : List ℕ → ℕ → ℕ
caller_at cs b = slice_index_or cs b 0

abbrev pub list_at : List (List ℕ) → ℕ → List ℕ
list_at ls k = slice_index_or ls k []

-- the blocks of the pages that caller c has in flight, in the order of the takes
unfoldable pub blocks_in : FlightsState → ℕ → List ℕ
blocks_in f c = filter (λ b. nat_eq (caller_at f.callers b) c) (list_at f.lists (c % 4096))

-- the flight of caller d after block b, or page b, has left that of this caller, if any
abbrev pub flight_left : Option ℕ → ℕ → ℕ → List ℕ → List ℕ
flight_left None b d bs = bs
flight_left (Some c) b d bs = cond (nat_eq c d) (without_index b bs) bs

-- the links hold the lists, each with blocks of its own callers only
pub record AreLinked (callers : List ℕ) (lists : List (List ℕ)) (ls : List Link) : Type 0 where
  pub sizes : length callers ≡ length ls
  pub count : length lists ≡ 4096
  pub each_stands : (k : ℕ) → Stands (list_at lists k) ls
  pub own : (k b : ℕ) → Contains (list_at lists k) b → caller_at callers b % 4096 ≡ k
