-- The view that contracts have of a table of page descriptors.
use Rattle.std.specs.Prelude.{◌≡◌, ℕ, List, Option}
use Rattle.thp_links.specs.declared.link.Link.{Link}
use Rattle.thp_history.specs.Prelude.{PageState}
use Rattle.thp_page.specs.declared.standing.Standing.{Standing}

-- the content of a block in use: a page, its number, and the list that it is on
pub record Slot : Type 0 where
  pub id : ℕ
  pub page : PageState
  pub standing : Standing

-- a table: the order of its pages, and for each block a link pair, and a slot if the block is in use
pub record Table : Type 0 where
  pub order : ℕ
  pub links : List Link
  pub slots : List (Option Slot)
  pub accesses : ℕ

-- everything except links and accesses is unchanged
pub record SameSlots (old new : Table) : Type 0 where
  pub order : new.order ≡ old.order
  pub slots : new.slots ≡ old.slots
