-- What contracts see of a table that has nothing but its links.
use Rattle.std.specs.Prelude.{◌≡◌, ℕ, List}
use Rattle.thp_links.specs.declared.link.Link.{Link}
use Rattle.thp_links.specs.declared.link.TheConstants.{NIL}

-- the pair of each index, and the number of accesses so far
pub record LinkVecState : Type 0 where
  pub pairs : List Link
  pub accesses : ℕ

-- the index is not linked
pub record IsAlone (l : Link) : Type 0 where
  pub prev : l.prev ≡ NIL
  pub next : l.next ≡ NIL
