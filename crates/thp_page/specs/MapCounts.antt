-- The meaning of the fields of a page's own map counts, and their invariant.
use Rattle.std.specs.Prelude.{◌≡◌, ◌≤◌, ℕ, List, nat_lt}
use Rattle.thp_history.specs.Prelude.{set_of}
use Rattle.thp_page.specs.Planes.{counts_in, count_in}
use Rattle.thp_page.specs.declared.map_counts.MapCounts.TheInside.{Inside}

-- the counts: only the first planes are in use
abbrev pub counts_of : Inside → List ℕ
counts_of c = counts_in c.planes.sets c.planes.used

-- at most sixteen planes are in use, and the additional set has the subpages whose count is not 0
pub record PlanesAgree (c : Inside) : Type 0 where
  pub most : c.planes.used ≤ 16
  pub mapped : c.mapped ≡ set_of (λ i. nat_lt 0 (count_in c.planes.sets c.planes.used i))
