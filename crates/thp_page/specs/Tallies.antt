-- The counts that planes represent.
use Rattle.std.specs.Prelude.{ℕ}
use Rattle.thp_page.specs.Planes.{count_in}
use Rattle.thp_page.specs.declared.planes.Planes.{Planes}

-- the count of subpage i
abbrev pub tally : Planes → ℕ → ℕ
tally p i = count_in p.sets p.used i
