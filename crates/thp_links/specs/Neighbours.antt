-- The links with one side of a pair replaced. No public clause cites this module.
use Rattle.std.specs.Prelude.{ℕ, List, Option, Some, None, slice_get, slice_set}
use Rattle.thp_links.specs.declared.link.Link.{Link}
use Rattle.thp_links.specs.Standing.{between}

-- the links with the successor of i replaced, if i has this pair
abbrev pub next_replaced : List Link → ℕ → ℕ → Option Link → List Link
next_replaced ls i n None = ls
next_replaced ls i n (Some l) = slice_set ls i (between l.prev n)

-- the links with the predecessor of i replaced, if i has this pair
abbrev pub prev_replaced : List Link → ℕ → ℕ → Option Link → List Link
prev_replaced ls i p None = ls
prev_replaced ls i p (Some l) = slice_set ls i (between p l.next)

-- the links with the successor of i replaced, if i is an index
unfoldable pub with_next : List Link → ℕ → ℕ → List Link
with_next ls i n = next_replaced ls i n (slice_get ls i)

-- the links with the predecessor of i replaced, if i is an index
unfoldable pub with_prev : List Link → ℕ → ℕ → List Link
with_prev ls i p = prev_replaced ls i p (slice_get ls i)
