-- A page that was just allocated.
use Rattle.std.specs.Prelude.{ℕ, ◌^◌, false, nat_lt, replicate}
use Rattle.thp_history.specs.Prelude.{max_subpages, set_of, PageState}

-- a new page of this order: mapped whole once, with room for 512 own counts, and all zero-filled
abbrev pub fresh_page : ℕ → PageState
fresh_page order = record {
  order = order;
  whole = 1;
  own = replicate max_subpages 0;
  pins = 0;
  split = false;
  zero = set_of (λ i. nat_lt i (2 ^ order));
  partly = false;
  freed_zero_frames = false;
}
