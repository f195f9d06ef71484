-- The view that contracts have of a page, and the invariant of its fields.
use Rattle.std.specs.Prelude.{◌≡◌, ◌<◌, ◌≤◌, ℕ}
use Rattle.thp_history.specs.Prelude.{max_subpages, PageState, IsPage, size, own_at, zero_set}
use Rattle.thp_page.specs.declared.page.Page.TheInside.{Inside}

-- the state that the fields of a page represent
abbrev pub state_of : Inside → PageState
state_of p = record {
  order = p.order;
  whole = p.whole;
  own = p.own;
  pins = p.pins;
  split = p.split;
  zero = p.zero;
  partly = p.partly;
  freed_zero_frames = p.freed_zero_frames;
}

-- no subpage beyond the page's last has a mapping of its own
abbrev pub NothingAfter : PageState → Type 0
NothingAfter t = (i : ℕ) → size t ≤ i → i < max_subpages → own_at t i ≡ 0

-- the fields represent a page, and nothing beyond its last subpage is mapped or zero-filled
pub record FieldsAgree (p : Inside) : Type 0 where
  pub page : IsPage (state_of p)
  pub behind : NothingAfter (state_of p)
  pub zero_inside : p.zero ≡ zero_set (state_of p)
