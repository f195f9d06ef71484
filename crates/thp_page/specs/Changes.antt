-- The results of a page's calls.
use Rattle.std.specs.Prelude.{◌≡◌, Bool, not, ◌&&◌, ◌||◌, nat_lt, List}
use Rattle.thp_history.specs.Prelude.{set_of, PageState, size, total_at, zero_at, drops_use, has_use, gives_frames}
use Rattle.thp_page.specs.declared.page.Change.{Change}

-- the change that an unmap reports, from one state of its page to another
pub record IsChange (old new : PageState) (change : Change) : Type 0 where
  pub unused : change.unused ≡ drops_use old new
  pub used_left : change.used_left ≡ has_use new
  pub released : change.released ≡ gives_frames old new

-- the subpages whose frames a split gives back: those that no entry maps, and the zero-filled ones if it gives zeros
abbrev pub split_set : Bool → PageState → List Bool
split_set give_zero t = set_of (λ i. nat_lt i (size t) && (not (nat_lt 0 (total_at t i)) || (give_zero && zero_at t i)))
