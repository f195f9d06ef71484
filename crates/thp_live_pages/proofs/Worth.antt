-- Whether a page is worth a split, by its counts.
use Rattle.std.proofs.Common.{◌≡◌, ℕ, Bool, cond, ◌||◌, ap, ap₂, ◌∙◌}
use Rattle.thp_history.specs.declared.shape.Shape.{Shape}
use Rattle.thp_history.specs.Prelude.{History, PageState, Tallies, is_split_candidate, zero_at, zero_count, count_below, subpages, is_above, is_worth_split, is_zero_filled, zero_filled}
use Rattle.thp_history.proofs.SumsBelow.{sum_below-ext}
use Rattle.thp_history.proofs.Tallying.{size_is}

-- as many subpages are zero-filled as the history says
pub zero_count_is : (s : Shape) (h : History) (p : ℕ) (t : PageState) → Tallies s h p t → zero_count t ≡ zero_filled s h p
zero_count_is s h p t m =
    ap (λ n. count_below n (zero_at t)) (size_is s h p t m)
    ∙ sum_below-ext (subpages s) (λ i. cond (zero_at t i) 1 0) (λ i. cond (is_zero_filled h p i) 1 0) (λ i below. ap (λ (z : Bool). cond z 1 0) (m.zero i below))

-- and the page is worth a split where the history says so
pub worth_is : (s : Shape) (h : History) (p : ℕ) (t : PageState) → Tallies s h p t → is_split_candidate s.underused t ≡ is_worth_split s h p
worth_is s h p t m = ap₂ (λ (a : Bool) (n : ℕ). a || is_above s.underused n) m.partly (zero_count_is s h p t m)
