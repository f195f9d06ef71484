-- Nothing behind a page's last subpage is mapped, as mappings come and go.
use Rattle.std.proofs.Common.{◌≡◌, ℕ, ◌+◌, ◌^◌, ◌<◌, ◌≤◌, Bool, false, cond, nat_lt, List, ◌&&◌, ap, ◌∙◌, arith}
use Rattle.std.proofs.lemmas.Bool.{cases_lt}
use Rattle.std.proofs.lemmas.Bool.Decides.{nat_tests}
use Rattle.thp_history.specs.Prelude.{covers, has, set_of, some_below, get_or-set_of, PageState, size, own_at}
use Rattle.thp_page.specs.Prelude.{NothingAfter}
use Rattle.thp_page.proofs.SomeBelow.{some_below-same}
use Rattle.thp_page.proofs.RangeLemmas.{covers_after}
use Rattle.thp_page.proofs.PageSizes.{same_size, size_most}

-- the same counts
pub behind-same : (t u : PageState) → u.order ≡ t.order → ((i : ℕ) → own_at u i ≡ own_at t i) → NothingAfter t → NothingAfter u
behind-same t u order same none = λ i above short. same i ∙ none i (omega (arith, above, same_size t u order)) short

-- a mapping more or less of each subpage of a range
pub behind-map : (t u : PageState) (first count : ℕ) → u.order ≡ t.order → first + count ≤ size t →
    ((i : ℕ) → i < 512 → own_at u i ≡ own_at t i + cond (covers first count i) 1 0) → NothingAfter t → NothingAfter u
behind-map t u first count order inside added none = grind (arith, covers_after, same_size)

pub behind-unmap : (t u : PageState) (first count : ℕ) → u.order ≡ t.order →
    ((i : ℕ) → i < 512 → own_at t i ≡ own_at u i + cond (covers first count i) 1 0) → NothingAfter t → NothingAfter u
behind-unmap t u first count order taken none = grind (arith, same_size)

-- mappings more of each subpage of the page
pub behind-split : (t u : PageState) (all : List Bool) (n : ℕ) → u.order ≡ t.order → all ≡ set_of (λ i. nat_lt i (2 ^ t.order)) →
    ((i : ℕ) → i < 512 → own_at u i ≡ own_at t i + cond (has all i) n 0) → NothingAfter t → NothingAfter u
unfolding size
behind-split t u all n order is added none = λ i above short.
    go (own_at u i) (own_at t i) (has all i) (added i short)
    (ap (λ s. has s i) is ∙ get_or-set_of (λ j. nat_lt j (2 ^ t.order)) i short ∙ not_below i (2 ^ t.order) (omega (arith, above, ap (λ m. 2 ^ m) order)))
    (none i (omega (arith, above, ap (λ m. 2 ^ m) order)) short) where
      go : (x y : ℕ) (b : Bool) → x ≡ y + cond b n 0 → b ≡ false → y ≡ 0 → x ≡ 0
      go x y b e f g = omega (arith, e ∙ ap (λ c. y + cond c n 0) f, g)

      not_below : (i m : ℕ) → m ≤ i → nat_lt i m ≡ false
      not_below i m h = grind (arith, nat_tests)

zero_is : (n : ℕ) → n ≡ 0 → nat_lt 0 n ≡ false
zero_is n e = grind (arith, nat_tests)

-- so some subpage is mapped where one of the page's is
pub some_inside : (t : PageState) → t.order ≤ 9 → NothingAfter t → some_below 512 (λ i. nat_lt 0 (own_at t i)) ≡ some_below (size t) (λ i. nat_lt 0 (own_at t i))
some_inside t most none = grind (arith, some_below-same, nat_lt, cases_lt, zero_is, size_most)

-- and the mapped subpages are subpages of the page
pub mapped_inside : (t : PageState) (i : ℕ) → NothingAfter t → i < 512 → nat_lt 0 (own_at t i) ≡ (nat_lt i (size t) && nat_lt 0 (own_at t i))
mapped_inside t i none short = grind (arith, cases_lt, nat_lt, nat_tests)
