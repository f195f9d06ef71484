-- The refusals of the calls about a live page, by the page's state.
use Rattle.std.proofs.Common.{◌≡◌, ℕ, ◌+◌, ◌<◌, Bool, true, false, cond, not, ◌&&◌, ◌||◌, refl, ap, sym, ◌∙◌, nat_eq, nat_lt, ltb-true, Option, Some, None}
use Rattle.thp_history.specs.Prelude.{Refusal, Shape, covers, some_below, subpages, shrinks_underused, History, is_live, total, is_held, refusal, most, some_of, PageState, size, total_at, holds, some_in_range, page_refusal, Tallies}
use Rattle.thp_history.specs.declared.refusal.Refusal.TheVariants as reason
use Rattle.thp_history.specs.Refusals as call
use Rattle.thp_history.proofs.Below.{some_below-ext}
use Rattle.thp_history.proofs.Tallying.{size_is, total_is, whole_is, own_is, pins_is}

-- tests below the number of subpages, by the history and by the page
pub some_is : (shape : Shape) (h : History) (p : ℕ) (t : PageState) (f g : ℕ → Bool) → Tallies shape h p t → ((i : ℕ) → i < subpages shape → f i ≡ g i) →
    some_below (subpages shape) f ≡ some_below (size t) g
some_is shape h p t f g m e = some_below-ext (subpages shape) f g e ∙ ap (λ n. some_below n g) (sym (size_is shape h p t m))

-- a live page holds the frames that its state says
pub held_is : (shape : Shape) (h : History) (p i : ℕ) (t : PageState) → Tallies shape h p t → is_live h p ≡ true → is_held shape h p i ≡ holds t i
held_is shape h p i t m l =
    go _ _ _ _ _ (shrinks_underused shape) _ _ _ _ _ (λ y. total_is shape h p i t m (ltb-true i (subpages shape) y)) (λ y. m.zero i (ltb-true i (subpages shape) y))
    (ap (λ n. nat_lt i n) (sym (size_is shape h p t m))) l (sym m.split) m.freed_zero_frames where
      go : (x x' l s s' on g z z' : Bool) (u u' : ℕ) → (x ≡ true → u ≡ u') → (x ≡ true → z' ≡ z) → x ≡ x' → l ≡ true → s ≡ s' → (s' ≡ true → g ≡ on) →
          (x && (l && (not s || ((l && nat_lt 0 u) && not (on && z))))) ≡ (x' && (not s' || (nat_lt 0 u' && not (g && z'))))
      go true x' l s true on g z z' u u' a b d e f j = rw (sym d, e, f, j refl, a refl, b refl) refl
      go true x' l s false on g z z' u u' a b d e f j = rw (sym d, e, f) refl
      go false x' l s s' on g z z' u u' a b d e f j = rw (sym d) refl

-- a page that doesn't live holds nothing
pub held_gone : (shape : Shape) (h : History) (p i : ℕ) → is_live h p ≡ false → is_held shape h p i ≡ false
held_gone shape h p i l = go (nat_lt i (subpages shape)) _ _ l where
  go : (x l y : Bool) → l ≡ false → (x && (l && y)) ≡ false
  go true true y e = absurd (cc)
  go true false y e = refl
  go false l y e = refl

-- the first test, of a live page
live_first : (l : Bool) (x : Refusal) (r : Option Refusal) → l ≡ true → cond (not l) (Some x) r ≡ r
live_first true x r e = refl
live_first false x r e = absurd (cc)

-- whether a subpage's total is at the limit
full_is : (shape : Shape) (h : History) (p : ℕ) (t : PageState) → Tallies shape h p t → (i : ℕ) → i < subpages shape → nat_eq (total h p i) most ≡ nat_eq (total_at t i) most
full_is shape h p t m i below = ap (λ n. nat_eq n most) (total_is shape h p i t m below)

-- two tests that agree
two_tests : (a a' b b' : Bool) (x y : Refusal) → a ≡ a' → b ≡ b' → cond a (Some x) (cond b (Some y) None) ≡ cond a' (Some x) (cond b' (Some y) None)
two_tests a a' b b' x y e f = cc

-- three tests that agree
three_tests : (a a' b b' c c' : Bool) (x y z : Refusal) → a ≡ a' → b ≡ b' → c ≡ c' →
    cond a (Some x) (cond b (Some y) (cond c (Some z) None)) ≡ cond a' (Some x) (cond b' (Some y) (cond c' (Some z) None))
three_tests a a' b b' c c' x y z e f g = cc

-- one more mapping of the whole page
pub refusal_map_whole : (shape : Shape) (h : History) (p : ℕ) (t : PageState) → Tallies shape h p t → is_live h p ≡ true →
    refusal shape h (call.map_whole p) ≡ page_refusal t (call.map_whole p)
unfolding refusal page_refusal
refusal_map_whole shape h p t m l =
    live_first (is_live h p) reason.NoPage _ l
    ∙ two_tests _ _ _ _ reason.IsSplit reason.TooMany (sym m.split) (some_is shape h p t _ _ m (full_is shape h p t m))

-- one mapping of the whole page less
pub refusal_unmap_whole : (shape : Shape) (h : History) (p : ℕ) (t : PageState) → Tallies shape h p t → is_live h p ≡ true →
    refusal shape h (call.unmap_whole p) ≡ page_refusal t (call.unmap_whole p)
unfolding refusal page_refusal
refusal_unmap_whole shape h p t m l =
    live_first (is_live h p) reason.NoPage _ l
    ∙ two_tests _ _ _ _ reason.IsSplit reason.NotMapped (sym m.split) (ap (λ n. nat_eq n 0) (whole_is shape h p t m))

-- a split of a PMD mapping
pub refusal_split_pmd : (shape : Shape) (h : History) (p : ℕ) (t : PageState) → Tallies shape h p t → is_live h p ≡ true →
    refusal shape h (call.split_pmd p) ≡ page_refusal t (call.split_pmd p)
unfolding refusal page_refusal
refusal_split_pmd shape h p t m l =
    live_first (is_live h p) reason.NoPage _ l
    ∙ two_tests _ _ _ _ reason.IsSplit reason.NotMapped (sym m.split) (ap (λ n. nat_eq n 0) (whole_is shape h p t m))

-- whether a range is one of the page
bad_range_is : (shape : Shape) (h : History) (p first count : ℕ) (t : PageState) → Tallies shape h p t →
    (nat_eq count 0 || nat_lt (subpages shape) (first + count)) ≡ (nat_eq count 0 || nat_lt (size t) (first + count))
bad_range_is shape h p first count t m = ap (λ n. nat_eq count 0 || nat_lt n (first + count)) (sym (size_is shape h p t m))

-- a test of some subpage of a range
some_of_is : (shape : Shape) (h : History) (p first count : ℕ) (t : PageState) (f g : ℕ → Bool) → Tallies shape h p t → ((i : ℕ) → i < subpages shape → f i ≡ g i) →
    some_of shape first count f ≡ some_in_range t first count g
some_of_is shape h p first count t f g m e = some_is shape h p t _ _ m (λ i below. ap (λ b. covers first count i && b) (e i below))

-- one more mapping of a range
pub refusal_map_sub : (shape : Shape) (h : History) (p first count : ℕ) (t : PageState) → Tallies shape h p t → is_live h p ≡ true →
    refusal shape h (call.map_sub p first count) ≡ page_refusal t (call.map_sub p first count)
unfolding refusal page_refusal
refusal_map_sub shape h p first count t m l =
    live_first (is_live h p) reason.NoPage _ l
    ∙ three_tests _ _ _ _ _ _ reason.BadRange reason.Gone reason.TooMany (bad_range_is shape h p first count t m)
    (both _ _ _ _ (sym m.split) (some_of_is shape h p first count t _ _ m (λ i below. ap not (held_is shape h p i t m l))))
    (some_of_is shape h p first count t _ _ m (full_is shape h p t m)) where
      both : (a a' b b' : Bool) → a ≡ a' → b ≡ b' → (a && b) ≡ (a' && b')
      both a a' b b' e f = cc

-- one mapping of a range less
pub refusal_unmap_sub : (shape : Shape) (h : History) (p first count : ℕ) (t : PageState) → Tallies shape h p t → is_live h p ≡ true →
    refusal shape h (call.unmap_sub p first count) ≡ page_refusal t (call.unmap_sub p first count)
unfolding refusal page_refusal
refusal_unmap_sub shape h p first count t m l =
    live_first (is_live h p) reason.NoPage _ l
    ∙ two_tests _ _ _ _ reason.BadRange reason.NotMapped (bad_range_is shape h p first count t m)
    (some_of_is shape h p first count t _ _ m (λ i below. ap (λ n. nat_eq n 0) (own_is shape h p i t m below)))

-- whether a subpage is mapped
unmapped_is : (shape : Shape) (h : History) (p : ℕ) (t : PageState) → Tallies shape h p t → (i : ℕ) → i < subpages shape → nat_eq (total h p i) 0 ≡ nat_eq (total_at t i) 0
unmapped_is shape h p t m i below = ap (λ n. nat_eq n 0) (total_is shape h p i t m below)

-- a write of data to a range
pub refusal_write : (shape : Shape) (h : History) (p first count : ℕ) (t : PageState) → Tallies shape h p t → is_live h p ≡ true →
    refusal shape h (call.write p first count) ≡ page_refusal t (call.write p first count)
unfolding refusal page_refusal
refusal_write shape h p first count t m l =
    live_first (is_live h p) reason.NoPage _ l
    ∙ three_tests _ _ _ _ _ _ reason.BadRange reason.IsSplit reason.NotMapped (bad_range_is shape h p first count t m) (sym m.split)
    (some_of_is shape h p first count t _ _ m (unmapped_is shape h p t m))

-- a write of zeros to a range
pub refusal_zero : (shape : Shape) (h : History) (p first count : ℕ) (t : PageState) → Tallies shape h p t → is_live h p ≡ true →
    refusal shape h (call.zero_fill p first count) ≡ page_refusal t (call.zero_fill p first count)
unfolding refusal page_refusal
refusal_zero shape h p first count t m l =
    live_first (is_live h p) reason.NoPage _ l
    ∙ three_tests _ _ _ _ _ _ reason.BadRange reason.IsSplit reason.NotMapped (bad_range_is shape h p first count t m) (sym m.split)
    (some_of_is shape h p first count t _ _ m (unmapped_is shape h p t m))

-- one more pin
pub refusal_pin : (shape : Shape) (h : History) (p : ℕ) (t : PageState) → Tallies shape h p t → is_live h p ≡ true →
    refusal shape h (call.pin p) ≡ page_refusal t (call.pin p)
unfolding refusal page_refusal
refusal_pin shape h p t m l =
    live_first (is_live h p) reason.NoPage _ l
    ∙ two_tests _ _ _ _ reason.IsSplit reason.TooMany (sym m.split) (ap (λ n. nat_eq n most) (pins_is shape h p t m))

-- one pin less
pub refusal_unpin : (shape : Shape) (h : History) (p : ℕ) (t : PageState) → Tallies shape h p t → is_live h p ≡ true →
    refusal shape h (call.unpin p) ≡ page_refusal t (call.unpin p)
unfolding refusal page_refusal
refusal_unpin shape h p t m l =
    live_first (is_live h p) reason.NoPage _ l
    ∙ two_tests _ _ _ _ reason.IsSplit reason.NotPinned (sym m.split) (ap (λ n. nat_eq n 0) (pins_is shape h p t m))
