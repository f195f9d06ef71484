-- Which subpages are in use, which go out of use, and which frames that gives back.
use Rattle.std.proofs.Common.{◌≡◌, ◌≢◌, ℕ, ◌+◌, ◌^◌, ◌<◌, ◌≤◌, Bool, true, false, not, ◌&&◌, ◌||◌, cond, nat_eq, nat_lt, List, refl, ap, ap₂, sym, ◌∙◌, arith, inl, inr}
use Rattle.std.proofs.lemmas.Bool.Decides.{nat_tests}
use Rattle.std.proofs.lemmas.Bool.{cases_lt}
use Rattle.thp_history.specs.Prelude.{covers, set_of, has, some_below, get_or-set_of, PageState, size, own_at, total_at, holds, used_set, has_use, drops_use, gives_frames, zero_at, zero_set, WholeUnmapped, RangeUnmapped, PageSplit}
use Rattle.thp_history.specs.Pages.{Pinned}
use Rattle.thp_page.specs.Prelude.{IsChange, split_set, NothingAfter, some_count}
use Rattle.thp_history.proofs.Below.{some_yes, some_no, some_below-ext}
use Rattle.thp_page.proofs.Trailing.{mapped_inside}
use Rattle.thp_page.proofs.SubSets.{set_of-ext}
use Rattle.thp_page.proofs.PageSizes.{size_least, size_most, range_test, same_size}

-- a page that is mapped whole is in use
pub has_use-mapped : (t : PageState) → 2 ≤ t.order → 0 < t.whole → has_use t ≡ true
has_use-mapped t least mapped =
    some_yes (size t) (λ i. nat_lt 0 (total_at t i)) 0 (omega (arith, size_least t least)) (go t.whole (own_at t 0) mapped) where
      go : (w x : ℕ) → 0 < w → nat_lt 0 (w + x) ≡ true
      go w x h = grind (arith, nat_tests)

-- another is where a subpage has a mapping of its own
pub has_use-unmapped : (t : PageState) → t.whole ≡ 0 → has_use t ≡ some_below (size t) (λ i. nat_lt 0 (own_at t i))
has_use-unmapped t unmapped = grind (arith, some_below-ext, nat_lt, nat_tests)

-- the last whole mapping goes: a subpage goes out of use where not each has a mapping of its own
pub drops_use-last : (t u : PageState) → WholeUnmapped t u → t.whole ≡ 1 → drops_use t u ≡ some_below (size t) (λ i. nat_eq (own_at t i) 0)
drops_use-last t u r last = grind (arith, some_below-ext, nat_lt, nat_eq, nat_tests)

-- a whole mapping is left: no subpage goes out of use
pub drops_use-mapped : (t u : PageState) → 0 < u.whole → drops_use t u ≡ false
drops_use-mapped t u mapped = grind (arith, some_no, nat_lt, nat_eq, nat_tests)

-- no whole mapping, and one mapping of each subpage of a range goes: those that had just one go out of use
pub drops_use-range : (t u : PageState) (first count : ℕ) → t.order ≤ 9 → RangeUnmapped first count t u → first + count ≤ size t → t.whole ≡ 0 →
    drops_use t u ≡ some_count t.own first count (λ x. nat_eq x 1)
drops_use-range t u first count most r inside unmapped =
    some_below-ext (size t) (λ i. nat_lt 0 (total_at t i) && nat_eq (total_at u i) 0) (λ i. covers first count i && nat_eq (own_at t i) 1)
    (λ i below. go t.whole u.whole (own_at t i) (own_at u i) (covers first count i) unmapped (sym r.whole) (r.own i below))
    ∙ range_test (size t) first count (λ i. nat_eq (own_at t i) 1) inside (size_most t most) where
      go : (w v x y : ℕ) (b : Bool) → w ≡ 0 → w ≡ v → x ≡ y + cond b 1 0 → (nat_lt 0 (w + x) && nat_eq (v + y) 0) ≡ (b && nat_eq x 1)
      go w v x y true e f g = grind (arith, nat_tests)
      go w v x y false e f g = grind (arith, nat_tests)

-- a page that isn't split gives back nothing
pub gives_frames-unsplit : (t u : PageState) → u.order ≡ t.order → t.split ≡ false → u.split ≡ false → gives_frames t u ≡ set_of (λ i. false)
gives_frames-unsplit t u order whole still = grind (arith, set_of-ext, nat_lt, same_size)

-- a split page gives back the frames of the subpages of the range that have no mapping any more, but those that its split gave
pub gives_frames-range : (t u : PageState) (first count : ℕ) (bare : List Bool) → RangeUnmapped first count t u → first + count ≤ size t → t.split ≡ true → t.whole ≡ 0 →
    bare ≡ set_of (λ i. covers first count i && nat_eq (own_at u i) 0) → gives_frames t u ≡ set_of (λ i. has bare i && not (u.freed_zero_frames && zero_at u i))
gives_frames-range t u first count bare r inside split unmapped is =
    set_of-ext (λ i. holds t i && not (holds u i)) (λ i. has bare i && not (u.freed_zero_frames && zero_at u i))
    (λ i short.
    elim (cases_lt i (size t)) [
      | inl below ↦
          let long : size u ≡ size t = same_size t u r.order in
          let given : (u.freed_zero_frames && zero_at u i) ≡ (t.freed_zero_frames && zero_at t i) = ap₂ (λ a z. a && has z i) r.kept.freed_zero_frames r.kept.zero in
          here i (size t) (size u) t.split u.split t.whole u.whole (own_at t i) (own_at u i) (covers first count i) (t.freed_zero_frames && zero_at t i) (u.freed_zero_frames && zero_at u i)
          below long split (r.split ∙ split) unmapped (sym r.whole) (r.own i below) given
      | inr above ↦
          there i (size t) first count (not t.split || (nat_lt 0 (total_at t i) && not (t.freed_zero_frames && zero_at t i))) (not (holds u i)) (nat_eq (own_at u i) 0) (not (u.freed_zero_frames && zero_at u i)) above inside
    ]
    ∙ ap (λ b. b && not (u.freed_zero_frames && zero_at u i)) (sym (ap (λ s. has s i) is ∙ get_or-set_of (λ j. covers first count j && nat_eq (own_at u j) 0) i short))) where
      here : (i n m : ℕ) (s v : Bool) (w x y z : ℕ) (b g g' : Bool) → i < n → m ≡ n → s ≡ true → v ≡ true → w ≡ 0 → w ≡ x → y ≡ z + cond b 1 0 → g' ≡ g →
          ((nat_lt i n && (not s || (nat_lt 0 (w + y) && not g))) && not (nat_lt i m && (not v || (nat_lt 0 (x + z) && not g')))) ≡ ((b && nat_eq z 0) && not g')
      here i n m s v w x y z true true g' below long e f unmapped same g same_given = grind (arith, nat_tests)
      here i n m s v w x y z true false g' below long e f unmapped same g same_given = grind (arith, nat_tests)
      here i n m s v w x y z false true g' below long e f unmapped same g same_given = grind (arith, nat_tests)
      here i n m s v w x y z false false g' below long e f unmapped same g same_given = grind (arith, nat_tests)

      there : (i n first count : ℕ) (a b c d : Bool) → n ≤ i → first + count ≤ n → ((nat_lt i n && a) && b) ≡ ((covers first count i && c) && d)
      there i n first count a b c d above inside = grind (arith, nat_tests)

-- a page that is split gives back the frames of the subpages that aren't in use, and of zero-filled ones where it is to
pub gives_frames-split : (give : Bool) (t u : PageState) → PageSplit give t u → t.split ≡ false → gives_frames t u ≡ split_set give t
gives_frames-split give t u r whole = grind (arith, set_of-ext, nat_lt, cases_lt, same_size, nat_tests)

-- the subpages that no entry maps
abbrev pub unused_set : PageState → List Bool
unused_set t = set_of (λ i. nat_lt i (size t) && not (nat_lt 0 (total_at t i)))

-- they are what a split gives back that gives no zeros
pub split_set-none : (t : PageState) → unused_set t ≡ split_set false t
split_set-none t = grind (arith, set_of-ext, nat_lt)

-- another gives back the zero-filled ones too
pub split_set-zeros : (t : PageState) (unused : List Bool) → unused ≡ unused_set t → t.zero ≡ zero_set t → set_of (λ i. has unused i || has t.zero i) ≡ split_set true t
split_set-zeros t unused is inside =
    set_of-ext (λ i. has unused i || has t.zero i) (λ i. nat_lt i (size t) && (not (nat_lt 0 (total_at t i)) || (true && zero_at t i)))
    (λ i short.
    ap (λ b. b || has t.zero i) (ap (λ s. has s i) is ∙ get_or-set_of (λ j. nat_lt j (size t) && not (nat_lt 0 (total_at t j))) i short)
    ∙ go (nat_lt i (size t)) (nat_lt 0 (total_at t i)) (zero_at t i) (ap (λ s. has s i) inside ∙ get_or-set_of (λ j. nat_lt j (size t) && zero_at t j) i short)) where
      go : (a b z : Bool) → z ≡ (a && z) → ((a && not b) || z) ≡ (a && (not b || (true && z)))
      go true true z e = refl
      go true false z e = refl
      go false b z e = e

-- the subpages that aren't in use: those without mappings of their own where the page isn't mapped whole, else none
pub unused_set-unmapped : (t : PageState) (all mapped : List Bool) → t.whole ≡ 0 → all ≡ set_of (λ i. nat_lt i (2 ^ t.order)) → mapped ≡ set_of (λ i. nat_lt 0 (own_at t i)) →
    set_of (λ i. has all i && not (has mapped i)) ≡ unused_set t
unfolding size
unused_set-unmapped t all mapped unmapped e f =
    set_of-ext (λ i. has all i && not (has mapped i)) (λ i. nat_lt i (size t) && not (nat_lt 0 (total_at t i)))
    (λ i short.
    ap₂ (λ a b. a && not b) (ap (λ s. has s i) e ∙ get_or-set_of (λ j. nat_lt j (2 ^ t.order)) i short) (ap (λ s. has s i) f ∙ get_or-set_of (λ j. nat_lt 0 (own_at t j)) i short)
    ∙ go (nat_lt i (2 ^ t.order)) t.whole (own_at t i) unmapped) where
      go : (b : Bool) (w x : ℕ) → w ≡ 0 → (b && not (nat_lt 0 x)) ≡ (b && not (nat_lt 0 (w + x)))
      go b w x e = grind (arith, nat_tests)

pub unused_set-mapped : (t : PageState) → t.whole ≢ 0 → set_of (λ i. false) ≡ unused_set t
unused_set-mapped t mapped = grind (arith, set_of-ext, nat_lt, nat_tests)

-- each subpage of a page that is mapped whole is in use
pub used_set-mapped : (t : PageState) → 0 < t.whole → set_of (λ i. nat_lt i (2 ^ t.order)) ≡ used_set t
unfolding size
used_set-mapped t mapped = grind (arith, set_of-ext, nat_lt, nat_tests)

-- the subpages of another page that are in use are those that have a mapping of their own
pub used_set-unmapped : (t : PageState) (mapped : List Bool) → NothingAfter t → t.whole ≡ 0 → mapped ≡ set_of (λ i. nat_lt 0 (own_at t i)) → mapped ≡ used_set t
used_set-unmapped t mapped none unmapped e = grind (arith, set_of-ext, nat_lt, mapped_inside, nat_tests)

same_sizes : (a b : PageState) → a.order ≡ b.order → size a ≡ size b
unfolding size
same_sizes a b e = ap (λ n. 2 ^ n) e

neither : (a b : ℕ) → a ≡ b → (nat_lt 0 a && nat_eq b 0) ≡ false
neither a b e = grind (arith, nat_tests)

same_use : (x x' s s' g g' z z' : Bool) (a b : ℕ) → x ≡ x' → s ≡ s' → g ≡ g' → z ≡ z' → (x ≡ true → a ≡ b) →
    (x && (not s || (nat_lt 0 a && not (g && z)))) ≡ (x' && (not s' || (nat_lt 0 b && not (g' && z'))))
same_use x y s s' g g' z z' a b e f i j t = grind (arith, nat_lt)

below_size : (i n : ℕ) → nat_lt i n ≡ true → i < n
below_size i n e = grind (arith, nat_tests)

-- an unpin changes the use of no subpage
pub unpin_change : (old new : PageState) (used : Bool) (none : List Bool) → Pinned new old → used ≡ has_use new → none ≡ set_of (λ i. false) →
    IsChange old new (record { unused = false; used_left = used; released = none })
unpin_change old new used none p u n = grind (arith, some_no, neither, set_of-ext, same_sizes, same_use, nat_lt, below_size)
