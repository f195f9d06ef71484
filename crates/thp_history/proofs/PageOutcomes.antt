-- The outcome of an unmap or an unpin and the frames that an event gives back, by the page's state before and after.
use Rattle.std.proofs.Common.{◌≡◌, ℕ, ◌<◌, Bool, true, false, not, ◌&&◌, ◌||◌, [], ◌∷◌, ◌++◌, refl, ap, sym, ◌∙◌, arith, nat_eq, nat_lt, ltb-true, eq-eqb}
use Rattle.thp_history.specs.Prelude.{Event, Outcome, Shape, has, subpages, History, is_live, is_closed, is_freed, is_used, is_mapped, loses_use, total, allocates, frees, shrinks_underused, stands, outcome, released, Gives, unused, PageState, size, total_at, has_use, drops_use, gives_frames, Tallies, PageSplit, page_outcome, page_released}
use Rattle.thp_history.proofs.Bools.{by_bool}
use Rattle.thp_history.proofs.PageRefusals.{some_is, held_is, held_gone}
use Rattle.thp_history.proofs.Pushes.{some_same, some_event_push}
use Rattle.thp_history.proofs.Tallying.{total_is, pins_is, size_is, same_size}
use Rattle.thp_history.proofs.WordLemmas.{set_of-ext}

-- whether the page has a subpage in use
pub mapped_is : (shape : Shape) (h : History) (p : ℕ) (t : PageState) → Tallies shape h p t → is_mapped shape h p ≡ has_use t
mapped_is shape h p t m = some_is shape h p t _ _ m (λ i below. ap (λ n. nat_lt 0 n) (total_is shape h p i t m below))

-- whether a subpage went out of use
pub loses_is : (shape : Shape) (h k : History) (p : ℕ) (old new : PageState) → Tallies shape h p old → Tallies shape k p new → loses_use shape h k p ≡ drops_use old new
loses_is shape h k p old new a b = grind (arith, some_is, total_is, nat_lt, nat_eq)

-- the outcome of what makes of h the history k
pub outcome_is : (shape : Shape) (h k : History) (p : ℕ) (old new : PageState) → Tallies shape h p old → Tallies shape k p new →
    outcome shape h k p ≡ page_outcome old new (is_closed h) (stands shape h p)
outcome_is shape h k p old new a b = grind (arith, mapped_is, pins_is, loses_is, nat_eq)

-- a live page lives on unless the event frees it
pub lives_on : (h : History) (e : Event) (p : ℕ) → is_live h p ≡ true → allocates p e.what ≡ false → is_live (h ++ e ∷ []) p ≡ not (frees p e.what)
lives_on h e p l a = grind (arith, some_same, some_event_push)

-- what is given back where the page lives on, and where it is freed
pub released_is : (shape : Shape) (h k : History) (p : ℕ) (o : Outcome) (old new : PageState) → Tallies shape h p old → Tallies shape k p new → is_live h p ≡ true →
    is_live k p ≡ not (is_freed o) → released shape h k p ≡ page_released old new o
released_is shape h k p o old new a b l after = grind (arith, set_of-ext, by_bool, held_gone, held_is)

-- what is given back by an event that doesn't free the page
pub released_alive : (shape : Shape) (h k : History) (p : ℕ) (old new : PageState) → Tallies shape h p old → Tallies shape k p new → is_live h p ≡ true → is_live k p ≡ true →
    released shape h k p ≡ gives_frames old new
released_alive shape h k p old new a b l after = grind (arith, set_of-ext, held_is)

-- a split of a page gives back the frames of its subpages that aren't in use
pub unused_is : (shape : Shape) (h : History) (p : ℕ) (old new : PageState) → Tallies shape h p old → is_live h p ≡ true → old.split ≡ false → PageSplit (shrinks_underused shape) old new →
    unused shape h p ≡ gives_frames old new
unused_is shape h p old new m l s w =
    set_of-ext _ _ (λ i below. by_bool (nat_lt i (subpages shape)) _
    (λ y. yes (nat_lt i (subpages shape)) (nat_lt i (size old)) (nat_lt i (size new)) (is_live h p) old.split new.split _ _ _ _ _ _ _ _ y (inside i) (inside' i) l s w.split
    (total_is shape h p i old m (ltb-true i (subpages shape) y)) (same i (ltb-true i (subpages shape) y)) w.freed_zero_frames (ap (λ z. has z i) w.zero ∙ m.zero i (ltb-true i (subpages shape) y)))
    (λ y. no (nat_lt i (subpages shape)) (nat_lt i (size old)) _ _ _ y (inside i))) where
      inside : (i : ℕ) → nat_lt i (subpages shape) ≡ nat_lt i (size old)
      inside i = ap (λ n. nat_lt i n) (sym (size_is shape h p old m))

      inside' : (i : ℕ) → nat_lt i (size old) ≡ nat_lt i (size new)
      inside' i = ap (λ n. nat_lt i n) (same_size old new (sym w.order))

      same : (i : ℕ) → i < subpages shape → total_at new i ≡ total_at old i
      same i below = omega (arith, w.whole, w.own i (omega (arith, size_is shape h p old m)))

      yes : (x x' x'' l s s' : Bool) (u v v' : ℕ) (on gave z z' q : Bool) → x ≡ true → x ≡ x' → x' ≡ x'' → l ≡ true → s ≡ false → s' ≡ true → u ≡ v → v' ≡ v → gave ≡ on → z' ≡ z →
          (x && not ((l && nat_lt 0 u) && not (on && z))) ≡ ((x' && (not s || q)) && not (x'' && (not s' || (nat_lt 0 v' && not (gave && z')))))
      yes x x' x'' l s s' u v v' on gave z z' q a b c d e f g h j k = rw (sym c, sym b, a, d, e, f, g, h, j, k) refl

      no : (x x' y z z' : Bool) → x ≡ false → x ≡ x' → (x && y) ≡ ((x' && z) && not z')
      no x x' y z z' e f = cc

-- after an unmap or an unpin the page lives unless that freed it
pub lives_by : (h : History) (e : Event) (p : ℕ) (o : Outcome) → is_live h p ≡ true → allocates p e.what ≡ false → frees p e.what ≡ (nat_eq p p && is_freed o) →
    is_live (h ++ e ∷ []) p ≡ not (is_freed o)
lives_by h e p o l a f = lives_on h e p l a ∙ ap not (f ∙ ap (λ b. b && is_freed o) (eq-eqb p p refl))

-- the outcome and the frames that an event must name
pub gives_is : (shape : Shape) (h k : History) (p : ℕ) (o : Outcome) (old new : PageState) → Tallies shape h p old → Tallies shape k p new → is_live h p ≡ true →
    is_live k p ≡ not (is_freed o) → o ≡ page_outcome old new (is_closed h) (stands shape h p) → Gives shape h k p o (page_released old new o)
gives_is shape h k p o old new a b l after e = grind (arith, outcome_is, released_is)

-- whether a subpage of a live page is in use
pub used_is : (shape : Shape) (h : History) (p i : ℕ) (t : PageState) → Tallies shape h p t → is_live h p ≡ true → i < subpages shape → is_used h p i ≡ nat_lt 0 (total_at t i)
used_is shape h p i t m l below = ap (λ b. b && nat_lt 0 (total h p i)) l ∙ ap (λ n. nat_lt 0 n) (total_is shape h p i t m below)
