-- Pages are numbered in the order of their allocation: one that isn't allocated yet had no event.
use Rattle.std.proofs.Common.{◌≡◌, ℕ, ◌<◌, ◌≤◌, Bool, true, false, not, ◌&&◌, [], ◌∷◌, ◌++◌, ◌∙◌, arith, nat_eq, inl, inr, ne_eqb}
use Rattle.std.proofs.lemmas.Bool.{cases_lt}
use Rattle.thp_history.specs.Prelude.{Event, Shape, History, count_of, some_event, maps, unmaps, maps_whole, unmaps_whole, pins_page, unpins_page, is_live, allocates, frees, splits, allocations, is_partly_mapped}
use Rattle.thp_history.proofs.Pushes.{count_same, some_same, partly_stays, is_partly_mapped_none}
use Rattle.thp_history.proofs.Untouched.{Untouched}

-- page p had no event
pub record Fresh (h : History) (p : ℕ) : Type 0 where
  pub no_maps : (i : ℕ) → count_of (maps p i) h ≡ 0
  pub no_unmaps : (i : ℕ) → count_of (unmaps p i) h ≡ 0
  pub no_maps_whole : count_of (maps_whole p) h ≡ 0
  pub no_unmaps_whole : count_of (unmaps_whole p) h ≡ 0
  pub no_pins : count_of (pins_page p) h ≡ 0
  pub no_unpins : count_of (unpins_page p) h ≡ 0
  pub never : some_event (allocates p) h ≡ false
  pub not_freed : some_event (frees p) h ≡ false
  pub not_split : some_event (splits p) h ≡ false
  pub not_partly : (shape : Shape) → is_partly_mapped shape h p ≡ false

-- pages that aren't allocated yet had no event
pub record Numbered (h : History) : Type 0 where
  pub fresh : (p : ℕ) → allocations h ≤ p → Fresh h p

-- a live page has a number below that of the next
pub live_below : (h : History) (p : ℕ) → Numbered h → is_live h p ≡ true → p < allocations h
live_below h p s l =
    elim (cases_lt p (allocations h)) [
      | inl y ↦ y
      | inr y ↦ absurd (no (some_event (allocates p) h) (some_event (frees p) h) (s.fresh p y).never l)
    ] where
      no : (a f : Bool) → a ≡ false → (a && not f) ≡ true → ⊥
      no true f e g = absurd (cc)
      no false f e g = absurd (cc)

-- a live page isn't one that is still to be allocated
pub beyond : (h : History) (p q m : ℕ) → Numbered h → is_live h p ≡ true → m ≡ allocations h → m ≤ q → nat_eq q p ≡ false
beyond h p q m t l e g = ne_eqb q p (λ z. let low : p < allocations h = live_below h p t l in omega (arith, z))

-- a page without events, after an event that isn't about it
pub fresh_push : (h : History) (e : Event) (p : ℕ) → Untouched p e.what → Fresh h p → Fresh (h ++ e ∷ []) p
fresh_push h e p u f = record {
  no_maps = λ i. count_same (maps p i) h e (u.no_maps i) ∙ f.no_maps i;
  no_unmaps = λ i. count_same (unmaps p i) h e (u.no_unmaps i) ∙ f.no_unmaps i;
  no_maps_whole = count_same (maps_whole p) h e u.no_maps_whole ∙ f.no_maps_whole;
  no_unmaps_whole = count_same (unmaps_whole p) h e u.no_unmaps_whole ∙ f.no_unmaps_whole;
  no_pins = count_same (pins_page p) h e u.no_pin ∙ f.no_pins;
  no_unpins = count_same (unpins_page p) h e u.no_unpin ∙ f.no_unpins;
  never = some_same (allocates p) h e u.no_alloc ∙ f.never;
  not_freed = some_same (frees p) h e u.no_free ∙ f.not_freed;
  not_split = some_same (splits p) h e u.no_split ∙ f.not_split;
  not_partly = λ shape. partly_stays shape h e p u.no_unmap ∙ f.not_partly shape;
}

-- they hold of the empty history
pub numbered_none : Numbered []
unfolding some_event count_of
numbered_none = grind (arith, is_partly_mapped_none)
