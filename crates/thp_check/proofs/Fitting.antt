-- What is reported as expected fits.
use Rattle.std.proofs.Common.{◌≡◌, ◌≢◌, ℕ, ◌<◌, Bool, true, false, not, ◌||◌, List, Some, arith, ◌⊎◌, slice_get}
use Rattle.thp_history.specs.declared.events.Outcome.{Outcome}
use Rattle.thp_history.specs.declared.events.What.{What}
use Rattle.thp_history.specs.declared.events.What.TheVariants.{Split, Pinned, Used, Back, Dropped}
use Rattle.thp_history.specs.declared.shape.Shape.{Shape}
use Rattle.thp_history.specs.Prelude.{pins, History, by, Fits, flight, is_worth_split}
use Rattle.thp_check.specs.Prelude.{Misfit, ExplainsBy, with_outcome, with_frames, page_of, FitsInPlace}
use Rattle.thp_check.specs.declared.misfit.Misfit.TheVariants as misfit

positive : (n : ℕ) → n ≢ 0 → 0 < n
positive n other = omega arith

-- a page that isn't to be dropped is partly mapped, on an open node
kept : (closed partly : Bool) → (closed || not partly) ≡ false → (closed ≡ false) × (partly ≡ true)
kept x partly e = grind arith

module _ (s : Shape) (h : History) (c : ℕ) where
  -- the first page of a flight goes back or is dropped
  first_leaves : (p : ℕ) → slice_get (flight h c) 0 ≡ Some p → Fits s h (by c (Back p)) ⊎ Fits s h (by c (Dropped p))
  first_leaves p first = grind (arith, kept)

  by_outcome : (w : What) (o : Outcome) (set : List Bool) → ExplainsBy s h c w (misfit.Outcome o set) → Fits s h (by c (with_outcome o set w))
  by_outcome x o set e = grind arith

  by_frames : (w : What) (set : List Bool) → ExplainsBy s h c w (misfit.Released set) → Fits s h (by c (with_frames set w))
  by_frames x set e = grind arith

  in_use : (w : What) → ExplainsBy s h c w misfit.InUse → Fits s h (by c (Used (page_of w)))
  in_use x e = grind arith

  worth : (w : What) → ExplainsBy s h c w misfit.WorthSplit → pins h (page_of w) ≢ 0 → Fits s h (by c (Pinned (page_of w)))
  worth x e pinned = grind (arith, positive)

  has_pins : (w : What) → ExplainsBy s h c w misfit.HasPins → Fits s h (by c (Pinned (page_of w)))
  has_pins (Split p set) e = (e.0.0, positive (pins h p) e.1, e.0.1)
  has_pins w e = absurd e

  no_pins : (w : What) → ExplainsBy s h c w misfit.NoPins → is_worth_split s h (page_of w) ≡ false → Fits s h (by c (Used (page_of w)))
  no_pins x e idle = grind arith

  first : (w : What) (p : ℕ) → ExplainsBy s h c w (misfit.First (Some p)) → Fits s h (by c (Back p)) ⊎ Fits s h (by c (Dropped p))
  first x p e = grind (arith, first_leaves)

  drops : (w : What) → ExplainsBy s h c w misfit.MustDrop → Fits s h (by c (Dropped (page_of w)))
  drops x e = grind arith

  goes_back : (w : What) → ExplainsBy s h c w misfit.MustRequeue → Fits s h (by c (Back (page_of w)))
  goes_back x e = grind (arith, kept)

pub fits_in_place : (s : Shape) (h : History) (c : ℕ) (w : What) (m : Misfit) → ExplainsBy s h c w m → FitsInPlace s h c w m
fits_in_place s h c w x e = grind (arith, by_outcome, in_use, worth, has_pins, no_pins, by_frames, first, drops, goes_back)
