-- The numbers of a legal history fit the operands of its lines.
use Rattle.std.proofs.Common.{◌≡◌, ◌<◌, ◌≤◌, ◌+◌, ◌^◌, ℕ, suc, Bool, true, false, ◌||◌, List, [], ◌∷◌, ◌++◌, length, take, Some, refl, ap, ◌∙◌, arith, nat_eq, nat_lt, slice_get, length-take}
use Rattle.std.specs.List.{AllByRecursion}
use Rattle.std.proofs.lemmas.Bool.{eq-eqb, ltb-false, or_parts}
use Rattle.std.proofs.lemmas.List.Sums.{count_by-le-length}
use Rattle.thp_history.specs.declared.events.Event.{Event}
use Rattle.thp_history.specs.declared.events.What.{What}
use Rattle.thp_history.specs.declared.events.What.TheVariants.{Alloc, MapWhole, UnmapWhole, MapSub, UnmapSub, SplitPmd, Pin, Unpin, Write, Zero, Taken, Split, Pinned, Used, Back, Dropped, Close}
use Rattle.thp_history.specs.declared.shape.Shape.{Shape}
use Rattle.thp_history.specs.Prelude.{allocations, is_alloc, is_live, released, History, count_of, FitsBy, IsLegal, acts_on, IsShapeWithin, subpages, length-set_of}
use Rattle.thp_history.proofs.Alive.{legal_grown}
use Rattle.thp_history.proofs.Allowed.{allowed_map_sub, allowed_unmap_sub, allowed_write, allowed_zero}
use Rattle.thp_history.proofs.FlightLaws.{left_alone}
use Rattle.thp_history.proofs.LegalSteps.{legal_take}
use Rattle.thp_history.proofs.Numbers.{live_below}
use Rattle.thp_history.proofs.Sizes.{few_subpages}
use Rattle.thp_journal_writer.specs.Prelude.{HasSmallNumbers}

-- pages are numbered by the events before them
few_pages : (h : History) → allocations h ≤ length h
unfolding count_of
few_pages h = count_by-le-length (λ (e : Event). is_alloc e.what) h

-- and so by the events of the whole history
fewer_before : (h : History) (k : ℕ) → allocations (take k h) ≤ length h
fewer_before h k = let few = few_pages (take k h) in let short : length (take k h) ≤ length h = omega (arith, length-take k h) in omega arith

-- a range of a page isn't beyond 512
pub small_range : {most : ℕ} (s : Shape) (first count : ℕ) → IsShapeWithin most s → (nat_eq count 0 || nat_lt (subpages s) (first + count)) ≡ false → (first < 2 ^ 16) × (count < 2 ^ 16)
small_range s first count is fits = grind (arith, ltb-false, or_parts, nat_eq, nat_lt, few_subpages)

-- a set that an event gives back has 512 truths
full_set : (s : Shape) (h k : History) (p : ℕ) (set : List Bool) → set ≡ released s h k p → length set ≡ 512
full_set s h k p set is = ap length is ∙ length-set_of _

-- what happened, where the pages that it acts on have small numbers
numbers_fit : {most : ℕ} (s : Shape) (h k : History) (c : ℕ) (w : What) → IsShapeWithin most s → FitsBy s h k c w → allocations h < 2 ^ 64 → ((p : ℕ) → acts_on p w ≡ true → p < 2 ^ 64) → HasSmallNumbers w
numbers_fit s h k c (Alloc p b) is fits few small = let number = fits.number in omega arith
numbers_fit s h k c (MapWhole p) is fits few small = small p (eq-eqb p p refl)
numbers_fit s h k c (UnmapWhole o p set) is fits few small = (small p (eq-eqb p p refl), full_set s h k p set fits.1.set_is)
numbers_fit s h k c (MapSub p first count) is fits few small = let r = small_range s first count is (allowed_map_sub s h p first count fits).1 in (small p (eq-eqb p p refl), r.0, r.1)
numbers_fit s h k c (UnmapSub o p first count set) is fits few small = let r = small_range s first count is (allowed_unmap_sub s h p first count fits.0).1 in (small p (eq-eqb p p refl), r.0, r.1, full_set s h k p set fits.1.set_is)
numbers_fit s h k c (SplitPmd p) is fits few small = small p (eq-eqb p p refl)
numbers_fit s h k c (Pin p) is fits few small = small p (eq-eqb p p refl)
numbers_fit s h k c (Unpin o p set) is fits few small = (small p (eq-eqb p p refl), full_set s h k p set fits.1.set_is)
numbers_fit s h k c (Write p first count) is fits few small = let r = small_range s first count is (allowed_write s h p first count fits).1 in (small p (eq-eqb p p refl), r.0, r.1)
numbers_fit s h k c (Zero p first count) is fits few small = let r = small_range s first count is (allowed_zero s h p first count fits).1 in (small p (eq-eqb p p refl), r.0, r.1)
numbers_fit s h k c (Taken p) is fits few small = small p (eq-eqb p p refl)
numbers_fit s h k c (Split p set) is fits few small = (small p (eq-eqb p p refl), full_set s h k p set fits.set_is)
numbers_fit s h k c (Pinned p) is fits few small = small p (eq-eqb p p refl)
numbers_fit s h k c (Used p) is fits few small = small p (eq-eqb p p refl)
numbers_fit s h k c (Back p) is fits few small = small p (eq-eqb p p refl)
numbers_fit s h k c (Dropped p) is fits few small = small p (eq-eqb p p refl)
numbers_fit s h k c Close is fits few small = tt

-- each event of a legal history of fewer than 2^64 events has small numbers
pub legal_numbers : {most : ℕ} (s : Shape) (h : History) → IsShapeWithin most s → IsLegal s h → length h < 2 ^ 64 → (k : ℕ) (e : Event) → slice_get h k ≡ Some e → HasSmallNumbers e.what
legal_numbers s h is legal few k e at =
    let before : allocations (take k h) ≤ length h = fewer_before h k in
    numbers_fit s (take k h) (take k h ++ e ∷ []) e.caller e.what is (legal.each k e at) (omega arith)
    (λ p acts. let live : is_live (take k h) p ≡ true = left_alone s h legal k e p at acts in let low : p < allocations (take k h) = live_below (take k h) p (legal_grown s (take k h) (legal_take s h k legal)).numbered live in omega arith)

-- what holds of each event by its place holds of each
pub each_from_places : (P : Event → Type 0) (h : History) → ((k : ℕ) (e : Event) → slice_get h k ≡ Some e → P e) → AllByRecursion P h
each_from_places P [] f = tt
each_from_places P (e ∷ h) f = (f 0 e refl, each_from_places P h (λ k x at. f (suc k) x at))
