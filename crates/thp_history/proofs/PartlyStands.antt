-- While the switch is off each page that stands is partly mapped, so none is found in use or split as underused.
use Rattle.std.proofs.Common.{◌≡◌, ℕ, ◌+◌, ◌<◌, ◌≤◌, Bool, true, false, cond, not, ◌&&◌, ◌||◌, [], ◌∷◌, ◌++◌, Some, take, refl, ap, sym, ◌∙◌, arith, nat_eq, nat_lt, eq-eqb, inl, inr, ◌⊎◌, slice_get}
use Rattle.std.proofs.lemmas.Bool.Decides.{eqb_tells, nat_tests}
use Rattle.thp_history.specs.Prelude.{Event, Outcome, Freed, Queued, Stays, What, Shape, thp_underused_split_page, splits_underused, maps, unmaps, is_mapped, loses_use, outcome, History, by, IsLegal, Fits, FitsBy, queue, queue_after, queue_by, flights, flights_after, flights_by, flight, stands, has_page, shrinks_underused, unmaps_some, unmaps_part, is_partly_mapped, finds_used}
use Rattle.thp_history.specs.declared.events.What.TheVariants.{Alloc, UnmapWhole, UnmapSub, Unpin, Taken, Split, Used, Back, Dropped}
use Rattle.thp_history.proofs.Below.{some_no}
use Rattle.thp_history.proofs.Bools.{or-true}
use Rattle.thp_history.proofs.FlightLaws.{up_by}
use Rattle.thp_history.proofs.LegalSteps.{legal_all, legal_take}
use Rattle.thp_history.proofs.OnePlace.{flies_stands}
use Rattle.thp_history.proofs.Pushes.{queue_push, flights_push, count_same, is_partly_mapped_push, thp_underused_split_page_push, thp_underused_split_page_none}
use Rattle.thp_history.proofs.Standing.{times, flying, stand, times_push, flying_push, times-filter, flying-filter, times-drop, moves, first_has}

-- what an outcome of `Queued` says of the page's subpages
queued_parts : (y m s x k t : Bool) → Queued ≡ cond (not y && m) Freed (cond (not s && (x && (y && (not k && not t)))) Queued Stays) → (x && y) ≡ true
queued_parts y m s x k t e = grind arith

-- a page is queued only where a subpage went out of use and another is in use
queued_loses : (shape : Shape) (h k : History) (p : ℕ) → Queued ≡ outcome shape h k p → (loses_use shape h k p && is_mapped shape k p) ≡ true
queued_loses shape h k p e = grind (arith, queued_parts, nat_eq)

-- an unpin takes no subpage out of use
unpin_loses : (shape : Shape) (h : History) (e : Event) (p : ℕ) → ((i : ℕ) → maps p i e.what ≡ false) → ((i : ℕ) → unmaps p i e.what ≡ false) → loses_use shape h (h ++ e ∷ []) p ≡ false
unpin_loses shape h e p m u = grind (arith, some_no, count_same, nat_lt, nat_eq, nat_tests)

-- page q stood before, or this event left it partly mapped
abbrev Came : Shape → History → Event → ℕ → ℕ → Type 0
Came shape h e q m = 0 < m → (0 < stand shape h q) ⊎ (unmaps_part shape q h e ≡ true)

-- a page that stands no more often than before
fewer : (shape : Shape) (h : History) (e : Event) (q m : ℕ) → m ≤ stand shape h q → Came shape h e q m
fewer shape h e q m le up = inl (omega arith)

-- a page that an outcome may have queued
by_outcome : (shape : Shape) (h : History) (e : Event) (p q : ℕ) (o : Outcome) → o ≡ outcome shape h (h ++ e ∷ []) p →
    (Queued ≡ outcome shape h (h ++ e ∷ []) p → unmaps_part shape p h e ≡ true) →
    Came shape h e q (times q (queue_by (queue shape h) p o) + flying q (flights_by (flights h) p o))
by_outcome shape h e p q x is part = grind (arith, fewer, eqb_tells, times_push, times-filter, nat_eq, flying-filter)

-- an unmap that queues its page leaves it partly mapped
unmap_part : (shape : Shape) (h : History) (e : Event) (p : ℕ) → unmaps_some p e.what ≡ nat_eq p p → Queued ≡ outcome shape h (h ++ e ∷ []) p → unmaps_part shape p h e ≡ true
unmap_part shape h e p u is = grind (arith, eq-eqb, queued_loses)

-- a page that stands after an event that fits stood before, or was left partly mapped
came : (shape : Shape) (h : History) (c : ℕ) (w : What) (q : ℕ) → shrinks_underused shape ≡ false → FitsBy shape h (h ++ by c w ∷ []) c w →
    Came shape h (by c w) q (times q (queue_after shape (queue shape h) w) + flying q (flights_after (flights h) c w))
came shape h c (Alloc p b) q off f =
    fewer shape h (by c (Alloc p b)) q _ (omega (arith, ap (λ x. times q (cond x (queue shape h ++ p ∷ []) (queue shape h))) off))
came shape h c (UnmapWhole o p r) q off f = by_outcome shape h (by c (UnmapWhole o p r)) p q o f.1.outcome_is (unmap_part shape h (by c (UnmapWhole o p r)) p refl)
came shape h c (UnmapSub o p a m r) q off f = by_outcome shape h (by c (UnmapSub o p a m r)) p q o f.1.outcome_is (unmap_part shape h (by c (UnmapSub o p a m r)) p refl)
came shape h c (Unpin o p r) q off f =
    let e : Event = by c (Unpin o p r) in
    by_outcome shape h e p q o f.1.outcome_is
    (λ is. absurd (let y : false ≡ true = sym (ap (λ b. b && is_mapped shape (h ++ e ∷ []) p) (unpin_loses shape h e p (λ i. refl) (λ i. refl))) ∙ queued_loses shape h (h ++ e ∷ []) p is in cc))
came shape h c (Taken p) q off f = fewer shape h (by c (Taken p)) q _ (omega (arith, times-drop p q (queue shape h) f.oldest, flying_push q p c (flights h)))
came shape h c (Split p r) q off f = fewer shape h (by c (Split p r)) q _ (omega (arith, flying-filter (λ (x : ℕ × ℕ). not (nat_eq x.0 c && nat_eq x.1 p)) q (flights h)))
came shape h c (Used p) q off f = fewer shape h (by c (Used p)) q _ (omega (arith, flying-filter (λ (x : ℕ × ℕ). not (nat_eq x.0 c && nat_eq x.1 p)) q (flights h)))
came shape h c (Back p) q off f =
    fewer shape h (by c (Back p)) q _ (omega (arith, times_push q p (queue shape h), moves p q c (flights h) (first_has p (flight h c) f.0)))
came shape h c (Dropped p) q off f = fewer shape h (by c (Dropped p)) q _ (omega (arith, flying-filter (λ (x : ℕ × ℕ). not (nat_eq x.0 c && nat_eq x.1 p)) q (flights h)))
came shape h c w q off f = fewer shape h (by c w) q _ (omega arith)

-- each page that stands is partly mapped, and none was split as underused
record ArePartly (shape : Shape) (h : History) : Type 0 where
  each : (p : ℕ) → 0 < stand shape h p → is_partly_mapped shape h p ≡ true
  none_split : thp_underused_split_page shape h ≡ 0

-- a split is of a page that stands
none_more : (shape : Shape) (h : History) (c : ℕ) (w : What) → ArePartly shape h → FitsBy shape h (h ++ by c w ∷ []) c w → splits_underused shape h w ≡ 0
none_more shape h c x s f = grind (arith, flies_stands)

-- one more event that fits keeps this
partly_step : (shape : Shape) → shrinks_underused shape ≡ false → (h : History) (e : Event) → ArePartly shape h → Fits shape h e → ArePartly shape (h ++ e ∷ [])
partly_step shape off h e s f = record {
  each = λ q up.
      let k : History = h ++ e ∷ [] in
      let as_many : stand shape k q ≡ times q (queue_after shape (queue shape h) e.what) + flying q (flights_after (flights h) e.caller e.what) =
      ap (λ ps. times q ps + flying q (flights k)) (queue_push shape h e) ∙ ap (λ fs. times q (queue_after shape (queue shape h) e.what) + flying q fs) (flights_push h e) in
      is_partly_mapped_push shape h e q ∙
      elim (came shape h e.caller e.what q off f (omega arith)) [
        | inl y ↦ ap (λ b. b || unmaps_part shape q h e) (s.each q y)
        | inr y ↦ ap (λ b. is_partly_mapped shape h q || b) y ∙ or-true (is_partly_mapped shape h q)
      ];
  none_split = thp_underused_split_page_push shape h e ∙ omega (arith, s.none_split, none_more shape h e.caller e.what s f);
}

-- the empty history
partly_none : (shape : Shape) → ArePartly shape []
unfolding times flying queue flights
partly_none shape = record { each = λ p up. absurd (omega arith); none_split = thp_underused_split_page_none shape }

-- so it holds of every legal history
legal_partly : (shape : Shape) (h : History) → shrinks_underused shape ≡ false → IsLegal shape h → ArePartly shape h
legal_partly shape h off l = legal_all shape (ArePartly shape) (partly_none shape) (partly_step shape off) h l

-- each page that stands is partly mapped
pub partly_stands : (shape : Shape) (h : History) → shrinks_underused shape ≡ false → IsLegal shape h → (p : ℕ) → stands shape h p ≡ true → is_partly_mapped shape h p ≡ true
partly_stands shape h off l p e = (legal_partly shape h off l).each p (up_by shape h p e)

-- each page of a flight is
pub partly_flies : (shape : Shape) (h : History) (c p : ℕ) → shrinks_underused shape ≡ false → IsLegal shape h → has_page p (flight h c) ≡ true → is_partly_mapped shape h p ≡ true
partly_flies shape h c p off l e = (legal_partly shape h off l).each p (flies_stands shape h c p e)

-- no page is found in use
not_used : (shape : Shape) (h k : History) (c : ℕ) (w : What) → shrinks_underused shape ≡ false → IsLegal shape h → FitsBy shape h k c w → finds_used w ≡ false
not_used shape h k c x off l f = grind (arith, partly_flies)

-- in no legal history
pub none_used : (shape : Shape) (h : History) → shrinks_underused shape ≡ false → IsLegal shape h → (k : ℕ) (e : Event) → slice_get h k ≡ Some e → finds_used e.what ≡ false
none_used shape h off l k e g = not_used shape (take k h) (take k h ++ e ∷ []) e.caller e.what off (legal_take shape h k l) (l.each k e g)

-- and none is split as underused
pub none_underused : (shape : Shape) (h : History) → shrinks_underused shape ≡ false → IsLegal shape h → thp_underused_split_page shape h ≡ 0
none_underused shape h off l = (legal_partly shape h off l).none_split
