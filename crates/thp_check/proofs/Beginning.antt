-- A replay with no event yet, and after each event.
use Rattle.std.proofs.Common.{◌≡◌, ℕ, ◌≤◌, false, [], ◌∷◌, ◌++◌, Some, None, length, map, take, refl, ap, sym, ◌∙◌, arith, length-take}
use Rattle.thp_history.specs.declared.events.Event.{Event}
use Rattle.thp_history.specs.declared.shape.Shape.{Shape}
use Rattle.thp_history.specs.Prelude.{max_order, History, count_of, some_event, allocations, is_alloc, is_closed, is_taking, takes_by}
use Rattle.thp_history.proofs.FlightLaws.{flight_none}
use Rattle.thp_history.proofs.Pushes.{is_taking_push}
use Rattle.thp_page.specs.Prelude.{slot_at}
use Rattle.thp_live_pages.specs.Prelude.{block_of}
use Rattle.thp_history.proofs.Totals.{few_events}
use Rattle.thp_live_pages.proofs.Starting.{node_none}
use Rattle.thp_check.specs.Prelude.{NodeState, blocks_in, Keeps, Means, is_taker}

no_allocations : allocations [] ≡ 0
unfolding count_of
no_allocations = refl

not_closed : is_closed [] ≡ false
unfolding some_event
not_closed = refl

not_taking : (c : ℕ) → is_taking [] c ≡ false
unfolding is_taking
not_taking c = refl

-- an empty replay means the empty history
pub means_none : (s : Shape) (r : NodeState) → s.order ≤ max_order → length r.places.table.slots ≡ s.blocks → r.places.table.order ≡ s.order → ((b : ℕ) → slot_at r.places.table b ≡ None) → r.places.queue ≡ [] →
    ((c : ℕ) → blocks_in r.flights c ≡ []) → length r.flights.callers ≡ s.blocks → r.shape ≡ s → r.next ≡ 0 → r.closed ≡ false → r.taker ≡ None → Means s [] r
means_none s r low size order empty none fs room shape next closed taker = record {
  kept = record {
    low = low;
    shape_is = shape;
    node = node_none s r.places.table r.places.queue size order empty none;
    flying = λ c. ap (map (block_of [])) (flight_none c) ∙ ap (map (λ b. Some b)) (sym (fs c));
    room = room;
    next_is = next ∙ sym no_allocations;
    closed_is = closed ∙ sym not_closed;
  };
  taking = λ c. rw taker (not_taking c);
}

-- a replay that notes whether the event was a take
pub means_after : (s : Shape) (h : History) (e : Event) (r t : NodeState) → Keeps s (h ++ e ∷ []) r → t.shape ≡ r.shape → t.places ≡ r.places → t.flights ≡ r.flights → t.next ≡ r.next → t.closed ≡ r.closed →
    ((c : ℕ) → takes_by c e.caller e.what ≡ is_taker t.taker c) → Means s (h ++ e ∷ []) t
means_after s h e r t k shape pages fs next closed taker = grind (arith, is_taking_push)

-- a replay of the first k events has allocated k pages at most
pub few_pages : (s : Shape) (es : History) (k : ℕ) (r : NodeState) → Means s (take k es) r → r.next ≤ k
few_pages s es k r m = omega (arith, m.kept.next_is, few_events is_alloc (take k es), length-take k es)
