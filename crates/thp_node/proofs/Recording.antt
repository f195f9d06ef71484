-- What a journal keeps: with no event, and with one more.
use Rattle.std.proofs.Common.{◌≡◌, ℕ, ◌+◌, ◌^◌, ◌<◌, ◌≤◌, Bool, false, ◌||◌, List, [], ◌∷◌, ◌++◌, length, Option, None, IfSome, slice_index_or, refl, ap, sym, ◌∙◌, arith}
use Rattle.std.specs.Int.{from_bool}
use Rattle.thp_history.specs.declared.events.Event.{Event}
use Rattle.thp_history.specs.declared.events.What.{What}
use Rattle.thp_history.specs.declared.events.Outcome.{Outcome}
use Rattle.thp_history.specs.declared.page_call.Loss.{Loss}
use Rattle.thp_history.specs.Prelude.{loss_what, History, by, count_of, some_event, IsNodeShape, is_alloc, closes, flights, flight, IsLegal, Fits, IsContext, with_loss}
use Rattle.thp_history.specs.declared.shape.Shape.{Shape}
use Rattle.thp_history.specs.declared.tally.SplitContext.{SplitContext}
use Rattle.thp_history.proofs.LegalSteps.{legal_none, legal_push}
use Rattle.thp_history.proofs.Pushes.{count_of_push, some_event_push}
use Rattle.thp_node.specs.Prelude.{NodeTally, IsJournal, leaves_of, one_for, CanLeave, HasCountRoom, FlightsMove, Counts}
use Rattle.thp_node.proofs.JournalLemmas.{flight_moves, leaves_one}
use Rattle.thp_history.proofs.Totals.{few_events, adds_none, has_room, adds_push, adds_loss}

-- with no event all numbers are 0
pub journal_none : (shape : Shape) (flying : List ℕ) → IsNodeShape shape → ((c : ℕ) → slice_index_or flying c 0 ≡ 0) →
    IsJournal shape []
    (record {
      next = 0;
      closed = false;
      flying = flying;
      sums = record { frames_given = 0; counters = record { split_page = 0; split_page_failed = 0; deferred_split_page = 0; underused_split_page = 0; split_pmd = 0 } };
    })
unfolding count_of some_event flights
journal_none shape flying s zeros = record {
  has_shape = s;
  legal = legal_none shape;
  next_is = refl;
  closed_is = refl;
  flying_are = zeros;
  adds_up = adds_none shape;
}

-- a journal that memory has room for counts so few events that each number has room for one more
pub count_room : (shape : Shape) (h : History) (t : NodeTally) → IsJournal shape h t → length h + 1 < 2 ^ 64 → HasCountRoom t
count_room shape h t j few = record { next = omega (arith, j.next_is, few_events is_alloc h, few); sums = has_room shape h t.sums (omega (arith, j.has_shape.most_order)) j.legal j.adds_up few }

-- a count of the events that pass a test, with one more event
counted : (test : What → Bool) (h : History) (c : ℕ) (w : What) (n m : ℕ) →
    n ≡ count_of test h → m ≡ n + from_bool (test w) → m ≡ count_of test (h ++ by c w ∷ [])
counted test h c w n m e f = grind (arith, count_of_push)

-- the count of the caller whose flight a page leaves isn't 0
pub may_leave : (shape : Shape) (h : History) (c : ℕ) (w : What) (flying : List ℕ) (o : Option ℕ) → IsLegal shape h → Fits shape h (by c w) →
    o ≡ leaves_of h c w → ((d : ℕ) → slice_index_or flying d 0 ≡ length (flight h d)) → IfSome o (CanLeave flying)
may_leave shape h c w flying x l f e g = grind (arith, leaves_one)

pub few_one : (b : Bool) → from_bool b ≤ 1
few_one x = grind arith

-- with an event that fits, and the numbers that it is counted in
pub journal_push : (shape : Shape) (h : History) (c : ℕ) (w : What) (leaves : Option ℕ) (split : SplitContext) (old new : NodeTally) →
    IsJournal shape h old → Fits shape h (by c w) → leaves ≡ leaves_of h c w → IsContext shape h w split → Counts old new c w leaves split →
    IsJournal shape (h ++ by c w ∷ []) new
journal_push shape h c w leaves split old new j f left said a =
    let e : Event = by c w in
    record {
      has_shape = j.has_shape;
      legal = legal_push shape h e j.legal f;
      next_is = counted is_alloc h c w _ _ j.next_is a.next;
      closed_is = a.closed ∙ ap (λ b. b || closes w) j.closed_is ∙ sym (some_event_push closes h e);
      flying_are = λ d.
          omega (arith, a.flying d, ap (λ o. one_for o d) left, j.flying_are d, flight_moves shape h c d w j.legal f);
      adds_up = adds_push shape h e split old.sums new.sums j.adds_up said a.sums;
    }

-- what an unmap or an unpin adds to the numbers
pub counts_lost : (old new : NodeTally) (c p : ℕ) (l : Loss) (o : Outcome) (set : List Bool) (left : Option ℕ) (split : SplitContext) → FlightsMove old.flying new.flying None left →
    new.sums ≡ with_loss o set old.sums → new ≡ record old { flying = new.flying; sums = new.sums } →
    Counts old new c (loss_what l p o set) left split
counts_lost old new c p x o set left split moves adds rest = grind (arith, adds_loss)
