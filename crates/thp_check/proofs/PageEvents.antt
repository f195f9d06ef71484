-- What an event of a page call says where it fits, and what it leaves of the flights.
use Rattle.std.proofs.Common.{◌≡◌, arith, ℕ, Bool, true, List, [], ◌∷◌, ◌++◌, Option, Some, None, ap, sym, ◌∙◌, nat_eq, eq-eqb}
use Rattle.thp_history.specs.declared.events.Event.{Event}
use Rattle.thp_history.specs.declared.events.Outcome.{Outcome}
use Rattle.thp_history.specs.declared.events.Outcome.TheVariants as outcome
use Rattle.thp_history.specs.declared.events.What.{What}
use Rattle.thp_history.specs.declared.events.What.TheVariants as what
use Rattle.thp_history.specs.declared.shape.Shape.{Shape}
use Rattle.thp_history.specs.Prelude.{History, by, is_live, is_closed, flight_by, Fits, Gives, page_released, Tallies, flight, without, refusal, gain_call, loss_call, gain_what, loss_what, recorded_call}
use Rattle.thp_history.proofs.Bools.{by_bool}
use Rattle.thp_history.proofs.Flights.{flight_push}
use Rattle.thp_history.proofs.OnePlace.{without_none, times_hasnt}
use Rattle.thp_history.proofs.PageOutcomes.{lives_by, outcome_is, released_is}
use Rattle.thp_history.proofs.Standing.{Sound}
use Rattle.thp_page.specs.Prelude.{Slot}
use Rattle.thp_history.specs.declared.page_call.Done.{Done}
use Rattle.thp_history.specs.declared.page_call.Gain.{Gain}
use Rattle.thp_history.specs.declared.page_call.Loss.{Loss}
use Rattle.thp_history.specs.declared.page_call.PageCall.TheVariants as either
use Rattle.thp_live_pages.specs.Prelude.{IsSlot, standing_of, PageStoreState, Lost, batch_left}
use Rattle.thp_live_pages.proofs.Homing.{Homed}
use Rattle.thp_live_pages.proofs.PageEvents.{ByOutcome, by_outcome, tallies_loss, outcome_reported}
use Rattle.thp_live_pages.proofs.Standings.{standing_flying}
use Rattle.thp_check.specs.Prelude.{flight_left}

-- what the fitting event of a gain says
pub gain_allowed : (s : Shape) (h : History) (c p : ℕ) (g : Gain) → Fits s h (by c (gain_what g p)) → refusal s h (gain_call g p) ≡ None
gain_allowed s h c p x f = grind arith

-- a gain leaves each flight
pub gain_flight : (h : History) (c p : ℕ) (g : Gain) (d : ℕ) → flight (h ++ by c (gain_what g p) ∷ []) d ≡ flight h d
gain_flight h c p x d = grind (arith, flight_push)

-- what the fitting event of a loss says
pub loss_allowed : (s : Shape) (h : History) (c p : ℕ) (l : Loss) (o : Outcome) (r : List Bool) → Fits s h (by c (loss_what l p o r)) → refusal s h (loss_call l p) ≡ None
loss_allowed s h c p x o r f = grind arith

loss_gives : (s : Shape) (h : History) (c p : ℕ) (l : Loss) (o : Outcome) (r : List Bool) → Fits s h (by c (loss_what l p o r)) → Gives s h (h ++ by c (loss_what l p o r) ∷ []) p o r
loss_gives s h c p x o r f = grind arith

-- an event of that loss that fits reports no other outcome and no other frames
pub loss_reported : (s : Shape) (h : History) (c b : ℕ) (x : Slot) (l : Loss) (closed : Bool) (old new : PageStoreState) (done : Done) (left : Option ℕ) (o : Outcome) (set : List Bool) → Homed s h → IsSlot s h b x →
    closed ≡ is_closed h → Lost l closed x old new b done left → Fits s h (by c (loss_what l x.id o set)) → (o ≡ done.outcome) × (set ≡ done.released)
loss_reported s h c b x l closed old new done left o set homed was shut lost f =
    let w : What = loss_what l x.id o set in
    let e : Event = by c w in
    let by : ByOutcome s w x.id o = by_outcome s l x.id o set in
    let live : is_live h x.id ≡ true = (homed.from x.id b was.home).live in
    let gives : Gives s h (h ++ e ∷ []) x.id o set = loss_gives s h c x.id l o set f in
    let after : Tallies s (h ++ e ∷ []) x.id lost.page = tallies_loss s h c x.id l o set x.page lost.page was.tallies lost.how in
    let same : o ≡ done.outcome = gives.outcome_is ∙ outcome_is s h (h ++ e ∷ []) x.id x.page lost.page was.tallies after ∙ sym (outcome_reported s h b x l closed old new done left was shut lost) in (
      same,
      gives.set_is ∙ released_is s h (h ++ e ∷ []) x.id o x.page lost.page was.tallies after live (lives_by h e x.id o live (by.no_alloc x.id) (by.freed x.id))
          ∙ ap (page_released x.page lost.page) same ∙ sym lost.released_is,
    )

-- a flight after a loss, by its outcome
pub loss_flight_by : (h : History) (c p : ℕ) (l : Loss) (o : Outcome) (r : List Bool) (d : ℕ) → flight (h ++ by c (loss_what l p o r) ∷ []) d ≡ flight_by (flight h d) p o
loss_flight_by h c p x o r d = grind (arith, flight_push)

-- a freed page leaves the flight in which it stands, and no other
freed_leaves : (s : Shape) (h : History) (p d : ℕ) → Sound s h → without p (flight h d) ≡ flight_left (batch_left (standing_of s h p)) p d (flight h d)
freed_leaves s h p d sound = grind (arith, by_bool, standing_flying, eq-eqb, without_none, times_hasnt, nat_eq)

-- the flights after a loss
pub loss_flight : (s : Shape) (h : History) (c b : ℕ) (x : Slot) (l : Loss) (closed : Bool) (old new : PageStoreState) (done : Done) (left : Option ℕ) (r : List Bool) (d : ℕ) → Homed s h → IsSlot s h b x →
    Lost l closed x old new b done left → flight (h ++ by c (loss_what l x.id done.outcome r) ∷ []) d ≡ flight_left left x.id d (flight h d)
loss_flight s h c b x l closed old new done left r d homed was lost = grind (arith, loss_flight_by, freed_leaves)

-- the outcome of an unmap or an unpin, and the frames that it gives back
abbrev pub outcome_in : What → Outcome
outcome_in (what.UnmapWhole o p set) = o
outcome_in (what.UnmapSub o p first count set) = o
outcome_in (what.Unpin o p set) = o
outcome_in w = outcome.Stays

abbrev pub frames_in : What → List Bool
frames_in (what.UnmapWhole o p set) = set
frames_in (what.UnmapSub o p first count set) = set
frames_in (what.Unpin o p set) = set
frames_in w = []

-- those of the event of a loss
pub reported_by : (l : Loss) (p : ℕ) (o : Outcome) (set : List Bool) → (outcome_in (loss_what l p o set) ≡ o) × (frames_in (loss_what l p o set) ≡ set)
reported_by x p o set = grind arith

-- the event of a loss, by its page and call
pub recorded_loss : (w : What) (p : ℕ) (l : Loss) → recorded_call w ≡ Some (p, either.Loss l) → w ≡ loss_what l p (outcome_in w) (frames_in w)
recorded_loss x p l e = grind arith
