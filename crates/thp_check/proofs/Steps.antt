-- What a replay means after each step: that of the history with the event, where the event fits; and else that it doesn't.
use Rattle.std.proofs.Common.{◌≡◌, ◌≢◌, ℕ, ◌+◌, ◌<◌, Bool, true, false, not, ◌&&◌, ◌||◌, List, [], ◌∷◌, ◌++◌, Option, Some, None, length, map, refl, ap, sym, ◌∙◌, subst, arith, nat_eq, eqb-true, IsSome}
use Rattle.thp_history.specs.declared.events.Event.{Event}
use Rattle.thp_history.specs.declared.events.Outcome.{Outcome}
use Rattle.thp_history.specs.declared.events.What.TheVariants as what
use Rattle.thp_history.specs.declared.refusal.Refusal.{Refusal}
use Rattle.thp_history.specs.declared.refusal.Refusal.TheVariants as reason
use Rattle.thp_history.specs.declared.shape.Shape.{Shape}
use Rattle.thp_history.specs.Prelude.{History, by, some_event, is_alloc, is_live, frees, closes, is_closed, allocations, block_in_use, Fits, IsLegal, PageState, Tallies, page_refusal, flight, has_page, refusal, shrinks_underused, gain_call, loss_call, gain_what, loss_what, Gains}
use Rattle.thp_history.proofs.Allowed.{allowed_alloc as open_alloc, allowed_close as open_close}
use Rattle.thp_history.proofs.Bools.{by_bool}
use Rattle.thp_history.proofs.Flights.{flight_push}
use Rattle.thp_history.proofs.OnePlace.{flies_live}
use Rattle.thp_history.proofs.Pushes.{count_same, count_more, some_same, some_event_push}
use Rattle.thp_page.specs.Prelude.{slot_at, HoldsPage, Slot}
use Rattle.thp_history.specs.declared.page_call.Done.{Done}
use Rattle.thp_live_pages.specs.Prelude.{PageStoreState, AtSlot, Edits, Lost, IsPlaced, IsNode}
use Rattle.thp_live_pages.proofs.Admitting.{Found, found, not_live}
use Rattle.thp_live_pages.proofs.Closing.{allowed_alloc, allowed_close, next_is_new}
use Rattle.thp_live_pages.proofs.Homing.{Homed, legal_homed, block_push, block_taken}
use Rattle.thp_live_pages.proofs.Keeping.{block_other}
use Rattle.thp_live_pages.proofs.ListEvents.{placed_fits, placed_node, closed_node}
use Rattle.thp_live_pages.proofs.PageEvents.{slot_is, refusal_is, refusal_gone, gained, LossFits, loss_fits, lost_node}
use Rattle.thp_history.specs.declared.page_call.Gain.{Gain}
use Rattle.thp_history.specs.declared.page_call.Loss.{Loss}
use Rattle.thp_history.specs.declared.page_call.PageCall.TheVariants as either
use Rattle.thp_check.specs.Prelude.{NodeState, FlightsState, blocks_in, flight_left, Keeps, Means, IsMisfit}
use Rattle.thp_check.specs.declared.misfit.Misfit.TheVariants as misfit
use Rattle.thp_check.proofs.FlightBlocks.{LieIn, unmoved, departed, gain_home, loss_flying_home}
use Rattle.thp_check.proofs.PageEvents.{gain_flight, loss_reported, loss_flight}
use Rattle.thp_check.proofs.Reasons.{gain_misfit, loss_misfit, loss_other, closed_again}

no_both : (z : Bool) → z ≡ false → z ≡ true → ⊥
no_both z e f = cc

-- the numbers of a replay are the same after an event that neither allocates a page nor closes the node
pub goes_on : (s : Shape) (h : History) (e : Event) (old new : NodeState) → Means s h old → IsNode s (h ++ e ∷ []) new.places.table new.places.queue →
    ((d : ℕ) → LieIn (h ++ e ∷ []) (flight (h ++ e ∷ []) d) (blocks_in new.flights d)) → length new.flights.callers ≡ length old.flights.callers → is_alloc e.what ≡ false → closes e.what ≡ false →
    new.shape ≡ old.shape → new.next ≡ old.next → new.closed ≡ old.closed → Keeps s (h ++ e ∷ []) new
goes_on s h e old new m node fs size a k shape next closed = grind (arith, count_same, some_same)

-- flights that stay are those of the history
kept_blocks : (s : Shape) (h : History) (old new : NodeState) → Means s h old → new.flights ≡ old.flights → (d : ℕ) → LieIn h (flight h d) (blocks_in new.flights d)
kept_blocks s h old new m fs d = m.kept.flying d ∙ ap (λ f. map (λ n. Some n) (blocks_in f d)) (sym fs)

plain_gain : (g : Gain) (p : ℕ) → (is_alloc (gain_what g p) ≡ false) × (closes (gain_what g p) ≡ false)
plain_gain x p = grind arith

plain_loss : (l : Loss) (p : ℕ) (o : Outcome) (r : List Bool) → (is_alloc (loss_what l p o r) ≡ false) × (closes (loss_what l p o r) ≡ false)
plain_loss x p o r = grind arith

-- an event about a page that lies nowhere
pub gain_absent : (s : Shape) (h : History) (c p : ℕ) (g : Gain) (old : NodeState) → Means s h old → ((b : ℕ) → HoldsPage (slot_at old.places.table b) p → ⊥) →
    IsMisfit s h (by c (gain_what g p)) (misfit.Refused reason.NoPage)
gain_absent s h c p g old m none =
    gain_misfit s h c p g reason.NoPage (refusal_gone s h p (either.Gain g) (not_live s h old.places.table old.places.queue p m.kept.node none))

pub loss_absent : (s : Shape) (h : History) (c p : ℕ) (l : Loss) (o : Outcome) (r : List Bool) (old : NodeState) → Means s h old → ((b : ℕ) → HoldsPage (slot_at old.places.table b) p → ⊥) →
    IsMisfit s h (by c (loss_what l p o r)) (misfit.Refused reason.NoPage)
loss_absent s h c p l o r old m none =
    loss_misfit s h c p l o r reason.NoPage (refusal_gone s h p (either.Loss l) (not_live s h old.places.table old.places.queue p m.kept.node none))

module _ (s : Shape) (h : History) (c p b : ℕ) (old : NodeState) (m : Means s h old) (held : HoldsPage (slot_at old.places.table b) p) where
  there : Found s h old.places.table p b
  there = found s h old.places.table old.places.queue p b m.kept.node held

  homed : Homed s h
  homed = legal_homed s h m.kept.node.legal

  tallied : Tallies s h p there.slot.page
  tallied = let P : ℕ → Type 0 = λ q. Tallies s h q there.slot.page in subst P there.id_is there.is.tallies

  -- what the page refuses, by its slot
  gain_refusal : (g : Gain) → refusal s h (gain_call g p) ≡ page_refusal there.slot.page (gain_call g p)
  gain_refusal g = refusal_is s h p there.slot.page (either.Gain g) tallied there.live

  loss_refusal : (l : Loss) → refusal s h (loss_call l p) ≡ page_refusal there.slot.page (loss_call l p)
  loss_refusal l = refusal_is s h p there.slot.page (either.Loss l) tallied there.live

  -- a page that refuses what the event says
  pub gain_refused : (g : Gain) (r : Refusal) → AtSlot old.places.table b (λ x. (q : ℕ) → Some r ≡ page_refusal x.page (gain_call g q)) → IsMisfit s h (by c (gain_what g p)) (misfit.Refused r)
  gain_refused g r reported = gain_misfit s h c p g r (gain_refusal g ∙ sym (reported there.slot there.at p))

  pub loss_refused : (l : Loss) (o : Outcome) (set : List Bool) (r : Refusal) → AtSlot old.places.table b (λ x. (q : ℕ) → Some r ≡ page_refusal x.page (loss_call l q)) →
      IsMisfit s h (by c (loss_what l p o set)) (misfit.Refused r)
  loss_refused l o set r reported = loss_misfit s h c p l o set r (loss_refusal l ∙ sym (reported there.slot there.at p))

  -- a page that gained
  pub gain_goes : (g : Gain) (new : NodeState) → AtSlot old.places.table b (λ x. (q : ℕ) → None ≡ page_refusal x.page (gain_call g q)) →
      AtSlot old.places.table b (λ x. (t : PageState) × Gains g x.page t × Edits old.places new.places b (Some (record x { page = t })) old.places.queue 0) →
      new.shape ≡ old.shape → new.flights ≡ old.flights → new.next ≡ old.next → new.closed ≡ old.closed → Fits s h (by c (gain_what g p)) × Keeps s (h ++ by c (gain_what g p) ∷ []) new
  gain_goes g new reported did shape fs next closed =
      let x : Slot = there.slot in
      let gives = did x there.at in
      let allowed : refusal s h (gain_call g x.id) ≡ None = ap (λ q. refusal s h (gain_call g q)) there.id_is ∙ gain_refusal g ∙ sym (reported x there.at p) in
      let w = gained s h c b x gives.0 g old.places new.places m.kept.node there.at allowed gives.1 gives.2 in
      let P : ℕ → Type 0 = λ q. Fits s h (by c (gain_what g q)) × Keeps s (h ++ by c (gain_what g q) ∷ []) new in
      subst P there.id_is (
        w.0,
        goes_on s h (by c (gain_what g x.id)) old new m w.1 (λ d. unmoved h (h ++ by c (gain_what g x.id) ∷ []) d (blocks_in new.flights d) (gain_flight h c x.id g d) (λ r y. gain_home h c x.id g r) (kept_blocks s h old new m fs d))
            (ap (λ (f : FlightsState). length f.callers) fs) (plain_gain g x.id).0 (plain_gain g x.id).1 shape next closed,
      )

  -- a page that lost, where the event reports what came of it
  pub loss_goes : (l : Loss) (o : Outcome) (set : List Bool) (new : NodeState) (done : Done) (left : Option ℕ) → ((x : Slot) → slot_at old.places.table b ≡ Some x → (q : ℕ) → None ≡ page_refusal x.page (loss_call l q)) →
      AtSlot old.places.table b (λ x. Lost l old.closed x old.places new.places b done left) → ((d : ℕ) → blocks_in new.flights d ≡ flight_left left b d (blocks_in old.flights d)) → length new.flights.callers ≡ length old.flights.callers → new.shape ≡ old.shape → new.next ≡ old.next → new.closed ≡ old.closed →
      done.outcome ≡ o → done.released ≡ set → Fits s h (by c (loss_what l p o set)) × Keeps s (h ++ by c (loss_what l p o set) ∷ []) new
  loss_goes l o set new done left refuses did fs size shape next closed same given =
      let x : Slot = there.slot in
      let lost : Lost l old.closed x old.places new.places b done left = did x there.at in
      let allowed : refusal s h (loss_call l x.id) ≡ None = ap (λ q. refusal s h (loss_call l q)) there.id_is ∙ loss_refusal l ∙ sym (refuses x there.at p) in
      let fits : LossFits s h c x.id l done = loss_fits s h c b x l old.closed old.places new.places done left homed there.is m.kept.closed_is allowed lost in
      let node = lost_node s h c b x l old.closed old.places new.places done left homed m.kept.node there.at lost fits in
      let k : History = h ++ by c (loss_what l x.id done.outcome done.released) ∷ [] in
      let flown : (d : ℕ) → LieIn k (flight k d) (blocks_in new.flights d) =
      λ d. departed h k d x.id b left (blocks_in old.flights d) (loss_flight s h c b x l old.closed old.places new.places done left done.released d homed there.is lost)
      (loss_flying_home h c x.id l done.outcome done.released d) (there.is.home, λ q y. homed.once q x.id b y there.is.home) (m.kept.flying d) ∙ ap (map (λ n. Some n)) (sym (fs d)) in
      let P : ℕ → Outcome → List Bool → Type 0 = λ q u t. Fits s h (by c (loss_what l q u t)) × Keeps s (h ++ by c (loss_what l q u t) ∷ []) new in
      let here : P x.id done.outcome done.released =
      (fits.fits, goes_on s h (by c (loss_what l x.id done.outcome done.released)) old new m node flown size (plain_loss l x.id done.outcome done.released).0 (plain_loss l x.id done.outcome done.released).1 shape next closed) in
      subst (λ t. P p o t) given (subst (λ u. P p u done.released) same (subst (λ q. P q done.outcome done.released) there.id_is here))

  -- where the event fits, it reports what came of the page
  pub loss_reports : (l : Loss) (o : Outcome) (set : List Bool) (new : PageStoreState) (done : Done) (left : Option ℕ) →
      AtSlot old.places.table b (λ x. Lost l old.closed x old.places new b done left) → Fits s h (by c (loss_what l p o set)) → (done.outcome ≡ o) × (done.released ≡ set)
  loss_reports l o set new done left did f =
      let x : Slot = there.slot in
      let P : ℕ → Type 0 = λ q. Fits s h (by c (loss_what l q o set)) in
      let w = loss_reported s h c b x l old.closed old.places new done left o set homed there.is m.kept.closed_is (did x there.at) (subst P (sym there.id_is) f) in
      (sym w.0, sym w.1)

  -- an event that reports otherwise would fit with what came of the page
  pub loss_differs : (l : Loss) (o : Outcome) (set : List Bool) (new : PageStoreState) (done : Done) (left : Option ℕ) → ((x : Slot) → slot_at old.places.table b ≡ Some x → (q : ℕ) → None ≡ page_refusal x.page (loss_call l q)) →
      AtSlot old.places.table b (λ x. Lost l old.closed x old.places new b done left) → ((done.outcome ≡ o) × (done.released ≡ set) → ⊥) → IsMisfit s h (by c (loss_what l p o set)) (misfit.Outcome done.outcome done.released)
  loss_differs l o set new done left refuses did other =
      let x : Slot = there.slot in
      let allowed : refusal s h (loss_call l x.id) ≡ None = ap (λ q. refusal s h (loss_call l q)) there.id_is ∙ loss_refusal l ∙ sym (refuses x there.at p) in
      let fits : LossFits s h c x.id l done = loss_fits s h c b x l old.closed old.places new done left homed there.is m.kept.closed_is allowed (did x there.at) in
      let P : ℕ → Type 0 = λ q. Fits s h (by c (loss_what l q done.outcome done.released)) in
      (λ f. other (loss_reports l o set new done left did f), loss_other s h c p l o set done.outcome done.released (subst P there.id_is fits.fits) other)

-- a page with the next number doesn't live
new_dead : (s : Shape) (h : History) (p : ℕ) → IsLegal s h → p ≡ allocations h → is_live h p ≡ false
new_dead s h p legal number =
    let none = (legal_homed s h legal).grown.numbered.fresh p (omega (arith, number)) in ap (λ b. b && not (some_event (frees p) h)) none.never

-- a new page
pub alloc_new : (s : Shape) (h : History) (p : ℕ) (old : NodeState) → Means s h old → p ≡ old.next → (b : ℕ) → HoldsPage (slot_at old.places.table b) p → ⊥
alloc_new s h p old m e = next_is_new s h old.places.table old.places.queue p m.kept.node (e ∙ m.kept.next_is)

pub alloc_goes : (s : Shape) (h : History) (c p b : ℕ) (queued : Bool) (old new : NodeState) → Means s h old → old.closed ≡ false → p ≡ old.next → b < length old.places.table.slots →
    slot_at old.places.table b ≡ None → queued ≡ shrinks_underused old.shape → IsPlaced p queued old.places new.places b → new.shape ≡ old.shape → new.flights ≡ old.flights → new.next ≡ old.next + 1 →
    new.closed ≡ old.closed → Fits s h (by c (what.Alloc p b)) × Keeps s (h ++ by c (what.Alloc p b) ∷ []) new
alloc_goes s h c p b queued old new m unclosed number inside empty switch did shape fs next closed =
    let t = old.places.table in
    let q = old.places.queue in
    let e : Event = by c (what.Alloc p b) in
    let homed : Homed s h = legal_homed s h m.kept.node.legal in
    let allowed = allowed_alloc s h t q m.kept.node (sym m.kept.closed_is ∙ unclosed) (record { block = b; inside = inside; empty = empty }) in
    let fits : Fits s h e = placed_fits s h c p b t q homed m.kept.node allowed (number ∙ m.kept.next_is) inside empty in (
      fits,
      record {
        low = m.kept.low;
        shape_is = shape ∙ m.kept.shape_is;
        node = placed_node s h c p b homed fits queued old.places new.places m.kept.node inside (switch ∙ ap shrinks_underused m.kept.shape_is) did;
        flying = λ d. unmoved h (h ++ e ∷ []) d (blocks_in new.flights d) (flight_push h d c e.what) (λ r y. block_other h e r (other d r y)) (kept_blocks s h old new m fs d);
        room = ap (λ (f : FlightsState). length f.callers) fs ∙ m.kept.room;
        next_is = next ∙ ap (λ n. n + 1) m.kept.next_is ∙ sym (count_more is_alloc h e refl);
        closed_is = closed ∙ m.kept.closed_is ∙ sym (some_same closes h e refl);
      },
    ) where
      other : (d r : ℕ) → has_page r (flight h d) ≡ true → nat_eq r p ≡ false
      other d r y =
          by_bool (nat_eq r p) _
          (λ n. absurd (no_both (is_live h r) (ap (is_live h) (eqb-true r p n) ∙ new_dead s h p m.kept.node.legal (number ∙ m.kept.next_is)) (flies_live s h d r m.kept.node.legal y).0))
          (λ n. n)

pub alloc_closed : (s : Shape) (h : History) (c p b : ℕ) (old : NodeState) → Means s h old → old.closed ≡ true → IsMisfit s h (by c (what.Alloc p b)) (misfit.Refused reason.Closed)
alloc_closed s h c p b old m shut =
    let closed : is_closed h ≡ true = sym m.kept.closed_is ∙ shut in (λ f. no_both (is_closed h) (open_alloc s h f.allowed).0 closed, (closed, refl))

pub alloc_other : (s : Shape) (h : History) (c p b : ℕ) (old : NodeState) → Means s h old → old.closed ≡ false → p ≢ old.next → IsMisfit s h (by c (what.Alloc p b)) (misfit.Number old.next)
alloc_other s h c p b old m unclosed other = grind arith

-- a block with a page is in use
filled_use : (s : Shape) (h : History) (b : ℕ) (old : NodeState) → Means s h old → (b < length old.places.table.slots → IsSome (slot_at old.places.table b)) → b < s.blocks → block_in_use h b ≡ true
filled_use s h b old m taken inside = go (slot_at old.places.table b) refl (taken (omega (arith, inside, m.kept.node.size))) where
  go : (o : Option Slot) → slot_at old.places.table b ≡ o → IsSome o → block_in_use h b ≡ true
  go None e y = absurd (cc)
  go (Some x) e y = block_taken s h x.id b (legal_homed s h m.kept.node.legal) (slot_is s h old.places.table old.places.queue b x m.kept.node e).home

pub alloc_taken : (s : Shape) (h : History) (c p b : ℕ) (old : NodeState) → Means s h old → old.closed ≡ false → p ≡ old.next → (b < length old.places.table.slots → IsSome (slot_at old.places.table b)) →
    IsMisfit s h (by c (what.Alloc p b)) misfit.BlockTaken
alloc_taken s h c p b old m unclosed number taken = grind (arith, no_both, filled_use)

-- a close
pub close_goes : (s : Shape) (h : History) (c : ℕ) (old new : NodeState) → Means s h old → old.closed ≡ false → new.shape ≡ old.shape → new.places ≡ old.places → new.flights ≡ old.flights → new.next ≡ old.next →
    new.closed ≡ true → Fits s h (by c what.Close) × Keeps s (h ++ by c what.Close ∷ []) new
close_goes s h c old new m unclosed shape pages fs next closed =
    let e : Event = by c what.Close in
    let fits : Fits s h e = allowed_close s h (sym m.kept.closed_is ∙ unclosed) in
    let P : PageStoreState → Type 0 = λ k. IsNode s (h ++ e ∷ []) k.table k.queue in (
      fits,
      record {
        low = m.kept.low;
        shape_is = shape ∙ m.kept.shape_is;
        node = subst P (sym pages) (closed_node s h c old.places.table old.places.queue m.kept.node fits);
        flying = λ d. unmoved h (h ++ e ∷ []) d (blocks_in new.flights d) (flight_push h d c e.what) (λ r y. block_push h e r) (kept_blocks s h old new m fs d);
        room = ap (λ (f : FlightsState). length f.callers) fs ∙ m.kept.room;
        next_is = next ∙ m.kept.next_is ∙ sym (count_same is_alloc h e refl);
        closed_is = closed ∙ sym (some_event_push closes h e ∙ last (some_event closes h));
      },
    ) where
      last : (x : Bool) → (x || true) ≡ true
      last true = refl
      last false = refl

pub close_closed : (s : Shape) (h : History) (c : ℕ) (old : NodeState) → Means s h old → old.closed ≡ true → IsMisfit s h (by c what.Close) (misfit.Refused reason.Closed)
close_closed s h c old m shut = grind (arith, no_both, open_close, closed_again)
