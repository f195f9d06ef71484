-- What a replay means after a take, a try, a put-back and a drop.
use Rattle.std.proofs.Common.{◌≡◌, ◌≢◌, ℕ, Bool, true, false, cond, not, nat_eq, ◌||◌, List, [], ◌∷◌, ◌++◌, Option, Some, None, length, map, Contains, refl, ap, ap₂, sym, ◌∙◌, subst, arith, inl, inr, slice_get}
use Rattle.thp_history.specs.declared.events.Event.{Event}
use Rattle.thp_history.specs.declared.events.Outcome.{Outcome}
use Rattle.thp_history.specs.declared.events.What.{What}
use Rattle.thp_history.specs.declared.events.What.TheVariants as what
use Rattle.thp_history.specs.declared.shape.Shape.{Shape}
use Rattle.thp_history.specs.Prelude.{History, by, is_live, pins, Fits, FitsTaken, FitsSplit, IsLegal, is_dropped, PageState, PageSplit, gives_frames, is_split_candidate, queue, flight, has_page, no_pages, is_taking, is_worth_split, shrinks_underused}
use Rattle.thp_history.proofs.Flights.{flight_push}
use Rattle.thp_history.proofs.PageOutcomes.{released_alive}
use Rattle.thp_history.proofs.Pushes.{live_stays}
use Rattle.thp_history.proofs.Standing.{first_has}
use Rattle.thp_history.proofs.Tallying.{tallies_split, pins_is}
use Rattle.thp_page.specs.declared.standing.Standing.{Standing}
use Rattle.thp_page.specs.declared.standing.Standing.TheVariants.{Nowhere, Queued, Batch}
use Rattle.thp_page.specs.Prelude.{slot_at, HoldsPage, Slot}
use Rattle.thp_live_pages.specs.Prelude.{AtSlot, PageStoreState, Edits, IsElsewhere, Lost, TakesFirst, leaves_batch, IsFlyingAt, IsSlot, block_of, standing_of}
use Rattle.thp_live_pages.proofs.Admitting.{Found, found, at_home, flies_not_there, flies_nowhere}
use Rattle.thp_live_pages.proofs.Homing.{Homed, legal_homed, block_push}
use Rattle.thp_live_pages.proofs.Keeping.{blocks_same, blocks_pushed}
use Rattle.thp_live_pages.proofs.ListEvents.{first_is, taken_fits, taken_node, in_flight, flying_live, flying_whole, split_fits, split_node, pinned_fits, pinned_node, used_fits, used_node, back_fits, back_node, dropped_node}
use Rattle.thp_live_pages.proofs.Worth.{worth_is}
use Rattle.thp_live_pages.proofs.PageEvents.{slot_is}
use Rattle.thp_live_pages.proofs.Standings.{standing_queued, standing_flying}
use Rattle.thp_history.specs.declared.page_call.Done.{Done}
use Rattle.thp_history.specs.declared.page_call.Loss.{Loss}
use Rattle.thp_check.specs.Prelude.{NodeState, blocks_in, flight_left, Keeps, Means, IsMisfit, is_taker}
use Rattle.thp_check.specs.declared.misfit.Misfit.TheVariants as misfit
use Rattle.thp_check.proofs.FlightBlocks.{LiesAlone, LieIn, block_there, page_there, first_lies, first_page, none_first, none_there, unmoved, departed}
use Rattle.thp_check.proofs.Steps.{goes_on}

no_both : (z : Bool) → z ≡ false → z ≡ true → ⊥
no_both z e f = cc

neither : (a z : Bool) → (a || not z) ≡ false → (a ≡ false) × (z ≡ true)
neither x z e = grind arith

-- whether a caller may take
may_is : (s : Shape) (h : History) (c : ℕ) (old : NodeState) → Means s h old → (no_pages (blocks_in old.flights c) || is_taker old.taker c) ≡ (no_pages (flight h c) || is_taking h c)
may_is s h c old m = ap₂ (λ n t. n || t) (none_there h (flight h c) (blocks_in old.flights c) (m.kept.flying c)) (sym (m.taking c))

-- a page that lies somewhere lies there alone
alone : (s : Shape) (h : History) (p b : ℕ) → IsLegal s h → block_of h p ≡ Some b → LiesAlone h p b
alone s h p b legal home = (home, λ r y. (legal_homed s h legal).once r p b y home)

pub take_goes : (s : Shape) (h : History) (c p b : ℕ) (old new : NodeState) → Means s h old → HoldsPage (slot_at old.places.table b) p → (no_pages (blocks_in old.flights c) || is_taker old.taker c) ≡ true →
    TakesFirst old.places new.places c p → ((d : ℕ) → blocks_in new.flights d ≡ cond (nat_eq c d) (blocks_in old.flights d ++ b ∷ []) (blocks_in old.flights d)) →
    length new.flights.callers ≡ length old.flights.callers → new.shape ≡ old.shape → new.next ≡ old.next → new.closed ≡ old.closed → FitsTaken s h c p × Keeps s (h ++ by c (what.Taken p) ∷ []) new
take_goes s h c p b old new m held may took fs size shape next closed =
    let e : Event = by c (what.Taken p) in
    let k : History = h ++ e ∷ [] in
    let homed : Homed s h = legal_homed s h m.kept.node.legal in
    let there : Found s h old.places.table p b = found s h old.places.table old.places.queue p b m.kept.node held in
    let fits : Fits s h e = taken_fits s h c old.places new.places p homed m.kept.node took (sym (may_is s h c old m) ∙ may) in
    let flown : (d : ℕ) → LieIn k (flight k d) (blocks_in new.flights d) =
    λ d. ap (map (block_of k)) (flight_push h d c (what.Taken p)) ∙ blocks_same h k (cond (nat_eq c d) (flight h d ++ p ∷ []) (flight h d)) (λ r y. block_push h e r)
    ∙ longer d (nat_eq c d) there.home ∙ ap (map (λ n. Some n)) (sym (fs d)) in
    (fits, goes_on s h e old new m (taken_node s h c old.places new.places p homed m.kept.node took fits) flown size refl refl shape next closed) where
      longer : (d : ℕ) (x : Bool) → block_of h p ≡ Some b → LieIn h (cond x (flight h d ++ p ∷ []) (flight h d)) (cond x (blocks_in old.flights d ++ b ∷ []) (blocks_in old.flights d))
      longer d true home = blocks_pushed h (flight h d) (blocks_in old.flights d) p b (m.kept.flying d) home
      longer d false home = m.kept.flying d

-- a block in which the oldest page lies is in no flight
pub oldest_apart : (s : Shape) (h : History) (c p b : ℕ) (old : NodeState) (new : PageStoreState) → Means s h old → HoldsPage (slot_at old.places.table b) p → TakesFirst old.places new c p →
    (d : ℕ) → Contains (blocks_in old.flights d) b → ⊥
oldest_apart s h c p b old new m held took d i =
    let homed : Homed s h = legal_homed s h m.kept.node.legal in
    let there : Found s h old.places.table p b = found s h old.places.table old.places.queue p b m.kept.node held in
    let w = page_there h (flight h d) (blocks_in old.flights d) b (m.kept.flying d) i in
    let same : w.0 ≡ p = homed.once w.0 p b w.2 there.home in
    let queued : standing_of s h p ≡ Queued = standing_queued s h p (first_has p (queue s h) (first_is s h c old.places new p homed m.kept.node took)) in
    let flies : standing_of s h p ≡ Batch d = standing_flying s h p d homed.grown.sound (ap (λ r. has_page r (flight h d)) (sym same) ∙ w.1) in
    cc

pub same_slot : (x y : Slot) → Some x ≡ Some y → x ≡ y
same_slot x y e = cc

pub same_some : (a b : ℕ) → Some a ≡ Some b → a ≡ b
same_some a b e = cc

-- another page than the oldest, and a take where there is none
pub take_other : (s : Shape) (h : History) (c p first : ℕ) (old : NodeState) (new : PageStoreState) → Means s h old → TakesFirst old.places new c first → first ≢ p →
    IsMisfit s h (by c (what.Taken p)) (misfit.Oldest (Some first))
take_other s h c p first old new m took other =
    let oldest = first_is s h c old.places new first (legal_homed s h m.kept.node.legal) m.kept.node took in
    (λ f. other (same_some first p (sym oldest ∙ f.oldest)), (sym oldest, λ e. other (same_some first p e)))

pub take_none : (s : Shape) (h : History) (c p : ℕ) (old : NodeState) → Means s h old → slice_get old.places.queue 0 ≡ None → IsMisfit s h (by c (what.Taken p)) (misfit.Oldest None)
take_none s h c p old m none = grind (arith, slice_get, none_first)

-- a take by a caller who may not take
pub take_busy : (s : Shape) (h : History) (c p : ℕ) (old : NodeState) (new : PageStoreState) → Means s h old → TakesFirst old.places new c p → (no_pages (blocks_in old.flights c) || is_taker old.taker c) ≡ false →
    IsMisfit s h (by c (what.Taken p)) misfit.HasBatch
take_busy s h c p old new m took may =
    let busy = sym (may_is s h c old m) ∙ may in
    (λ f. no_both _ busy f.may_take, (first_is s h c old.places new p (legal_homed s h m.kept.node.legal) m.kept.node took, busy))

-- the block of the oldest page is the first of the queue
pub oldest_held : (old new : PageStoreState) (c p b : ℕ) → TakesFirst old new c p → slice_get old.queue 0 ≡ Some b → HoldsPage (slot_at old.table b) p
oldest_held old new c p b took first = grind (arith, same_some)

-- a page that isn't in the caller's batch isn't in its flight
pub elsewhere : (s : Shape) (h : History) (c p : ℕ) (old : NodeState) → Means s h old → IsElsewhere old.places.table c p → has_page p (flight h c) ≡ false
elsewhere s h c p old m e =
    let t = old.places.table in
    let q = old.places.queue in
    elim e [
      | inl none ↦ flies_nowhere s h t q c p m.kept.node none
      | inr w ↦
          let P : Option Slot → Type 0 = λ o. HoldsPage o p in
          let there : Found s h t p w.0 = found s h t q p w.0 m.kept.node (subst P (sym w.2) w.3) in
          flies_not_there s h t q c p w.0 m.kept.node there (λ y. w.4 (ap (λ (x : Slot). x.standing) (same_slot w.1 there.slot (sym w.2 ∙ there.at)) ∙ y))
    ]

pub split_absent : (s : Shape) (h : History) (c p : ℕ) (set : List Bool) (old : NodeState) → Means s h old → IsElsewhere old.places.table c p → IsMisfit s h (by c (what.Split p set)) misfit.NotInFlight
split_absent s h c p set old m e = let out = elsewhere s h c p old m e in (λ f. no_both _ out f.in_flight, out)

pub pinned_absent : (s : Shape) (h : History) (c p : ℕ) (old : NodeState) → Means s h old → IsElsewhere old.places.table c p → IsMisfit s h (by c (what.Pinned p)) misfit.NotInFlight
pinned_absent s h c p old m e = let out = elsewhere s h c p old m e in (λ f. no_both _ out f.0, out)

pub used_absent : (s : Shape) (h : History) (c p : ℕ) (old : NodeState) → Means s h old → IsElsewhere old.places.table c p → IsMisfit s h (by c (what.Used p)) misfit.NotInFlight
used_absent s h c p old m e = let out = elsewhere s h c p old m e in (λ f. no_both _ out f.0, out)

-- the page of the first block of a flight is its first, and stands in the caller's batch
pub first_flies : (s : Shape) (h : History) (c b : ℕ) (old : NodeState) → Means s h old → slice_get (blocks_in old.flights c) 0 ≡ Some b →
    (q : ℕ) × (slice_get (flight h c) 0 ≡ Some q) × IsFlyingAt old.places.table c q b
first_flies s h c b old m first =
    let w = first_lies h (flight h c) (blocks_in old.flights c) b (m.kept.flying c) first in
    let there : Found s h old.places.table w.0 b = at_home s h old.places.table old.places.queue w.0 b m.kept.node w.2 in
    let flies : has_page there.slot.id (flight h c) ≡ true = ap (λ r. has_page r (flight h c)) there.id_is ∙ first_has w.0 (flight h c) w.1 in (
      w.0,
      w.1,
      record {
        slot = there.slot;
        at = there.at;
        id_is = there.id_is;
        stands = there.is.stands ∙ standing_flying s h there.slot.id c (legal_homed s h m.kept.node.legal).grown.sound flies;
      },
    )

-- and it has the number that was read
pub first_number : (s : Shape) (h : History) (c b p : ℕ) (old : NodeState) → Means s h old → slice_get (blocks_in old.flights c) 0 ≡ Some b → AtSlot old.places.table b (λ x. p ≡ x.id) →
    (Some p ≡ slice_get (flight h c) 0) × IsFlyingAt old.places.table c p b
first_number s h c b p old m first read =
    let w = first_flies s h c b old m first in
    let same : w.0 ≡ p = sym w.2.id_is ∙ sym (read w.2.slot w.2.at) in
    let P : ℕ → Type 0 = λ q. IsFlyingAt old.places.table c q b in
    (sym (w.1 ∙ ap (λ (n : ℕ). Some n) same), subst P same w.2)

-- a flight without a block is empty
pub none_flies : (s : Shape) (h : History) (c : ℕ) (old : NodeState) → Means s h old → slice_get (blocks_in old.flights c) 0 ≡ None → None ≡ slice_get (flight h c) 0
none_flies s h c old m none = sym (none_first h (flight h c) (blocks_in old.flights c) (m.kept.flying c) none)

-- another page than the first of the flight
pub back_other : (s : Shape) (h : History) (c p : ℕ) (o : Option ℕ) → o ≡ slice_get (flight h c) 0 → o ≢ Some p → IsMisfit s h (by c (what.Back p)) (misfit.First o)
back_other s h c p o is other = (λ f. other (is ∙ f.0), (is, other))

pub dropped_other : (s : Shape) (h : History) (c p : ℕ) (o : Option ℕ) → o ≡ slice_get (flight h c) 0 → o ≢ Some p → IsMisfit s h (by c (what.Dropped p)) (misfit.First o)
dropped_other s h c p o is other = (λ f. other (is ∙ f.0), (is, other))

module _ (s : Shape) (h : History) (c p b : ℕ) (old : NodeState) (m : Means s h old) (at : IsFlyingAt old.places.table c p b) where
  homed : Homed s h
  homed = legal_homed s h m.kept.node.legal

  slot : IsSlot s h b at.slot
  slot = slot_is s h old.places.table old.places.queue b at.slot m.kept.node at.at

  home : block_of h at.slot.id ≡ Some b
  home = slot.home

  -- its block is one of the flight's, the first where the page is
  pub is_there : Contains (blocks_in old.flights c) b
  is_there =
      block_there h (flight h c) (blocks_in old.flights c) at.slot.id b (m.kept.flying c) (in_flight s h c b at.slot old.places old.places homed m.kept.node at.at at.stands) home

  first_is_first : slice_get (blocks_in old.flights c) 0 ≡ Some b → slice_get (flight h c) 0 ≡ Some at.slot.id
  first_is_first first = first_page h (flight h c) (blocks_in old.flights c) at.slot.id b (m.kept.flying c) (alone s h at.slot.id b m.kept.node.legal home) first

  first_is_this : slice_get (blocks_in old.flights c) 0 ≡ Some b → slice_get (flight h c) 0 ≡ Some p
  first_is_this first = first_is_first first ∙ ap (λ (n : ℕ). Some n) at.id_is

  flies : has_page p (flight h c) ≡ true
  flies = ap (λ r. has_page r (flight h c)) (sym at.id_is) ∙ in_flight s h c b at.slot old.places old.places homed m.kept.node at.at at.stands

  pinned_as : pins h p ≡ at.slot.page.pins
  pinned_as = ap (pins h) (sym at.id_is) ∙ pins_is s h at.slot.id at.slot.page slot.tallies

  -- a page in a batch isn't split
  pub flies_whole : (y : Slot) → slot_at old.places.table b ≡ Some y → y.page.split ≡ false
  flies_whole y e = ap (λ (z : Slot). z.page.split) (same_slot y at.slot (sym e ∙ at.at)) ∙ flying_whole s h c b at.slot old.places old.places homed m.kept.node at.at at.stands

  -- the flights once the page has left its batch
  left : (w : What) (new : NodeState) → ((d : ℕ) → blocks_in new.flights d ≡ flight_left (Some c) b d (blocks_in old.flights d)) →
      ((d : ℕ) → flight (h ++ by c w ∷ []) d ≡ flight_left (Some c) at.slot.id d (flight h d)) → ((r : ℕ) → block_of (h ++ by c w ∷ []) r ≡ block_of h r) →
      (d : ℕ) → LieIn (h ++ by c w ∷ []) (flight (h ++ by c w ∷ []) d) (blocks_in new.flights d)
  left w new fs is homes d =
      departed h (h ++ by c w ∷ []) d at.slot.id b (Some c) (blocks_in old.flights d) (is d) (λ r y. homes r) (alone s h at.slot.id b m.kept.node.legal home) (m.kept.flying d)
      ∙ ap (map (λ n. Some n)) (sym (fs d))

  -- whether it is worth a split, and what a split does, by the shape
  worth_at : (x : Bool) → is_split_candidate old.shape.underused at.slot.page ≡ x → is_split_candidate s.underused at.slot.page ≡ x
  worth_at x e = ap (λ (z : Shape). is_split_candidate z.underused at.slot.page) (sym m.kept.shape_is) ∙ e

  worth_as : is_split_candidate old.shape.underused at.slot.page ≡ is_worth_split s h p
  worth_as = sym (worth_at _ refl) ∙ worth_is s h at.slot.id at.slot.page slot.tallies ∙ ap (is_worth_split s h) at.id_is

  worthy : is_split_candidate old.shape.underused at.slot.page ≡ true → is_worth_split s h p ≡ true
  worthy e = sym worth_as ∙ e

  worthless : is_split_candidate old.shape.underused at.slot.page ≡ false → is_worth_split s h p ≡ false
  worthless e = sym worth_as ∙ e

  splits : (page : PageState) → PageSplit (shrinks_underused old.shape) at.slot.page page → PageSplit (shrinks_underused s) at.slot.page page
  splits page how = let P : Shape → Type 0 = λ z. PageSplit (shrinks_underused z) at.slot.page page in subst P m.kept.shape_is how

  pub split_goes : (set : List Bool) (new : NodeState) (page : PageState) → PageSplit (shrinks_underused old.shape) at.slot.page page → is_split_candidate old.shape.underused at.slot.page ≡ true → at.slot.page.pins ≡ 0 → set ≡ gives_frames at.slot.page page →
      Edits old.places new.places b (Some (record at.slot { page = page; standing = Nowhere })) old.places.queue 0 → ((d : ℕ) → blocks_in new.flights d ≡ flight_left (Some c) b d (blocks_in old.flights d)) → length new.flights.callers ≡ length old.flights.callers →
      new.shape ≡ old.shape → new.next ≡ old.next → new.closed ≡ old.closed → Fits s h (by c (what.Split p set)) × Keeps s (h ++ by c (what.Split p set) ∷ []) new
  split_goes set new page how worth none is did fs size shape next closed =
      let e : Event = by c (what.Split at.slot.id set) in
      let fits : Fits s h e = (split_fits s h c b at.slot old.places new.places homed m.kept.node at.at at.stands page set (splits page how) (worth_at true worth) none is).1 in
      let node = split_node s h c b at.slot old.places new.places homed m.kept.node at.at at.stands page set (splits page how) fits did in
      let P : ℕ → Type 0 = λ q. Fits s h (by c (what.Split q set)) × Keeps s (h ++ by c (what.Split q set) ∷ []) new in
      subst P at.id_is (fits, goes_on s h e old new m node (left (what.Split at.slot.id set) new fs (λ d. flight_push h d c (what.Split at.slot.id set)) (λ r. block_push h e r)) size refl refl shape next closed)

  -- where the event fits, it reports the frames that the split gives back
  pub split_reports : (set : List Bool) (page : PageState) → PageSplit (shrinks_underused old.shape) at.slot.page page → Fits s h (by c (what.Split p set)) → gives_frames at.slot.page page ≡ set
  split_reports set page how f =
      let P : ℕ → Type 0 = λ q. FitsSplit s h (h ++ by c (what.Split q set) ∷ []) c q set in
      let reported : P at.slot.id = subst P (sym at.id_is) f in
      let e : Event = by c (what.Split at.slot.id set) in
      let live : is_live h at.slot.id ≡ true = flying_live s h c b at.slot old.places old.places homed m.kept.node at.at at.stands in
      sym
      (reported.set_is
      ∙ released_alive s h (h ++ e ∷ []) at.slot.id at.slot.page page slot.tallies (tallies_split s h c at.slot.id set at.slot.page page slot.tallies (splits page how)) live (live_stays h e at.slot.id refl refl ∙ live))

  -- an event that reports other frames would fit with these
  pub split_differs : (set : List Bool) (page : PageState) (given : List Bool) → PageSplit (shrinks_underused old.shape) at.slot.page page → is_split_candidate old.shape.underused at.slot.page ≡ true → at.slot.page.pins ≡ 0 →
      given ≡ gives_frames at.slot.page page → given ≢ set → IsMisfit s h (by c (what.Split p set)) (misfit.Released given)
  split_differs set page given how worth none is other =
      let fits : Fits s h (by c (what.Split at.slot.id given)) = (split_fits s h c b at.slot old.places old.places homed m.kept.node at.at at.stands page given (splits page how) (worth_at true worth) none is).1 in
      let P : ℕ → Type 0 = λ q. Fits s h (by c (what.Split q given)) in
      (λ f. other (is ∙ split_reports set page how f), (subst P at.id_is fits, λ e. other (cc)))

  pub split_pinned : (set : List Bool) → is_split_candidate old.shape.underused at.slot.page ≡ true → at.slot.page.pins ≢ 0 → IsMisfit s h (by c (what.Split p set)) misfit.HasPins
  split_pinned set worth some = (λ f. some (sym pinned_as ∙ f.unpinned), ((flies, worthy worth), λ e. some (sym pinned_as ∙ e)))

  pub split_idle : (set : List Bool) → is_split_candidate old.shape.underused at.slot.page ≡ false → IsMisfit s h (by c (what.Split p set)) misfit.InUse
  split_idle set idle = (λ f. no_both _ (worthless idle) f.worth, (flies, worthless idle))

  pub pinned_goes : is_split_candidate old.shape.underused at.slot.page ≡ true → at.slot.page.pins ≢ 0 → Fits s h (by c (what.Pinned p)) × Keeps s (h ++ by c (what.Pinned p) ∷ []) old
  pinned_goes worth some =
      let e : Event = by c (what.Pinned at.slot.id) in
      let fits : Fits s h e = (pinned_fits s h c b at.slot old.places old.places homed m.kept.node at.at at.stands at.slot.page.pins (worth_at true worth) refl (omega (arith, some))).1 in
      let P : ℕ → Type 0 = λ q. Fits s h (by c (what.Pinned q)) × Keeps s (h ++ by c (what.Pinned q) ∷ []) old in
      subst P at.id_is
      (fits, goes_on s h e old old m (pinned_node s h c at.slot.id old.places.table old.places.queue m.kept.node fits) (λ d. unmoved h (h ++ e ∷ []) d (blocks_in old.flights d) (flight_push h d c e.what) (λ r y. block_push h e r) (m.kept.flying d)) refl refl refl refl refl refl)

  pub pinned_not : at.slot.page.pins ≡ 0 → IsMisfit s h (by c (what.Pinned p)) misfit.NoPins
  pinned_not none = (λ f. omega (arith, f.1, pinned_as, none), (flies, pinned_as ∙ none))

  pub pinned_idle : is_split_candidate old.shape.underused at.slot.page ≡ false → at.slot.page.pins ≢ 0 → IsMisfit s h (by c (what.Pinned p)) misfit.InUse
  pinned_idle idle some = (λ f. no_both _ (worthless idle) f.2, ((flies, worthless idle), λ e. some (sym pinned_as ∙ e)))

  pub used_goes : (new : NodeState) → is_split_candidate old.shape.underused at.slot.page ≡ false → Edits old.places new.places b (Some (record at.slot { standing = Nowhere })) old.places.queue 0 →
      ((d : ℕ) → blocks_in new.flights d ≡ flight_left (Some c) b d (blocks_in old.flights d)) → length new.flights.callers ≡ length old.flights.callers → new.shape ≡ old.shape → new.next ≡ old.next → new.closed ≡ old.closed →
      Fits s h (by c (what.Used p)) × Keeps s (h ++ by c (what.Used p) ∷ []) new
  used_goes new idle did fs size shape next closed =
      let e : Event = by c (what.Used at.slot.id) in
      let fits : Fits s h e = (used_fits s h c b at.slot old.places old.places homed m.kept.node at.at at.stands (worth_at false idle)).1 in
      let P : ℕ → Type 0 = λ q. Fits s h (by c (what.Used q)) × Keeps s (h ++ by c (what.Used q) ∷ []) new in
      subst P at.id_is
      (fits, goes_on s h e old new m (used_node s h c b at.slot old.places new.places homed m.kept.node at.at at.stands fits did) (left (what.Used at.slot.id) new fs (λ d. flight_push h d c (what.Used at.slot.id)) (λ r. block_push h e r)) size refl refl shape next closed)

  pub used_not : is_split_candidate old.shape.underused at.slot.page ≡ true → IsMisfit s h (by c (what.Used p)) misfit.WorthSplit
  used_not worth = (λ f. no_both (is_worth_split s h p) f.1 (worthy worth), (flies, worthy worth))

  -- it goes nowhere where the node is closed or the page isn't partly mapped
  dropped_as : (old.closed || not at.slot.page.partly) ≡ is_dropped s h at.slot.id
  dropped_as = ap₂ (λ a z. a || not z) m.kept.closed_is slot.tallies.partly

  pub back_goes : (new : NodeState) → (old.closed || not at.slot.page.partly) ≡ false → slice_get (blocks_in old.flights c) 0 ≡ Some b →
      Edits old.places new.places b (Some (record at.slot { standing = Queued })) (old.places.queue ++ b ∷ []) 4 → ((d : ℕ) → blocks_in new.flights d ≡ flight_left (Some c) b d (blocks_in old.flights d)) → length new.flights.callers ≡ length old.flights.callers → new.shape ≡ old.shape → new.next ≡ old.next → new.closed ≡ old.closed →
      Fits s h (by c (what.Back p)) × Keeps s (h ++ by c (what.Back p) ∷ []) new
  back_goes new stays first did fs size shape next closed =
      let e : Event = by c (what.Back at.slot.id) in
      let parts = neither old.closed at.slot.page.partly stays in
      let fits : Fits s h e = (back_fits s h c b at.slot old.places old.places homed m.kept.node at.at at.stands (first_is_first first) (sym m.kept.closed_is ∙ parts.0) parts.1).1 in
      let P : ℕ → Type 0 = λ q. Fits s h (by c (what.Back q)) × Keeps s (h ++ by c (what.Back q) ∷ []) new in
      subst P at.id_is
      (fits, goes_on s h e old new m (back_node s h c b at.slot old.places new.places homed m.kept.node at.at at.stands fits did) (left (what.Back at.slot.id) new fs (λ d. flight_push h d c (what.Back at.slot.id)) (λ r. block_push h e r)) size refl refl shape next closed)

  pub back_dropped : (old.closed || not at.slot.page.partly) ≡ true → slice_get (blocks_in old.flights c) 0 ≡ Some b → IsMisfit s h (by c (what.Back p)) misfit.MustDrop
  back_dropped out first = grind (arith, dropped_as, no_both, first_is_this)

  pub dropped_goes : (new : NodeState) → (old.closed || not at.slot.page.partly) ≡ true → slice_get (blocks_in old.flights c) 0 ≡ Some b →
      Edits old.places new.places b (Some (record at.slot { standing = Nowhere })) old.places.queue 0 → ((d : ℕ) → blocks_in new.flights d ≡ flight_left (Some c) b d (blocks_in old.flights d)) → length new.flights.callers ≡ length old.flights.callers → new.shape ≡ old.shape → new.next ≡ old.next → new.closed ≡ old.closed →
      Fits s h (by c (what.Dropped p)) × Keeps s (h ++ by c (what.Dropped p) ∷ []) new
  dropped_goes new out first did fs size shape next closed =
      let e : Event = by c (what.Dropped at.slot.id) in
      let fits : Fits s h e = (first_is_first first, sym dropped_as ∙ out) in
      let P : ℕ → Type 0 = λ q. Fits s h (by c (what.Dropped q)) × Keeps s (h ++ by c (what.Dropped q) ∷ []) new in
      subst P at.id_is
      (fits, goes_on s h e old new m (dropped_node s h c b at.slot old.places new.places homed m.kept.node at.at at.stands fits did) (left (what.Dropped at.slot.id) new fs (λ d. flight_push h d c (what.Dropped at.slot.id)) (λ r. block_push h e r)) size refl refl shape next closed)

  pub dropped_not : (old.closed || not at.slot.page.partly) ≡ false → slice_get (blocks_in old.flights c) 0 ≡ Some b → IsMisfit s h (by c (what.Dropped p)) misfit.MustRequeue
  dropped_not stays first = grind (arith, dropped_as, no_both, first_is_this)

-- the caller whose batch a page leaves by a loss is the one in whose batch it stands
leaver_is : (o : Outcome) (w : Standing) (d : ℕ) → leaves_batch o w ≡ Some d → w ≡ Batch d
leaver_is x y d e = grind (arith, same_some)

-- the block of a page that leaves a batch by a loss is one of the flight's
pub lost_there : (s : Shape) (h : History) (p b : ℕ) (old : NodeState) → Means s h old → HoldsPage (slot_at old.places.table b) p → (l : Loss) (new : PageStoreState) (done : Done) (left : Option ℕ) →
    AtSlot old.places.table b (λ x. Lost l old.closed x old.places new b done left) → (d : ℕ) → left ≡ Some d → Contains (blocks_in old.flights d) b
lost_there s h p b old m held l new done left lost d e =
    let there : Found s h old.places.table p b = found s h old.places.table old.places.queue p b m.kept.node held in
    let stands : there.slot.standing ≡ Batch d = leaver_is done.outcome there.slot.standing d (sym (lost there.slot there.at).left_is ∙ e) in
    is_there s h d p b old m (record { slot = there.slot; at = there.at; id_is = there.id_is; stands = stands })
