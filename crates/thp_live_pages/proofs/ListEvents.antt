-- A node after an allocation, a close, and what becomes of pages in the queue and in batches.
use Rattle.std.proofs.Common.{◌≡◌, ℕ, ◌<◌, Bool, true, false, cond, not, ◌&&◌, ◌||◌, List, [], ◌∷◌, ◌++◌, Option, Some, None, length, drop, map, refl, ap, sym, ◌∙◌, subst, arith, nat_eq, eq-eqb, ne_eqb, eqb-true, slice_get}
use Rattle.thp_links.proofs.Members.{first_and_rest}
use Rattle.thp_history.specs.declared.events.Event.{Event}
use Rattle.thp_history.specs.declared.events.What.TheVariants as what
use Rattle.thp_history.specs.declared.shape.Shape.{Shape}
use Rattle.thp_history.specs.Prelude.{History, by, some_event, is_live, is_closed, pins, allocations, frees, Fits, PageState, Tallies, PageSplit, IsFresh, gives_frames, is_split_candidate, queue, queue_after, flights, flight, has_page, no_pages, is_taking, leaves, refusal, unused, try_event, return_event, shrinks_underused, is_worth_split}
use Rattle.thp_history.specs.Refusals as call
use Rattle.thp_history.proofs.Alive.{legal_grown}
use Rattle.thp_history.proofs.Bools.{by_bool}
use Rattle.thp_history.proofs.Flights.{flight_push}
use Rattle.thp_history.proofs.LegalSteps.{legal_push}
use Rattle.thp_history.proofs.Numbers.{Fresh}
use Rattle.thp_history.proofs.OnePlace.{flies_stands, has_times}
use Rattle.thp_history.proofs.PageOutcomes.{released_alive, unused_is}
use Rattle.thp_history.proofs.Pushes.{queue_push, flights_push, live_stays}
use Rattle.thp_history.proofs.Standing.{Sound, stand, times, flying, flying-leaves}
use Rattle.thp_history.proofs.Tallying.{tallies_alloc, tallies_split, tallies_stay, pins_is}
use Rattle.thp_history.proofs.Untouched.{Untouched, untouched}
use Rattle.thp_page.specs.declared.standing.Standing.TheVariants.{Nowhere, Queued, Batch}
use Rattle.thp_page.specs.Prelude.{Slot, Table, slot_at}
use Rattle.thp_live_pages.specs.Prelude.{PageStoreState, Edits, IsPlaced, TakesFirst, new_standing, new_queue, IsSlot, Fills, IsNode, block_of, standing_of}
use Rattle.thp_live_pages.proofs.Homing.{Homed, block_push, block_free}
use Rattle.thp_live_pages.proofs.Keeping.{node_moved, node_stays, blocks_same, blocks_pushed}
use Rattle.thp_live_pages.proofs.PageEvents.{slot_inside, slot_is, only_in}
use Rattle.thp_live_pages.proofs.Standings.{standing_same, standing_queued, standing_flying, standing_none, has_pushed, batch_has}
use Rattle.thp_live_pages.proofs.Worth.{worth_is}

no_both : (z : Bool) → z ≡ false → z ≡ true → ⊥
no_both z e f = cc

-- a page that isn't live stands nowhere and lies nowhere
module _ (s : Shape) (h : History) (p : ℕ) (dead : is_live h p ≡ false) where
  dead_block : Homed s h → (k : ℕ) → block_of h p ≡ Some k → ⊥
  dead_block homed k e = no_both (is_live h p) dead (homed.from p k e).live

  dead_stand : Sound s h → stand s h p ≡ 0
  dead_stand sound = grind (arith, stand, no_both)

fresh_dead : (h : History) (p : ℕ) → Fresh h p → is_live h p ≡ false
fresh_dead h p f = ap (λ b. b && not (some_event (frees p) h)) f.never

-- a new page
pub placed_fits : (s : Shape) (h : History) (c p b : ℕ) (t : Table) (q : List ℕ) → Homed s h → IsNode s h t q → refusal s h call.alloc_page ≡ None → p ≡ allocations h →
    b < length t.slots → slot_at t b ≡ None → Fits s h (by c (what.Alloc p b))
placed_fits s h c p b t q homed m allowed number inside empty = record {
  allowed = allowed;
  number = number;
  inside = omega (arith, m.size);
  free = let P : Option Slot → Type 0 = λ o. Fills s h b o in block_free s h b homed (subst P empty (m.fills b));
}

-- what the history says of a new page
module _ (s : Shape) (h : History) (c p b : ℕ) (homed : Homed s h) (fits : Fits s h (by c (what.Alloc p b))) where
  abbrev placed_event : Event
  placed_event = by c (what.Alloc p b)

  abbrev placed_history : History
  placed_history = h ++ placed_event ∷ []

  new_number : Fresh h p
  new_number = homed.grown.numbered.fresh p (omega (arith, fits.number))

  new_home : block_of placed_history p ≡ Some b
  new_home = block_push h placed_event p ∙ ap (λ z. cond z (Some b) (block_of h p)) (eq-eqb p p refl)

  -- it joins the queue where the switch is on
  new_joins : (queued : Bool) → queued ≡ shrinks_underused s → queue_after s (queue s h) (what.Alloc p b) ≡ cond queued (queue s h ++ p ∷ []) (queue s h)
  new_joins queued e = ap (λ z. cond z (queue s h ++ p ∷ []) (queue s h)) (sym e)

  new_stands : (queued : Bool) → queued ≡ shrinks_underused s → new_standing queued ≡ standing_of s placed_history p
  new_stands x e = grind (arith, standing_queued, queue_push, new_joins, has_pushed, standing_same, standing_none, dead_stand, fresh_dead, new_number)

  queued_live : (r : ℕ) → has_page r (queue s h) ≡ true → is_live h r ≡ true
  queued_live r y = homed.grown.sound.live r (omega (arith, has_times r (queue s h) y))

  other : (r : ℕ) → has_page r (queue s h) ≡ true → nat_eq r p ≡ false
  other r y = by_bool (nat_eq r p) _ (λ n. absurd (no_both (is_live h r) (ap (is_live h) (eqb-true r p n) ∙ fresh_dead h p new_number) (queued_live r y))) (λ n. n)

  queue_stays : map (block_of placed_history) (queue s h) ≡ map (block_of h) (queue s h)
  queue_stays = blocks_same h placed_history (queue s h) (λ r y. block_push h placed_event r ∙ ap (λ z. cond z (Some b) (block_of h r)) (other r y))

  new_blocks : (queued : Bool) (qs : List ℕ) → map (block_of h) (queue s h) ≡ map (λ n. Some n) qs →
      map (block_of placed_history) (cond queued (queue s h ++ p ∷ []) (queue s h)) ≡ map (λ n. Some n) (new_queue queued b qs)
  new_blocks x qs e = grind (arith, blocks_pushed, queue_stays, new_home)

  pub placed_node : (queued : Bool) (old new : PageStoreState) → IsNode s h old.table old.queue → b < length old.table.slots → queued ≡ shrinks_underused s → IsPlaced p queued old new b →
      IsNode s placed_history new.table new.queue
  placed_node queued old new m inside switch placed =
      let did = placed.edits in
      let P : ℕ → Type 0 = λ o. IsFresh o placed.page in
      node_moved s h placed_event p b old.table new.table old.queue new.queue (Some (record { id = p; page = placed.page; standing = new_standing queued })) m fits
      (λ r n. eqb-true r p n)
      (λ j y. absurd (dead_block s h p (fresh_dead h p new_number) homed j y))
      (only_in placed_history p b new_home)
      did.slots did.order (omega (arith, m.size))
      (record { home = new_home; tallies = tallies_alloc s h c p b placed.page new_number (subst P m.order placed.fresh); stands = new_stands queued switch })
      (ap (map (block_of placed_history)) (queue_push s h placed_event ∙ new_joins queued switch) ∙ new_blocks queued old.queue m.queue_is ∙ ap (map (λ n. Some n)) (sym did.queue_is))

-- the oldest page of the queue
module _ (s : Shape) (h : History) (c : ℕ) (old new : PageStoreState) (p : ℕ) (homed : Homed s h) (m : IsNode s h old.table old.queue) (took : TakesFirst old new c p) where
  first_parts : (ps : List ℕ) → map (block_of h) ps ≡ map (λ n. Some n) (took.block ∷ drop 1 old.queue) → slice_get ps 0 ≡ Some p × (drop 1 (map (block_of h) ps) ≡ map (λ n. Some n) (drop 1 old.queue))
  first_parts [] e = absurd (cc)
  first_parts (x ∷ ps) e =
      let here : block_of h x ≡ Some took.block = cc in
      let was : IsSlot s h took.block took.slot = slot_is s h old.table old.queue took.block took.slot m took.at in
      let same : x ≡ took.slot.id = homed.once x took.slot.id took.block here was.home in
      (ap (λ (n : ℕ). Some n) (same ∙ sym took.id_is), cc)

  blocks_first : map (block_of h) (queue s h) ≡ map (λ n. Some n) (took.block ∷ drop 1 old.queue)
  blocks_first = m.queue_is ∙ ap (map (λ n. Some n)) (first_and_rest old.queue took.block took.first)

  pub first_is : slice_get (queue s h) 0 ≡ Some p
  first_is = (first_parts (queue s h) blocks_first).0

  map_rest : (ps : List ℕ) → map (block_of h) (drop 1 ps) ≡ drop 1 (map (block_of h) ps)
  map_rest x = grind arith

  pub taken_fits : (no_pages (flight h c) || is_taking h c) ≡ true → Fits s h (by c (what.Taken p))
  taken_fits may = record { oldest = first_is; may_take = may }

  pub taken_node : Fits s h (by c (what.Taken p)) → IsNode s (h ++ by c (what.Taken p) ∷ []) new.table new.queue
  taken_node fits =
      let e : Event = by c (what.Taken p) in
      let k : History = h ++ e ∷ [] in
      let x : Slot = took.slot in
      let was : IsSlot s h took.block x = slot_is s h old.table old.queue took.block x m took.at in
      let sound : Sound s k = (legal_grown s k (legal_push s h e m.legal fits)).sound in
      let joins : flight k c ≡ flight h c ++ p ∷ [] = flight_push h c c (what.Taken p) ∙ ap (λ z. cond z (flight h c ++ p ∷ []) (flight h c)) (eq-eqb c c refl) in
      let flies : has_page x.id (flight k c) ≡ true = ap (λ z. has_page z (flight k c)) (sym took.id_is) ∙ ap (has_page p) joins ∙ has_pushed p (flight h c) in
      node_moved s h e x.id took.block old.table new.table old.queue new.queue (Some (record x { standing = Batch c })) m fits
      (λ r n. eqb-true r p n ∙ took.id_is)
      (only_in h x.id took.block was.home)
      (only_in k x.id took.block (block_push h e x.id ∙ was.home))
      took.edits.slots took.edits.order (omega (arith, m.size, slot_inside old.table took.block x took.at))
      (record {
        home = block_push h e x.id ∙ was.home;
        tallies = tallies_stay s h e x.id x.page (untouched x.id (what.Taken p) refl) was.tallies;
        stands = sym (standing_flying s k x.id c sound flies);
      })
      (ap (map (block_of k)) (queue_push s h e) ∙ blocks_same h k (drop 1 (queue s h)) (λ r y. block_push h e r) ∙ map_rest (queue s h) ∙ (first_parts (queue s h) blocks_first).1
      ∙ ap (map (λ n. Some n)) (sym took.edits.queue_is))

-- a page in a caller's batch
module _ (s : Shape) (h : History) (c b : ℕ) (x : Slot) (old new : PageStoreState) (homed : Homed s h) (m : IsNode s h old.table old.queue) (at : slot_at old.table b ≡ Some x)
    (flies : x.standing ≡ Batch c) where
  was_slot : IsSlot s h b x
  was_slot = slot_is s h old.table old.queue b x m at

  pub in_flight : has_page x.id (flight h c) ≡ true
  in_flight = (batch_has s h x.id c (sym was_slot.stands ∙ flies)).0

  pub flying_live : is_live h x.id ≡ true
  flying_live = (homed.from x.id b was_slot.home).live

  pub flying_whole : x.page.split ≡ false
  flying_whole = was_slot.tallies.split ∙ homed.grown.sound.whole_page x.id (flies_stands s h c x.id in_flight)

  -- it stands nowhere once it has left
  gone_stand : (e : Event) → queue s (h ++ e ∷ []) ≡ queue s h → flights (h ++ e ∷ []) ≡ leaves c x.id (flights h) → standing_of s (h ++ e ∷ []) x.id ≡ Nowhere
  gone_stand e qs fs = grind (arith, standing_none, times, flying, flying-leaves, in_flight)

  -- whether a split is worth its while, by the page
  flying_worth : (y : Bool) → is_split_candidate s.underused x.page ≡ y → is_worth_split s h x.id ≡ y
  flying_worth y e = sym (worth_is s h x.id x.page was_slot.tallies) ∙ e

  -- a try of a page that is worth a split
  tried_worth : is_worth_split s h x.id ≡ true → try_event s h c x.id ≡ by c (cond (nat_eq (pins h x.id) 0) (what.Split x.id (unused s h x.id)) (what.Pinned x.id))
  tried_worth e = ap (λ z. by c (cond z (cond (nat_eq (pins h x.id) 0) (what.Split x.id (unused s h x.id)) (what.Pinned x.id)) (what.Used x.id))) e

  pub split_fits : (page : PageState) (set : List Bool) → PageSplit (shrinks_underused s) x.page page → is_split_candidate s.underused x.page ≡ true → x.page.pins ≡ 0 → set ≡ gives_frames x.page page →
      (by c (what.Split x.id set) ≡ try_event s h c x.id) × Fits s h (by c (what.Split x.id set))
  split_fits page set how worth none is =
      let e : Event = by c (what.Split x.id set) in
      let pinned : pins h x.id ≡ 0 = pins_is s h x.id x.page was_slot.tallies ∙ none in
      let after : Tallies s (h ++ e ∷ []) x.id page = tallies_split s h c x.id set x.page page was_slot.tallies how in
      let lives : is_live (h ++ e ∷ []) x.id ≡ true = live_stays h e x.id refl refl ∙ flying_live in
      let what_is : set ≡ unused s h x.id = is ∙ sym (unused_is s h x.id x.page page was_slot.tallies flying_live flying_whole how) in (
        ap (λ r. by c (what.Split x.id r)) what_is ∙ sym (tried_worth (flying_worth true worth) ∙ ap (λ n. by c (cond (nat_eq n 0) (what.Split x.id (unused s h x.id)) (what.Pinned x.id))) pinned),
        record {
          in_flight = in_flight;
          worth = flying_worth true worth;
          unpinned = pinned;
          set_is = is ∙ sym (released_alive s h (h ++ e ∷ []) x.id x.page page was_slot.tallies after flying_live lives);
        },
      )

  pub split_node : (page : PageState) (set : List Bool) → PageSplit (shrinks_underused s) x.page page → Fits s h (by c (what.Split x.id set)) →
      Edits old new b (Some (record x { page = page; standing = Nowhere })) old.queue 0 → IsNode s (h ++ by c (what.Split x.id set) ∷ []) new.table new.queue
  split_node page set how fits did =
      let e : Event = by c (what.Split x.id set) in
      let k : History = h ++ e ∷ [] in
      node_moved s h e x.id b old.table new.table old.queue new.queue (Some (record x { page = page; standing = Nowhere })) m fits
      (λ r n. eqb-true r x.id n)
      (only_in h x.id b was_slot.home)
      (only_in k x.id b (block_push h e x.id ∙ was_slot.home))
      did.slots did.order (omega (arith, m.size, slot_inside old.table b x at))
      (record {
        home = block_push h e x.id ∙ was_slot.home;
        tallies = tallies_split s h c x.id set x.page page was_slot.tallies how;
        stands = sym (gone_stand e (queue_push s h e) (flights_push h e));
      })
      (ap (map (block_of k)) (queue_push s h e) ∙ blocks_same h k (queue s h) (λ r y. block_push h e r) ∙ m.queue_is ∙ ap (map (λ n. Some n)) (sym did.queue_is))

  pub pinned_fits : (n : ℕ) → is_split_candidate s.underused x.page ≡ true → x.page.pins ≡ n → 0 < n → (by c (what.Pinned x.id) ≡ try_event s h c x.id) × Fits s h (by c (what.Pinned x.id))
  pinned_fits n worth is some = grind (arith, pins_is, was_slot, tried_worth, flying_worth, in_flight, nat_eq, ne_eqb)

  pub used_fits : is_split_candidate s.underused x.page ≡ false → (by c (what.Used x.id) ≡ try_event s h c x.id) × Fits s h (by c (what.Used x.id))
  used_fits none = grind (arith, nat_eq, flying_worth, in_flight)

  -- a page goes back where it is partly mapped and the node is open, else it is dropped
  pub back_fits : slice_get (flight h c) 0 ≡ Some x.id → is_closed h ≡ false → x.page.partly ≡ true → (by c (what.Back x.id) ≡ return_event s h c x.id) × Fits s h (by c (what.Back x.id))
  back_fits first opened partly = grind (arith, was_slot)

  pub dropped_fits : slice_get (flight h c) 0 ≡ Some x.id → (is_closed h || not x.page.partly) ≡ true → (by c (what.Dropped x.id) ≡ return_event s h c x.id) × Fits s h (by c (what.Dropped x.id))
  dropped_fits first out = grind (arith, was_slot)

  pub back_node : Fits s h (by c (what.Back x.id)) → Edits old new b (Some (record x { standing = Queued })) (old.queue ++ b ∷ []) 4 →
      IsNode s (h ++ by c (what.Back x.id) ∷ []) new.table new.queue
  back_node fits did =
      let e : Event = by c (what.Back x.id) in
      let k : History = h ++ e ∷ [] in
      node_moved s h e x.id b old.table new.table old.queue new.queue (Some (record x { standing = Queued })) m fits
      (λ r n. eqb-true r x.id n)
      (only_in h x.id b was_slot.home)
      (only_in k x.id b (block_push h e x.id ∙ was_slot.home))
      did.slots did.order (omega (arith, m.size, slot_inside old.table b x at))
      (record {
        home = block_push h e x.id ∙ was_slot.home;
        tallies = tallies_stay s h e x.id x.page (untouched x.id (what.Back x.id) refl) was_slot.tallies;
        stands = sym (standing_queued s k x.id (ap (has_page x.id) (queue_push s h e) ∙ has_pushed x.id (queue s h)));
      })
      (ap (map (block_of k)) (queue_push s h e) ∙ blocks_same h k (queue s h ++ x.id ∷ []) (λ r y. block_push h e r)
      ∙ blocks_pushed h (queue s h) old.queue x.id b m.queue_is was_slot.home ∙ ap (map (λ n. Some n)) (sym did.queue_is))

  pub dropped_node : Fits s h (by c (what.Dropped x.id)) → Edits old new b (Some (record x { standing = Nowhere })) old.queue 0 →
      IsNode s (h ++ by c (what.Dropped x.id) ∷ []) new.table new.queue
  dropped_node fits did =
      let e : Event = by c (what.Dropped x.id) in
      let k : History = h ++ e ∷ [] in
      node_moved s h e x.id b old.table new.table old.queue new.queue (Some (record x { standing = Nowhere })) m fits
      (λ r n. eqb-true r x.id n)
      (only_in h x.id b was_slot.home)
      (only_in k x.id b (block_push h e x.id ∙ was_slot.home))
      did.slots did.order (omega (arith, m.size, slot_inside old.table b x at))
      (record {
        home = block_push h e x.id ∙ was_slot.home;
        tallies = tallies_stay s h e x.id x.page (untouched x.id (what.Dropped x.id) refl) was_slot.tallies;
        stands = sym (gone_stand e (queue_push s h e) (flights_push h e));
      })
      (ap (map (block_of k)) (queue_push s h e) ∙ blocks_same h k (queue s h) (λ r y. block_push h e r) ∙ m.queue_is ∙ ap (map (λ n. Some n)) (sym did.queue_is))

  pub used_node : Fits s h (by c (what.Used x.id)) → Edits old new b (Some (record x { standing = Nowhere })) old.queue 0 →
      IsNode s (h ++ by c (what.Used x.id) ∷ []) new.table new.queue
  used_node fits did =
      let e : Event = by c (what.Used x.id) in
      let k : History = h ++ e ∷ [] in
      node_moved s h e x.id b old.table new.table old.queue new.queue (Some (record x { standing = Nowhere })) m fits
      (λ r n. eqb-true r x.id n)
      (only_in h x.id b was_slot.home)
      (only_in k x.id b (block_push h e x.id ∙ was_slot.home))
      did.slots did.order (omega (arith, m.size, slot_inside old.table b x at))
      (record {
        home = block_push h e x.id ∙ was_slot.home;
        tallies = tallies_stay s h e x.id x.page (untouched x.id (what.Used x.id) refl) was_slot.tallies;
        stands = sym (gone_stand e (queue_push s h e) (flights_push h e));
      })
      (ap (map (block_of k)) (queue_push s h e) ∙ blocks_same h k (queue s h) (λ r y. block_push h e r) ∙ m.queue_is ∙ ap (map (λ n. Some n)) (sym did.queue_is))

-- an event that changes no page, no place and no block
pub quiet_node : (s : Shape) (h : History) (e : Event) (t : Table) (q : List ℕ) → IsNode s h t q → Fits s h e → ((r : ℕ) → Untouched r e.what) → queue s (h ++ e ∷ []) ≡ queue s h → flights (h ++ e ∷ []) ≡ flights h →
    ((r : ℕ) → block_of (h ++ e ∷ []) r ≡ block_of h r) → IsNode s (h ++ e ∷ []) t q
quiet_node s h e t q m f quiet qs fs homes =
    node_stays s h e 0 0 t t q q m f refl refl fills
    (ap (map (block_of (h ++ e ∷ []))) qs ∙ blocks_same h (h ++ e ∷ []) (queue s h) (λ r y. homes r) ∙ m.queue_is) where
      fills : (k : ℕ) (o : Option Slot) → Fills s h k o → Fills s (h ++ e ∷ []) k o
      fills k None f = λ r y. f r (sym (homes r) ∙ y)
      fills k (Some x) f = record {
        home = homes x.id ∙ f.home;
        tallies = tallies_stay s h e x.id x.page (quiet x.id) f.tallies;
        stands = f.stands ∙ sym (standing_same s h e x.id (sym (queue_push s h e) ∙ qs) (sym (flights_push h e) ∙ fs));
      }

pub pinned_node : (s : Shape) (h : History) (c p : ℕ) (t : Table) (q : List ℕ) → IsNode s h t q → Fits s h (by c (what.Pinned p)) → IsNode s (h ++ by c (what.Pinned p) ∷ []) t q
pinned_node s h c p t q m f =
    let e : Event = by c (what.Pinned p) in quiet_node s h e t q m f (λ r. untouched r (what.Pinned p) refl) (queue_push s h e) (flights_push h e) (λ r. block_push h e r)

pub closed_node : (s : Shape) (h : History) (c : ℕ) (t : Table) (q : List ℕ) → IsNode s h t q → Fits s h (by c what.Close) → IsNode s (h ++ by c what.Close ∷ []) t q
closed_node s h c t q m f =
    let e : Event = by c what.Close in quiet_node s h e t q m f (λ r. untouched r what.Close refl) (queue_push s h e) (flights_push h e) (λ r. block_push h e r)
