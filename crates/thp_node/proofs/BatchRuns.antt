-- Takes and tries of a batch, over plain lists and histories.
use Rattle.std.proofs.Common.{◌≡◌, ◌≢◌, ℕ, min, suc, ◌+◌, ◌<◌, ◌≤◌, Bool, true, false, cond, not, List, [], ◌∷◌, ◌++◌, Option, Some, None, length, take, drop, refl, ap, ap₂, sym, ◌∙◌, subst, arith, nat_eq, eq-eqb, ne_eqb, if◌then◌else◌, slice_get}
use Rattle.std.proofs.lemmas.List.{length-map, length-take, length-drop}
use Rattle.std.specs.List.{position_or_len}
use Rattle.thp_history.specs.declared.events.Event.{Event}
use Rattle.thp_history.specs.declared.events.What.TheVariants as what
use Rattle.thp_history.specs.declared.refusal.Refusal.TheVariants as reason
use Rattle.thp_history.specs.declared.shape.Shape.{Shape}
use Rattle.thp_history.specs.Prelude.{History, by, IsLegal, Fits, pins, whole, PageState, PageSplit, gives_frames, is_split_candidate, is_worth_split, is_partly_mapped, shrinks_underused, queue, flight, no_pages, is_taking, has_page, refusal, take_events, next_page, rest_after, tries_of, try_event}
use Rattle.thp_history.specs.Refusals as call
use Rattle.thp_history.proofs.Bools.{or_first, or_second}
use Rattle.thp_history.proofs.Tallying.{pins_is, whole_is, worth_is}
use Rattle.thp_history.proofs.Pushes.{queue_push, is_taking_push}
use Rattle.thp_history.proofs.TakeRuns.{more_taken, take_events_more}
use Rattle.thp_node.specs.Prelude.{Tried, tried, Did, NodeState, Took}
use Rattle.thp_node.specs.declared.answers.Tried.TheVariants as answer
use Rattle.thp_live_pages.specs.Prelude.{PageStoreState, AtSlot, Edits, IsFlyingAt, IsUnpinnedAt, IsNode, IsSlot}
use Rattle.thp_page.specs.declared.standing.Standing.{Standing}
use Rattle.thp_page.specs.declared.standing.Standing.TheVariants.{Nowhere, Queued, Batch}
use Rattle.thp_page.specs.Prelude.{slot_at, Slot, Table}
use Rattle.thp_node.proofs.CallLemmas.{did_none, did_then}
use Rattle.thp_live_pages.proofs.Admitting.{Found}
use Rattle.thp_live_pages.proofs.Homing.{Homed, legal_homed}
use Rattle.thp_live_pages.proofs.ListEvents.{flying_whole, split_fits, split_node, pinned_fits, pinned_node, used_fits, used_node}
use Rattle.thp_live_pages.proofs.PageEvents.{slot_is}
use Rattle.thp_live_pages.proofs.Standings.{batch_has}

-- the node once its journal has recorded an event
pub node_recorded : (s t : Shape) (k h : History) (e : Event) (b : PageStoreState) → s ≡ t → k ≡ h ++ e ∷ [] → IsNode t (h ++ e ∷ []) b.table b.queue → IsNode s k b.table b.queue
node_recorded s t k h e b same is m = grind arith

-- as many pages stand in the queue as blocks
pub queue_length : (s : Shape) (h : History) (t : Table) (q : List ℕ) → IsNode s h t q → length (queue s h) ≡ length q
queue_length s h t q m = grind (arith, length-map)

-- nothing was taken yet
pub took_none : (old now : NodeState) (c : ℕ) → now ≡ old → IsLegal old.shape old.journal → no_pages (flight old.journal c) ≡ true → Took old now c 0
took_none old now c same legal free = record {
  did = did_none old now c (ap (λ (n : NodeState). n.shape) same) (ap (λ (n : NodeState). n.journal) same) (subst (λ (n : NodeState). IsLegal n.shape n.journal) (sym same) legal)
      (omega (arith, ap (λ (n : NodeState). n.room) same)) (ap (λ (n : NodeState). n.table.accesses) same);
  left = ap (λ (n : NodeState). queue old.shape n.journal) same;
  may = or_first _ _ (ap (λ (n : NodeState). no_pages (flight n.journal c)) same ∙ free);
}

-- one page more
pub took_more : (old mid new : NodeState) (c i p : ℕ) → Took old mid c i → slice_get (queue mid.shape mid.journal) 0 ≡ Some p → Did mid new c (by c (what.Taken p) ∷ []) → Took old new c (i + 1)
took_more old mid new c i p t first d =
    let qs : List ℕ = queue old.shape old.journal in
    let here : slice_get (drop i qs) 0 ≡ Some p = ap (λ xs. slice_get xs 0) (sym t.left) ∙ ap (λ z. slice_get (queue z mid.journal) 0) (sym t.did.shape) ∙ first in
    let e : Event = by c (what.Taken p) in
    let P : List Event → Type 0 = λ es. Did old new c es in
    record {
      did = subst P (sym (take_events_more old.shape old.journal c i p here)) (did_then old mid new c (take_events old.shape old.journal c i) (e ∷ []) t.did d);
      left = ap (queue old.shape) d.journal ∙ queue_push old.shape mid.journal e ∙ ap (drop 1) t.left ∙ sym (more_taken i qs p here).1;
      may = or_second _ _ (ap (λ h. is_taking h c) d.journal ∙ is_taking_push mid.journal c e ∙ eq-eqb c c refl);
    }

-- a page is left as long as fewer were taken than there are
pub some_left : (i n : ℕ) (qs : List ℕ) → i < n → n ≤ length qs → 0 < length (drop i qs)
some_left i n qs l m = omega (arith, length-drop i qs)

-- a take is refused where the caller has pages in flight, and only there
pub refused_take : (s : Shape) (h : History) (c : ℕ) → 0 < length (flight h c) → refusal s h (call.take c) ≡ Some reason.HasBatch
unfolding refusal
refused_take s h c l = grind arith

pub unrefused_take : (s : Shape) (h : History) (c : ℕ) → length (flight h c) ≡ 0 → refusal s h (call.take c) ≡ None
unfolding refusal
unrefused_take s h c e = grind arith

-- whether a page is in a caller's flight is determined by where the page of its block stands
pub flies_there : (s : Shape) (h : History) (t : Table) (q : List ℕ) (c p b : ℕ) → IsNode s h t q → (w : Found s h t p b) → w.slot.standing ≡ Batch c → has_page p (flight h c) ≡ true
flies_there s h t q c p b m w e =
    ap (λ r. has_page r (flight h c)) (sym w.id_is) ∙ (batch_has s h w.slot.id c (sym w.is.stands ∙ e)).0

-- what a try answers
abbrev tried_as : ℕ → Bool → Bool → Tried
tried_as p worth free = if worth then if free then answer.Split p else answer.Pinned p else answer.Used p

pub tried_split : (s : Shape) (h : History) (p : ℕ) → is_worth_split s h p ≡ true → pins h p ≡ 0 → answer.Split p ≡ tried s h (Some p)
tried_split s h p w e = sym (ap₂ (tried_as p) w (ap (λ n. nat_eq n 0) e))

pub tried_pinned : (s : Shape) (h : History) (p : ℕ) → is_worth_split s h p ≡ true → 0 < pins h p → answer.Pinned p ≡ tried s h (Some p)
tried_pinned s h p w l = sym (ap₂ (tried_as p) w (ne_eqb (pins h p) 0 (λ e. omega (arith, e, l))))

pub tried_used : (s : Shape) (h : History) (p : ℕ) → is_worth_split s h p ≡ false → answer.Used p ≡ tried s h (Some p)
tried_used s h p w = sym (ap (λ b. tried_as p b (nat_eq (pins h p) 0)) w)

-- a page was split off its batch
pub record SplitOff (s : Shape) (h : History) (c p : ℕ) (set : List Bool) (old new : PageStoreState) : Type 0 where
  pub is : by c (what.Split p set) ≡ try_event s h c p
  pub fits : Fits s h (by c (what.Split p set))
  pub node : IsNode s (h ++ by c (what.Split p set) ∷ []) new.table new.queue
  pub work : new.table.accesses ≤ old.table.accesses + 0

-- a page was found pinned
pub record FoundPinned (s : Shape) (h : History) (c p : ℕ) (t : Table) (q : List ℕ) : Type 0 where
  pub is : by c (what.Pinned p) ≡ try_event s h c p
  pub fits : Fits s h (by c (what.Pinned p))
  pub node : IsNode s (h ++ by c (what.Pinned p) ∷ []) t q

-- a page was found in use
pub record FoundUsed (s : Shape) (h : History) (c p : ℕ) (old new : PageStoreState) : Type 0 where
  pub is : by c (what.Used p) ≡ try_event s h c p
  pub fits : Fits s h (by c (what.Used p))
  pub node : IsNode s (h ++ by c (what.Used p) ∷ []) new.table new.queue
  pub work : new.table.accesses ≤ old.table.accesses + 0

same_slot : (x y : Slot) → Some x ≡ Some y → x ≡ y
same_slot x y e = cc

not_queued : (z : Standing) (c : ℕ) → z ≡ Batch c → z ≢ Queued
not_queued z c e f = cc

-- the page of a block that is in a caller's flight
module _ (s : Shape) (h : History) (c p b : ℕ) (old : PageStoreState) (m : IsNode s h old.table old.queue) (w : IsFlyingAt old.table c p b) where
  homed : Homed s h
  homed = legal_homed s h m.legal

  is_slot : IsSlot s h b w.slot
  is_slot = slot_is s h old.table old.queue b w.slot m w.at

  pub pins_there : pins h p ≡ w.slot.page.pins
  pins_there = ap (pins h) (sym w.id_is) ∙ pins_is s h w.slot.id w.slot.page is_slot.tallies

  pub whole_there : whole h p ≡ w.slot.page.whole
  whole_there = ap (whole h) (sym w.id_is) ∙ whole_is s h w.slot.id w.slot.page is_slot.tallies

  pub ready_there : w.slot.page.pins ≡ 0 → (x : Slot) → slot_at old.table b ≡ Some x → (x.page.split ≡ false) × (x.page.pins ≡ 0) × (x.standing ≢ Queued)
  ready_there none x at = grind (arith, same_slot, flying_whole, homed, not_queued)

  pub worth_there : is_worth_split s h p ≡ is_split_candidate s.underused w.slot.page
  worth_there = ap (is_worth_split s h) (sym w.id_is) ∙ worth_is s h w.slot.id w.slot.page is_slot.tallies

  pub partly_there : is_partly_mapped s h p ≡ w.slot.page.partly
  partly_there = ap (is_partly_mapped s h) (sym w.id_is) ∙ sym is_slot.tallies.partly

  pub split_off : (new : PageStoreState) (set : List Bool) (give : Bool) → give ≡ shrinks_underused s →
      AtSlot old.table b (λ x. (q : PageState) × PageSplit give x.page q × (set ≡ gives_frames x.page q) × Edits old new b (Some (record x { page = q; standing = Nowhere })) old.queue 0) →
      is_split_candidate s.underused w.slot.page ≡ true → w.slot.page.pins ≡ 0 → SplitOff s h c p set old new
  split_off new set give switch did worth none =
      let d = did w.slot w.at in
      let how : PageSplit (shrinks_underused s) w.slot.page d.0 = subst (λ g. PageSplit g w.slot.page d.0) switch d.1 in
      let f = split_fits s h c b w.slot old new homed m w.at w.stands d.0 set how worth none d.2 in
      let P : ℕ → Type 0 = λ r. SplitOff s h c r set old new in
      subst P w.id_is (record { is = f.0; fits = f.1; node = split_node s h c b w.slot old new homed m w.at w.stands d.0 set how f.1 d.3; work = d.3.work })

  pub found_pinned : is_split_candidate s.underused w.slot.page ≡ true → 0 < w.slot.page.pins → FoundPinned s h c p old.table old.queue
  found_pinned worth some =
      let f = pinned_fits s h c b w.slot old old homed m w.at w.stands w.slot.page.pins worth refl some in
      let P : ℕ → Type 0 = λ r. FoundPinned s h c r old.table old.queue in
      subst P w.id_is (record { is = f.0; fits = f.1; node = pinned_node s h c w.slot.id old.table old.queue m f.1 })

  pub found_used : (new : PageStoreState) → AtSlot old.table b (λ x. Edits old new b (Some (record x { standing = Nowhere })) old.queue 0) → is_split_candidate s.underused w.slot.page ≡ false → FoundUsed s h c p old new
  found_used new did none =
      let f = used_fits s h c b w.slot old new homed m w.at w.stands none in
      let P : ℕ → Type 0 = λ r. FoundUsed s h c r old new in
      subst P w.id_is (record { is = f.0; fits = f.1; node = used_node s h c b w.slot old new homed m w.at w.stands f.1 (did w.slot w.at); work = (did w.slot w.at).work })

-- a take's events are as many as its pages
pub take_length : (s : Shape) (h : History) (c n : ℕ) → length (take_events s h c n) ≡ min n (length (queue s h))
take_length s h c n = length-map (take n (queue s h)) (λ p. by c (what.Taken p)) ∙ length-take n (queue s h)

-- where a page in flight lies, stated of a node's parts
pub flies_inside : (inside now : NodeState) (c p b : ℕ) → inside ≡ now → IsFlyingAt now.table c p b → IsFlyingAt inside.table c p b
flies_inside inside now c p b is w = record { slot = w.slot; at = ap (λ (n : NodeState). slot_at n.table b) is ∙ w.at; id_is = w.id_is; stands = w.stands }

pub unpinned_inside : (inside now : NodeState) (b : ℕ) → inside ≡ now → IsUnpinnedAt now.table b → (x : Slot) → slot_at inside.table b ≡ Some x → x.page.pins ≡ 0
unpinned_inside inside now b is w x at = w.pins_of x (ap (λ (n : NodeState). slot_at n.table b) (sym is) ∙ at)

-- what is asked of the page of a block, of a node's parts
pub slot_inside : (inside now : NodeState) (b : ℕ) (P : Shape → Slot → Type 0) → inside ≡ now → AtSlot now.table b (P now.shape) → AtSlot inside.table b (P inside.shape)
slot_inside inside now b P is a = subst (λ (n : NodeState). AtSlot n.table b (P n.shape)) (sym is) a

-- where no page of a batch flies, none is left to be tried
pub none_left : (h : History) (c : ℕ) (ps : List ℕ) → next_page h c ps ≡ None → rest_after h c ps ≡ []
none_left h c [] e = refl
none_left h c (p ∷ ps) e = go (has_page p (flight h c)) e (none_left h c ps) where
  n : ℕ
  n = position_or_len (λ q. has_page q (flight h c)) ps

  go : (b : Bool) → cond b (Some p) (next_page h c ps) ≡ None → (next_page h c ps ≡ None → rest_after h c ps ≡ []) → drop (cond (not b) (1 + n) 0 + 1) (p ∷ ps) ≡ []
  go true e f = absurd (cc)
  go false e f = ap (λ k. drop k (p ∷ ps)) (let m : 1 + n + 1 ≡ suc (n + 1) = omega arith in m) ∙ f e

-- what a try answers and does once there is room for it
pub tried_after : (s t : Shape) (k h : History) (o : Option ℕ) (p q : ℕ) (r : Tried) → r ≡ tried s k (Some p) → q ≡ p → s ≡ t → k ≡ h → o ≡ Some q → r ≡ tried t h o
tried_after s t k h o p q r e is shape same next = e ∙ ap (λ z. tried z k (Some p)) shape ∙ ap₂ (λ x n. tried t x (Some n)) same (sym is) ∙ ap (tried t h) (sym next)

pub did_after : (old mid new : NodeState) (c d p q : ℕ) (o : Option ℕ) → Did mid new c (try_event mid.shape mid.journal c p ∷ []) → q ≡ p → c ≡ d → o ≡ Some q → mid.shape ≡ old.shape →
    mid.journal ≡ old.journal → old.room ≤ mid.room → mid.table ≡ old.table → Did old new d (tries_of old.shape old.journal d o)
did_after old mid new c d p q o m is at next s j r t =
    let es : List Event = try_event mid.shape mid.journal c p ∷ [] in
    let e : es ≡ tries_of old.shape old.journal c o = ap₂ (λ x k. try_event x k c p ∷ []) s j ∙ ap (λ n. try_event old.shape old.journal c n ∷ []) (sym is) ∙ ap (tries_of old.shape old.journal c) (sym next) in
    let P : List Event → Type 0 = λ fs. Did old new c fs in
    let Q : ℕ → Type 0 = λ k. Did old new k (tries_of old.shape old.journal k o) in
    subst Q at
    (subst P e
    (record {
      shape = m.shape ∙ s;
      journal = m.journal ∙ ap (λ h. h ++ es) j;
      own = m.own;
      legal = m.legal;
      room = omega (arith, r, m.room);
      work = omega (arith, m.work, ap (λ (x : Table). x.accesses) t);
    }))
