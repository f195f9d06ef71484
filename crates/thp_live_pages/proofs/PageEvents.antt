-- A node after a call about one page: its slot, its place and the queue are what the history with the event says.
use Rattle.std.proofs.Common.{◌≡◌, ℕ, ◌<◌, Bool, true, false, ◌&&◌, List, [], ◌∷◌, ◌++◌, Option, Some, None, length, map, refl, ap, sym, ◌∙◌, subst, arith, nat_eq, if◌then◌else◌, get_or, eq-eqb, eqb-true, zero, suc}
use Rattle.thp_links.specs.Prelude.{without_index}
use Rattle.thp_history.specs.declared.events.Event.{Event}
use Rattle.thp_history.specs.declared.events.Outcome.{Outcome}
use Rattle.thp_history.specs.declared.events.Outcome.TheVariants as outcome
use Rattle.thp_history.specs.declared.events.What.{What}
use Rattle.thp_history.specs.declared.refusal.Refusal.TheVariants as reason
use Rattle.thp_history.specs.declared.shape.Shape.{Shape}
use Rattle.thp_history.specs.Prelude.{History, by, is_live, is_closed, is_freed, frees, allocates, Fits, Gives, PageState, Tallies, page_refusal, page_outcome, queue, queue_after, queue_by, flights, flights_after, flights_by, has_page, stands, without, refusal, gain_call, loss_call, page_call, gain_what, loss_what, Gains, Loses}
use Rattle.thp_history.proofs.Allowed.{allowed_map_whole, refused_gone}
use Rattle.thp_history.proofs.Bools.{by_bool}
use Rattle.thp_history.proofs.PageOutcomes.{gives_is, lives_by}
use Rattle.thp_history.proofs.PageRefusals.{refusal_map_whole, refusal_unmap_whole, refusal_map_sub, refusal_unmap_sub, refusal_split_pmd, refusal_pin, refusal_unpin, refusal_write, refusal_zero}
use Rattle.thp_history.proofs.Pushes.{queue_push}
use Rattle.thp_history.proofs.Tallying.{tallies_map_whole, tallies_unmap_whole, tallies_map_sub, tallies_unmap_sub, tallies_split_pmd, tallies_pin, tallies_unpin, tallies_write, tallies_zero}
use Rattle.thp_page.specs.declared.standing.Standing.TheVariants.{Queued}
use Rattle.thp_page.specs.Prelude.{Slot, Table, slot_at}
use Rattle.thp_history.specs.declared.page_call.Done.{Done}
use Rattle.thp_history.specs.declared.page_call.Gain.{Gain}
use Rattle.thp_history.specs.declared.page_call.Gain.TheVariants as gain
use Rattle.thp_history.specs.declared.page_call.Loss.{Loss}
use Rattle.thp_history.specs.declared.page_call.Loss.TheVariants as loss
use Rattle.thp_history.specs.declared.page_call.PageCall.{PageCall}
use Rattle.thp_history.specs.declared.page_call.PageCall.TheVariants as either
use Rattle.thp_live_pages.specs.Prelude.{PageStoreState, Edits, Lost, slot_after, IsSlot, Fills, IsNode, block_of, block_after, block_by, flier}
use Rattle.thp_live_pages.specs.PageStoreState as blocks
use Rattle.thp_live_pages.proofs.Homing.{Homed, block_push}
use Rattle.thp_live_pages.proofs.Keeping.{node_moved, OnlyIn, blocks_same, blocks_pushed, blocks_without}
use Rattle.thp_live_pages.proofs.Standings.{names, standing_same, standing_queued, has_pushed, has_not, batch_is, stands_is}

-- the refusal of a call about a live page, by the page's state
pub refusal_is : (s : Shape) (h : History) (p : ℕ) (t : PageState) (a : PageCall) → Tallies s h p t → is_live h p ≡ true → refusal s h (page_call a p) ≡ page_refusal t (page_call a p)
refusal_is s h p t x m l = grind (arith, refusal_map_whole, refusal_map_sub, refusal_split_pmd, refusal_pin, refusal_write, refusal_zero, refusal_unmap_whole, refusal_unmap_sub, refusal_unpin)

-- what is the same of all gains
record Plain (s : Shape) (w : What) (p : ℕ) : Type 0 where
  named : (r : ℕ) → names r w ≡ nat_eq r p
  in_queue : (ps : List ℕ) → queue_after s ps w ≡ ps
  in_flights : (fs : List (ℕ × ℕ)) (c : ℕ) → flights_after fs c w ≡ fs
  homes : (r : ℕ) (o : Option ℕ) → block_after r o w ≡ o

plain_gain : (s : Shape) (g : Gain) (p : ℕ) → Plain s (gain_what g p) p
plain_gain s x p = grind arith

fits_gain : (s : Shape) (h : History) (c p : ℕ) (g : Gain) → refusal s h (gain_call g p) ≡ None → Fits s h (by c (gain_what g p))
fits_gain s h c p x e = grind arith

pub tallies_gain : (s : Shape) (h : History) (c p : ℕ) (g : Gain) (old new : PageState) → refusal s h (gain_call g p) ≡ None → Tallies s h p old → Gains g old new →
    Tallies s (h ++ by c (gain_what g p) ∷ []) p new
tallies_gain s h c p gain.MapWhole old new e m w = tallies_map_whole s h c p old new m (m.split ∙ (allowed_map_whole s h p e).1) w
tallies_gain s h c p (gain.MapSub f n) old new e m w = tallies_map_sub s h c p f n old new m w
tallies_gain s h c p gain.SplitPmd old new e m w = tallies_split_pmd s h c p old new m w
tallies_gain s h c p gain.Pin old new e m w = tallies_pin s h c p old new m w
tallies_gain s h c p (gain.Write f n) old new e m w = tallies_write s h c p f n old new m w
tallies_gain s h c p (gain.Zero f n) old new e m w = tallies_zero s h c p f n old new m w

at_inside : (xs : List (Option Slot)) (b : ℕ) (x : Slot) → get_or xs b None ≡ Some x → b < length xs
at_inside [] b x e = absurd (cc)
at_inside (y ∷ xs) zero x e = omega arith
at_inside (y ∷ xs) (suc b) x e = omega (arith, at_inside xs b x e)

-- an occupied block is inside the table
pub slot_inside : (t : Table) (b : ℕ) (x : Slot) → slot_at t b ≡ Some x → b < length t.slots
slot_inside t b x e = at_inside t.slots b x e

-- what a node says of an occupied block
pub slot_is : (s : Shape) (h : History) (t : Table) (q : List ℕ) (b : ℕ) (x : Slot) → IsNode s h t q → slot_at t b ≡ Some x → IsSlot s h b x
slot_is s h t q b x m e = let P : Option Slot → Type 0 = λ o. Fills s h b o in subst P e (m.fills b)

same_some : (a b : ℕ) → Some a ≡ Some b → a ≡ b
same_some a b e = cc

-- a page lies in one block
pub only_in : (h : History) (p b : ℕ) → block_of h p ≡ Some b → OnlyIn h p b
only_in h p b e k f = same_some k b (sym f ∙ e)

-- a node whose page gained
pub gained : (s : Shape) (h : History) (c b : ℕ) (x : Slot) (page : PageState) (g : Gain) (old new : PageStoreState) → IsNode s h old.table old.queue →
    slot_at old.table b ≡ Some x → refusal s h (gain_call g x.id) ≡ None → Gains g x.page page → Edits old new b (Some (record x { page = page })) old.queue 0 →
    Fits s h (by c (gain_what g x.id)) × IsNode s (h ++ by c (gain_what g x.id) ∷ []) new.table new.queue
gained s h c b x page g old new m at allowed how did =
    let w : What = gain_what g x.id in
    let e : Event = by c w in
    let plain : Plain s w x.id = plain_gain s g x.id in
    let was : IsSlot s h b x = slot_is s h old.table old.queue b x m at in
    let fits : Fits s h e = fits_gain s h c x.id g allowed in
    let stays : (r : ℕ) → block_of (h ++ e ∷ []) r ≡ block_of h r = λ r. block_push h e r ∙ plain.homes r (block_of h r) in (
      fits,
      node_moved s h e x.id b old.table new.table old.queue new.queue (Some (record x { page = page })) m fits
          (λ r n. eqb-true r x.id (sym (plain.named r) ∙ n))
          (only_in h x.id b was.home)
          (only_in (h ++ e ∷ []) x.id b (stays x.id ∙ was.home))
          did.slots did.order (omega (arith, m.size, slot_inside old.table b x at))
          (record {
            home = stays x.id ∙ was.home;
            tallies = tallies_gain s h c x.id g x.page page allowed was.tallies how;
            stands = was.stands ∙ sym (standing_same s h e x.id (plain.in_queue (queue s h)) (plain.in_flights (flights h) c));
          })
          (ap (map (block_of (h ++ e ∷ []))) (queue_push s h e ∙ plain.in_queue (queue s h)) ∙ blocks_same h (h ++ e ∷ []) (queue s h) (λ r y. stays r) ∙ m.queue_is ∙ ap (map (λ n. Some n)) (sym did.queue_is)),
    )

-- what is the same of all losses
pub record ByOutcome (s : Shape) (w : What) (p : ℕ) (o : Outcome) : Type 0 where
  pub named : (r : ℕ) → names r w ≡ nat_eq r p
  pub in_queue : (ps : List ℕ) → queue_after s ps w ≡ queue_by ps p o
  pub in_flights : (fs : List (ℕ × ℕ)) (c : ℕ) → flights_after fs c w ≡ flights_by fs p o
  pub homes : (r : ℕ) (a : Option ℕ) → block_after r a w ≡ block_by r a p o
  pub freed : (r : ℕ) → frees r w ≡ (nat_eq r p && is_freed o)
  pub no_alloc : (r : ℕ) → allocates r w ≡ false

pub by_outcome : (s : Shape) (l : Loss) (p : ℕ) (o : Outcome) (r : List Bool) → ByOutcome s (loss_what l p o r) p o
by_outcome s x p o r = grind arith

fits_loss : (s : Shape) (h : History) (c p : ℕ) (l : Loss) (o : Outcome) (r : List Bool) → refusal s h (loss_call l p) ≡ None → Gives s h (h ++ by c (loss_what l p o r) ∷ []) p o r →
    Fits s h (by c (loss_what l p o r))
fits_loss s h c p x o r e g = grind arith

pub tallies_loss : (s : Shape) (h : History) (c p : ℕ) (l : Loss) (o : Outcome) (r : List Bool) (old new : PageState) → Tallies s h p old → Loses l old new →
    Tallies s (h ++ by c (loss_what l p o r) ∷ []) p new
tallies_loss s h c p loss.UnmapWhole o r old new m w = tallies_unmap_whole s h c p o r old new m w
tallies_loss s h c p (loss.UnmapSub f n) o r old new m w = tallies_unmap_sub s h c p f n o r old new m w
tallies_loss s h c p loss.Unpin o r old new m w = tallies_unpin s h c p o r old new m w

-- the outcome of a loss is the history's
pub outcome_reported : (s : Shape) (h : History) (b : ℕ) (x : Slot) (l : Loss) (closed : Bool) (old new : PageStoreState) (done : Done) (left : Option ℕ) → IsSlot s h b x →
    closed ≡ is_closed h → (lost : Lost l closed x old new b done left) → done.outcome ≡ page_outcome x.page lost.page (is_closed h) (stands s h x.id)
outcome_reported s h b x l closed old new done left was shut lost = grind (arith, stands_is)

-- the event of what a page lost fits, with the outcome and the frames that it reports
pub record LossFits (s : Shape) (h : History) (c p : ℕ) (l : Loss) (done : Done) : Type 0 where
  pub gives : Gives s h (h ++ by c (loss_what l p done.outcome done.released) ∷ []) p done.outcome done.released
  pub fits : Fits s h (by c (loss_what l p done.outcome done.released))

pub loss_fits : (s : Shape) (h : History) (c b : ℕ) (x : Slot) (l : Loss) (closed : Bool) (old new : PageStoreState) (done : Done) (left : Option ℕ) → Homed s h → IsSlot s h b x →
    closed ≡ is_closed h → refusal s h (loss_call l x.id) ≡ None → Lost l closed x old new b done left → LossFits s h c x.id l done
loss_fits s h c b x l closed old new done left homed was shut allowed lost =
    let w : What = loss_what l x.id done.outcome done.released in
    let e : Event = by c w in
    let by : ByOutcome s w x.id done.outcome = by_outcome s l x.id done.outcome done.released in
    let live : is_live h x.id ≡ true = (homed.from x.id b was.home).live in
    let after : Tallies s (h ++ e ∷ []) x.id lost.page = tallies_loss s h c x.id l done.outcome done.released x.page lost.page was.tallies lost.how in
    let P : List Bool → Type 0 = λ r. Gives s h (h ++ e ∷ []) x.id done.outcome r in
    let gives : Gives s h (h ++ e ∷ []) x.id done.outcome done.released =
    subst P (sym lost.released_is) (gives_is s h (h ++ e ∷ []) x.id done.outcome x.page lost.page was.tallies after live (lives_by h e x.id done.outcome live (by.no_alloc x.id) (by.freed x.id)) (outcome_reported s h b x l closed old new done left was shut lost)) in
    record { gives = gives; fits = fits_loss s h c x.id l done.outcome done.released allowed gives }

-- the caller that a loss names is that whose flight the page leaves: the one in which it is, where it is freed
pub loss_left : (s : Shape) (h : History) (b : ℕ) (x : Slot) (l : Loss) (closed : Bool) (old new : PageStoreState) (done : Done) (left : Option ℕ) → Homed s h → IsSlot s h b x →
    Lost l closed x old new b done left → left ≡ if is_freed done.outcome then flier x.id (flights h) else None
loss_left s h b x l closed old new done left homed was lost = grind (arith, batch_is)

-- the refusal of a call about a page that doesn't live
pub refusal_gone : (s : Shape) (h : History) (p : ℕ) (a : PageCall) → is_live h p ≡ false → refusal s h (page_call a p) ≡ Some reason.NoPage
refusal_gone s h p (either.Gain gain.MapWhole) e = (refused_gone s h p e).0
refusal_gone s h p (either.Gain (gain.MapSub f n)) e = (refused_gone s h p e).2 f n
refusal_gone s h p (either.Gain gain.SplitPmd) e = (refused_gone s h p e).4
refusal_gone s h p (either.Gain gain.Pin) e = (refused_gone s h p e).5
refusal_gone s h p (either.Gain (gain.Write f n)) e = (refused_gone s h p e).7 f n
refusal_gone s h p (either.Gain (gain.Zero f n)) e = (refused_gone s h p e).8 f n
refusal_gone s h p (either.Loss loss.UnmapWhole) e = (refused_gone s h p e).1
refusal_gone s h p (either.Loss (loss.UnmapSub f n)) e = (refused_gone s h p e).3 f n
refusal_gone s h p (either.Loss loss.Unpin) e = (refused_gone s h p e).6

by_home : (r p : ℕ) (a : Option ℕ) (o : Outcome) → is_freed o ≡ false → block_by r a p o ≡ a
by_home r p a o f = grind (arith, nat_eq)

no_both : (z : Bool) → z ≡ false → z ≡ true → ⊥
no_both z e f = cc

none_some : (k : ℕ) → ◌≡◌ {A = Option ℕ} None (Some k) → ⊥
none_some k e = cc

-- a node whose page lost and stays where it is, joins the queue, or goes
module _ (s : Shape) (h : History) (c b : ℕ) (x : Slot) (l : Loss) (r : List Bool) (page : PageState) (old new : PageStoreState) where
  abbrev lost_event : Outcome → Event
  lost_event o = by c (loss_what l x.id o r)

  abbrev lost_history : Outcome → History
  lost_history o = h ++ lost_event o ∷ []

  homes_stay : (o : Outcome) → is_freed o ≡ false → (q : ℕ) → block_of (lost_history o) q ≡ block_of h q
  homes_stay o f q = block_push h (lost_event o) q ∙ (by_outcome s l x.id o r).homes q (block_of h q) ∙ by_home q x.id (block_of h q) o f

  lost_stays : IsNode s h old.table old.queue → slot_at old.table b ≡ Some x → Fits s h (lost_event outcome.Stays) → Tallies s (lost_history outcome.Stays) x.id page →
      Edits old new b (Some (record x { page = page })) old.queue 6 → IsNode s (lost_history outcome.Stays) new.table new.queue
  lost_stays m at fits after did =
      let by = by_outcome s l x.id outcome.Stays r in
      let was : IsSlot s h b x = slot_is s h old.table old.queue b x m at in
      node_moved s h (lost_event outcome.Stays) x.id b old.table new.table old.queue new.queue (Some (record x { page = page })) m fits
      (λ q n. eqb-true q x.id (sym (by.named q) ∙ n))
      (only_in h x.id b was.home)
      (only_in (lost_history outcome.Stays) x.id b (homes_stay outcome.Stays refl x.id ∙ was.home))
      did.slots did.order (omega (arith, m.size, slot_inside old.table b x at))
      (record {
        home = homes_stay outcome.Stays refl x.id ∙ was.home;
        tallies = after;
        stands = was.stands ∙ sym (standing_same s h (lost_event outcome.Stays) x.id (by.in_queue (queue s h)) (by.in_flights (flights h) c));
      })
      (ap (map (block_of (lost_history outcome.Stays))) (queue_push s h (lost_event outcome.Stays) ∙ by.in_queue (queue s h))
      ∙ blocks_same h (lost_history outcome.Stays) (queue s h) (λ q y. homes_stay outcome.Stays refl q) ∙ m.queue_is ∙ ap (map (λ n. Some n)) (sym did.queue_is))

  lost_queued : IsNode s h old.table old.queue → slot_at old.table b ≡ Some x → Fits s h (lost_event outcome.Queued) → Tallies s (lost_history outcome.Queued) x.id page →
      Edits old new b (Some (record x { page = page; standing = Queued })) (old.queue ++ b ∷ []) 6 → IsNode s (lost_history outcome.Queued) new.table new.queue
  lost_queued m at fits after did =
      let by = by_outcome s l x.id outcome.Queued r in
      let was : IsSlot s h b x = slot_is s h old.table old.queue b x m at in
      let joins : queue s (lost_history outcome.Queued) ≡ queue s h ++ x.id ∷ [] = queue_push s h (lost_event outcome.Queued) ∙ by.in_queue (queue s h) in
      let pushed : map (block_of h) (queue s h ++ x.id ∷ []) ≡ map (λ n. Some n) (old.queue ++ b ∷ []) = blocks_pushed h (queue s h) old.queue x.id b m.queue_is was.home in
      node_moved s h (lost_event outcome.Queued) x.id b old.table new.table old.queue new.queue (Some (record x { page = page; standing = Queued })) m fits
      (λ q n. eqb-true q x.id (sym (by.named q) ∙ n))
      (only_in h x.id b was.home)
      (only_in (lost_history outcome.Queued) x.id b (homes_stay outcome.Queued refl x.id ∙ was.home))
      did.slots did.order (omega (arith, m.size, slot_inside old.table b x at))
      (record {
        home = homes_stay outcome.Queued refl x.id ∙ was.home;
        tallies = after;
        stands = sym (standing_queued s (lost_history outcome.Queued) x.id (ap (has_page x.id) joins ∙ has_pushed x.id (queue s h)));
      })
      (ap (map (block_of (lost_history outcome.Queued))) joins
      ∙ blocks_same h (lost_history outcome.Queued) (queue s h ++ x.id ∷ []) (λ q y. homes_stay outcome.Queued refl q) ∙ pushed ∙ ap (map (λ n. Some n)) (sym did.queue_is))

  freed_home : (q : ℕ) → nat_eq q x.id ≡ false → block_of (lost_history outcome.Freed) q ≡ block_of h q
  freed_home q n = grind (arith, block_push, by_outcome)

  freed_none : block_of (lost_history outcome.Freed) x.id ≡ None
  freed_none = grind (arith, block_push, by_outcome, eq-eqb)

  lost_freed : Homed s h → IsNode s h old.table old.queue → slot_at old.table b ≡ Some x → Fits s h (lost_event outcome.Freed) →
      Edits old new b None (without_index b old.queue) 6 → IsNode s (lost_history outcome.Freed) new.table new.queue
  lost_freed homed m at fits did =
      let by = by_outcome s l x.id outcome.Freed r in
      let was : IsSlot s h b x = slot_is s h old.table old.queue b x m at in
      let joins : queue s (lost_history outcome.Freed) ≡ without x.id (queue s h) = queue_push s h (lost_event outcome.Freed) ∙ by.in_queue (queue s h) in
      let left : map (block_of h) (without x.id (queue s h)) ≡ map (λ n. Some n) (without_index b old.queue) =
      blocks_without h (queue s h) old.queue x.id b was.home (λ q y. homed.once q x.id b y was.home) m.queue_is in
      node_moved s h (lost_event outcome.Freed) x.id b old.table new.table old.queue new.queue None m fits
      (λ q n. eqb-true q x.id (sym (by.named q) ∙ n))
      (only_in h x.id b was.home)
      (λ k y. absurd (none_some k (sym freed_none ∙ y)))
      did.slots did.order (omega (arith, m.size, slot_inside old.table b x at))
      (λ q y.
      by_bool (nat_eq q x.id) _
      (λ n. let P : ℕ → Type 0 = λ z. block_of (lost_history outcome.Freed) z ≡ Some b in none_some b (sym freed_none ∙ subst P (eqb-true q x.id n) y))
      (λ n. absurd (let same : q ≡ x.id = homed.once q x.id b (sym (freed_home q n) ∙ y) was.home in let yes = eq-eqb q x.id same in cc)))
      (ap (map (block_of (lost_history outcome.Freed))) joins
      ∙ blocks_same h (lost_history outcome.Freed) (without x.id (queue s h)) (λ q y. freed_home q (by_bool (nat_eq q x.id) _
      (λ n. absurd (let P : ℕ → Type 0 = λ z. has_page z (without x.id (queue s h)) ≡ true in no_both _ (has_not x.id (queue s h)) (subst P (eqb-true q x.id n) y))) (λ n. n)))
      ∙ left ∙ ap (map (λ n. Some n)) (sym did.queue_is))

-- a node whose page lost
pub lost_node : (s : Shape) (h : History) (c b : ℕ) (x : Slot) (l : Loss) (closed : Bool) (old new : PageStoreState) (done : Done) (left : Option ℕ) → Homed s h →
    IsNode s h old.table old.queue → slot_at old.table b ≡ Some x → Lost l closed x old new b done left → LossFits s h c x.id l done →
    IsNode s (h ++ by c (loss_what l x.id done.outcome done.released) ∷ []) new.table new.queue
lost_node s h c b x l closed old new done left homed m at lost f =
    let was : IsSlot s h b x = slot_is s h old.table old.queue b x m at in
    go done.outcome f.fits lost.edits (λ o. tallies_loss s h c x.id l o done.released x.page lost.page was.tallies lost.how) where
      go : (o : Outcome) → Fits s h (by c (loss_what l x.id o done.released)) → Edits old new b (slot_after o (record x { page = lost.page })) (blocks.queue_by_outcome o b old.queue) 6 →
          ((o : Outcome) → Tallies s (h ++ by c (loss_what l x.id o done.released) ∷ []) x.id lost.page) → IsNode s (h ++ by c (loss_what l x.id o done.released) ∷ []) new.table new.queue
      go outcome.Stays fits did after = lost_stays s h c b x l done.released lost.page old new m at fits (after outcome.Stays) did
      go outcome.Queued fits did after = lost_queued s h c b x l done.released lost.page old new m at fits (after outcome.Queued) did
      go outcome.Freed fits did after = lost_freed s h c b x l done.released lost.page old new homed m at fits did
