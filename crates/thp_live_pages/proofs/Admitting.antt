-- Whether a call about a page is admitted, by what stands in the page's block.
use Rattle.std.proofs.Common.{◌≡◌, ℕ, Bool, true, false, List, Option, Some, None, refl, ap, sym, ◌∙◌, subst}
use Rattle.thp_history.specs.declared.refusal.Refusal.TheVariants as reason
use Rattle.thp_history.specs.declared.shape.Shape.{Shape}
use Rattle.thp_history.specs.Prelude.{History, is_live, PageState, page_refusal, flight, has_page, refusal, page_call}
use Rattle.thp_history.proofs.Bools.{by_bool}
use Rattle.thp_history.proofs.OnePlace.{flies_live}
use Rattle.thp_page.specs.declared.standing.Standing.TheVariants.{Batch}
use Rattle.thp_page.specs.Prelude.{Slot, Table, slot_at, HoldsPage}
use Rattle.thp_history.specs.declared.page_call.Gain.TheVariants as gain
use Rattle.thp_history.specs.declared.page_call.Loss.TheVariants as loss
use Rattle.thp_history.specs.declared.page_call.PageCall.{PageCall}
use Rattle.thp_history.specs.declared.page_call.PageCall.TheVariants as either
use Rattle.thp_live_pages.specs.Prelude.{IsSlot, Fills, IsNode, block_of}
use Rattle.thp_live_pages.proofs.Homing.{Homed, legal_homed, live_block}
use Rattle.thp_live_pages.proofs.PageEvents.{slot_is, refusal_is, refusal_gone}
use Rattle.thp_live_pages.proofs.Standings.{standing_flying}

-- what stands in the block that was found
pub record Found (s : Shape) (h : History) (t : Table) (p b : ℕ) : Type 0 where
  pub slot : Slot
  pub at : slot_at t b ≡ Some slot
  pub id_is : slot.id ≡ p
  pub is : IsSlot s h b slot
  pub home : block_of h p ≡ Some b
  pub live : is_live h p ≡ true

pub found : (s : Shape) (h : History) (t : Table) (q : List ℕ) (p b : ℕ) → IsNode s h t q → HoldsPage (slot_at t b) p → Found s h t p b
found s h t q p b m held = go (slot_at t b) refl held where
  go : (o : Option Slot) → slot_at t b ≡ o → HoldsPage o p → Found s h t p b
  go None e i = absurd i
  go (Some x) e i =
      let is : IsSlot s h b x = slot_is s h t q b x m e in
      let home : block_of h p ≡ Some b = ap (block_of h) (sym i) ∙ is.home in
      record { slot = x; at = e; id_is = i; is = is; home = home; live = ((legal_homed s h m.legal).from p b home).live }

-- a page with this block stands there
pub at_home : (s : Shape) (h : History) (t : Table) (q : List ℕ) (p b : ℕ) → IsNode s h t q → block_of h p ≡ Some b → Found s h t p b
at_home s h t q p b m home = go (slot_at t b) refl (m.fills b) where
  homed : Homed s h
  homed = legal_homed s h m.legal

  go : (o : Option Slot) → slot_at t b ≡ o → Fills s h b o → Found s h t p b
  go None e f = absurd (f p home)
  go (Some x) e f = record { slot = x; at = e; id_is = homed.once x.id p b f.home home; is = f; home = home; live = (homed.from p b home).live }

-- a page that stands in no block isn't live
pub not_live : (s : Shape) (h : History) (t : Table) (q : List ℕ) (p : ℕ) → IsNode s h t q → ((b : ℕ) → HoldsPage (slot_at t b) p → ⊥) → is_live h p ≡ false
not_live s h t q p m none = by_bool (is_live h p) _ (λ y. absurd (let w = live_block s h p (legal_homed s h m.legal) y in go w.0 (at_home s h t q p w.0 m w.1))) (λ y. y) where
  go : (b : ℕ) → Found s h t p b → ⊥
  go b w = let P : Option Slot → Type 0 = λ o. HoldsPage o p in none b (subst P (sym w.at) w.id_is)

pub refused_gone_page : (s : Shape) (h : History) (t : Table) (q : List ℕ) (p : ℕ) (a : PageCall) → IsNode s h t q → ((b : ℕ) → HoldsPage (slot_at t b) p → ⊥) →
    refusal s h (page_call a p) ≡ Some reason.NoPage
refused_gone_page s h t q p a m none = refusal_gone s h p a (not_live s h t q p m none)

-- a page refuses what its slot refuses
pub refused_by_page : (s : Shape) (h : History) (t : Table) (p b : ℕ) (a : PageCall) → (w : Found s h t p b) → refusal s h (page_call a p) ≡ page_refusal w.slot.page (page_call a p)
refused_by_page s h t p b a w =
    let P : ℕ → Type 0 = λ z. refusal s h (page_call a z) ≡ page_refusal w.slot.page (page_call a z) in
    subst P w.id_is (refusal_is s h w.slot.id w.slot.page a w.is.tallies (ap (is_live h) w.id_is ∙ w.live))

-- the number of the page plays no part in what the page refuses
refusal_any : (t : PageState) (a : PageCall) (p q : ℕ) → page_refusal t (page_call a p) ≡ page_refusal t (page_call a q)
unfolding page_refusal
refusal_any t (either.Gain gain.MapWhole) p q = refl
refusal_any t (either.Gain (gain.MapSub f n)) p q = refl
refusal_any t (either.Gain gain.SplitPmd) p q = refl
refusal_any t (either.Gain gain.Pin) p q = refl
refusal_any t (either.Gain (gain.Write f n)) p q = refl
refusal_any t (either.Gain (gain.Zero f n)) p q = refl
refusal_any t (either.Loss loss.UnmapWhole) p q = refl
refusal_any t (either.Loss (loss.UnmapSub f n)) p q = refl
refusal_any t (either.Loss loss.Unpin) p q = refl

same_slot : (x y : Slot) → Some x ≡ Some y → x ≡ y
same_slot x y e = cc

-- the page of an admitted call doesn't refuse it
pub ready : (s : Shape) (h : History) (t : Table) (q : List ℕ) (p b : ℕ) (a : PageCall) → IsNode s h t q → block_of h p ≡ Some b → refusal s h (page_call a p) ≡ None →
    (x : Slot) → slot_at t b ≡ Some x → page_refusal x.page (page_call a 0) ≡ None
ready s h t q p b a m home allowed x at =
    let w : Found s h t p b = at_home s h t q p b m home in
    ap (λ (y : Slot). page_refusal y.page (page_call a 0)) (same_slot x w.slot (sym at ∙ w.at)) ∙ refusal_any w.slot.page a 0 p ∙ sym (refused_by_page s h t p b a w) ∙ allowed

no_both : (z : Bool) → z ≡ false → z ≡ true → ⊥
no_both z e f = cc

-- a page that doesn't stand in a caller's batch isn't in the caller's flight
pub flies_not_there : (s : Shape) (h : History) (t : Table) (q : List ℕ) (c p b : ℕ) → IsNode s h t q → (w : Found s h t p b) → (w.slot.standing ≡ Batch c → ⊥) → has_page p (flight h c) ≡ false
flies_not_there s h t q c p b m w f =
    by_bool (has_page p (flight h c)) _
    (λ y. absurd (f (w.is.stands ∙ standing_flying s h w.slot.id c (legal_homed s h m.legal).grown.sound (ap (λ r. has_page r (flight h c)) w.id_is ∙ y))))
    (λ y. y)

-- a page that lies nowhere is in no flight
pub flies_nowhere : (s : Shape) (h : History) (t : Table) (q : List ℕ) (c p : ℕ) → IsNode s h t q → ((b : ℕ) → HoldsPage (slot_at t b) p → ⊥) → has_page p (flight h c) ≡ false
flies_nowhere s h t q c p m none =
    by_bool (has_page p (flight h c)) _ (λ y. absurd (no_both (is_live h p) (not_live s h t q p m none) (flies_live s h c p m.legal y).0)) (λ y. y)
