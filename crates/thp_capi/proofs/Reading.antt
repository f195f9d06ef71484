-- What a node's table reports of a page is what the journal determines.
use Rattle.std.proofs.Common.{◌≡◌, ◌∙◌, ℕ, true, false, Option, Some, None, ap, sym, subst, refl, IfSome}
use Rattle.std.specs.Int.{from_bool}
use Rattle.thp_history.specs.Prelude.{is_live, is_split, pins, whole, PageState, Tallies, is_partly_mapped}
use Rattle.thp_history.proofs.Bools.{by_bool}
use Rattle.thp_history.proofs.Tallying.{pins_is, whole_is}
use Rattle.thp_page.specs.declared.standing.Standing.{Standing}
use Rattle.thp_page.specs.Prelude.{slot_at, page_in, HoldsPage, Slot, Table}
use Rattle.thp_live_pages.specs.Prelude.{Fills, HasBlock, block_of, standing_of, LiesWherePlaced}
use Rattle.thp_node.specs.Prelude.{NodeState}
use Rattle.thp_capi.specs.Reading.{flight_caller, list_number, page_state_of}
use Rattle.thp_capi.specs.declared.replies.ThpPageState.{ThpPageState}

-- page p is live, and what the table has of it in block b is what the journal determines
pub record AtBlock (n : NodeState) (t : Table) (p b : ℕ) : Type 0 where
  pub slot : Slot
  pub at : slot_at t b ≡ Some slot
  pub live : is_live n.journal p ≡ true
  pub home : block_of n.journal p ≡ Some b
  pub tallies : Tallies n.shape n.journal p slot.page
  pub stands_is : slot.standing ≡ standing_of n.shape n.journal p

-- a page that is found in a block
pub at_block : (n : NodeState) (t : Table) → t ≡ n.table → ((b : ℕ) → Fills n.shape n.journal b (slot_at n.table b)) → LiesWherePlaced n.journal →
    (p b : ℕ) → HoldsPage (slot_at t b) p → AtBlock n t p b
at_block n t same fills lies p b held = go (slot_at t b) refl (subst F (sym same) (fills b)) held where
  F : Table → Type 0
  F = λ u. Fills n.shape n.journal b (slot_at u b)

  go : (o : Option Slot) → slot_at t b ≡ o → Fills n.shape n.journal b o → HoldsPage o p → AtBlock n t p b
  go None e f i = absurd i
  go (Some y) e f i =
      let home : block_of n.journal p ≡ Some b = ap (block_of n.journal) (sym i) ∙ f.home in
      let N : ℕ → Type 0 = λ m. Tallies n.shape n.journal m y.page in
      record {
        slot = y;
        at = e;
        live = ((lies p b).0 home).0;
        home = home;
        tallies = subst N i f.tallies;
        stands_is = f.stands ∙ ap (standing_of n.shape n.journal) i;
      }

-- what is read of it
pub page_is : (n : NodeState) (t : Table) (p b : ℕ) (w : AtBlock n t p b) (x : PageState) → Some x ≡ page_in (slot_at t b) → Tallies n.shape n.journal p x
page_is n t p b w x e =
    let there : Some x ≡ Some w.slot.page = e ∙ ap page_in w.at in
    let P : PageState → Type 0 = λ z. Tallies n.shape n.journal p z in
    subst P (sym (same x w.slot.page there)) w.tallies where
      same : (x y : PageState) → Some x ≡ Some y → x ≡ y
      same x y e = cc

pub standing_is : (n : NodeState) (t : Table) (p b : ℕ) (w : AtBlock n t p b) (d : Standing) → IfSome (slot_at t b) (λ s. d ≡ s.standing) → d ≡ standing_of n.shape n.journal p
standing_is n t p b w d e = let I : Option Slot → Type 0 = λ o. IfSome o (λ s. d ≡ s.standing) in subst I w.at e ∙ w.stands_is

-- a page that is in no block is not live
pub unseen : (n : NodeState) (t : Table) → t ≡ n.table → ((p : ℕ) → is_live n.journal p ≡ true → HasBlock n.table p) →
    (p : ℕ) → ((b : ℕ) → HoldsPage (slot_at t b) p → ⊥) → is_live n.journal p ≡ false
unseen n t same has p none = by_bool (is_live n.journal p) _ (λ y. absurd (go (subst H (sym same) (has p y)))) (λ y. y) where
  H : Table → Type 0
  H = λ u. HasBlock u p

  go : HasBlock t p → ⊥
  go w = none w.0 w.1

-- the numbers of a page's state
pub state_is : (n : NodeState) (p : ℕ) (x : PageState) (w : Standing) (t : ThpPageState) → Tallies n.shape n.journal p x → w ≡ standing_of n.shape n.journal p →
    t.whole_mapcount ≡ x.whole → t.pins ≡ x.pins → t.partly_mapped ≡ from_bool x.partly → t.split ≡ from_bool x.split →
    t.list ≡ list_number w → t.caller ≡ flight_caller w → t ≡ page_state_of n p
state_is n p x w t m stands_is a b c d e f =
    go t (a ∙ sym (whole_is n.shape n.journal p x m)) (b ∙ sym (pins_is n.shape n.journal p x m)) (c ∙ ap from_bool m.partly) (d ∙ ap from_bool m.split)
    (e ∙ ap list_number stands_is) (f ∙ ap flight_caller stands_is) where
      go : (t : ThpPageState) → t.whole_mapcount ≡ whole n.journal p → t.pins ≡ pins n.journal p →
          t.partly_mapped ≡ from_bool (is_partly_mapped n.shape n.journal p) → t.split ≡ from_bool (is_split n.journal p) →
          t.list ≡ list_number (standing_of n.shape n.journal p) → t.caller ≡ flight_caller (standing_of n.shape n.journal p) → t ≡ page_state_of n p
      go t a b c d e f = rw (← a, ← b, ← c, ← d, ← e, ← f) refl
