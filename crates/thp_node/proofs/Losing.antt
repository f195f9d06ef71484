-- What a call that takes mappings or a pin from a page records, once it is admitted.
use Rattle.std.proofs.Common.{◌≡◌, ℕ, ◌+◌, ◌≤◌, Bool, List, [], ◌∷◌, ◌++◌, Option, Some, None, get_or, ap, ◌∙◌, subst, arith, if◌then◌else◌}
use Rattle.thp_history.specs.declared.shape.Shape.{Shape}
use Rattle.thp_history.specs.declared.events.Outcome.{Outcome}
use Rattle.thp_history.specs.Prelude.{History, by, is_closed, is_freed, flights, Fits, Gives, refusal, loss_call, loss_what}
use Rattle.thp_page.specs.Prelude.{Slot, slot_at}
use Rattle.thp_history.specs.declared.page_call.Done.{Done}
use Rattle.thp_history.specs.declared.page_call.Loss.{Loss}
use Rattle.thp_live_pages.specs.Prelude.{PageStoreState, IsNode, block_of, flier, Relinks}
use Rattle.thp_node.specs.Prelude.{LostChained, leaves_of}
use Rattle.thp_live_pages.proofs.Admitting.{Found, at_home}
use Rattle.thp_live_pages.proofs.Homing.{legal_homed}
use Rattle.thp_live_pages.proofs.PageEvents.{LossFits, loss_fits, loss_left, lost_node}

-- a node whose links alone changed
pub node_relinked : (s : Shape) (h : History) (old new : PageStoreState) (n : ℕ) → Relinks old new n → IsNode s h old.table old.queue → IsNode s h new.table new.queue
node_relinked s h old new n r m = grind (arith, get_or)

-- out of whose flight a loss freed its page
loss_leaves : (s : Shape) (h : History) (c p : ℕ) (l : Loss) (o : Outcome) (set : List Bool) →
    (if is_freed o then flier p (flights h) else None) ≡ leaves_of h c (loss_what l p o set)
loss_leaves s h c p l x set = grind arith

-- the event fits and reports what it did, with out of whose flight the page went, and the node holds what it should
pub record Losing (s : Shape) (h : History) (c p : ℕ) (l : Loss) (old new : PageStoreState) (done : Done) (left : Option ℕ) : Type 0 where
  pub gives : Gives s h (h ++ by c (loss_what l p done.outcome done.released) ∷ []) p done.outcome done.released
  pub fits : Fits s h (by c (loss_what l p done.outcome done.released))
  pub leaves_is : left ≡ leaves_of h c (loss_what l p done.outcome done.released)
  pub node : IsNode s (h ++ by c (loss_what l p done.outcome done.released) ∷ []) new.table new.queue
  pub work : new.table.accesses ≤ old.table.accesses + 8

pub losing : (s : Shape) (h : History) (c p b : ℕ) (l : Loss) (closed : Bool) (old new : PageStoreState) (done : Done) (left : Option ℕ) → IsNode s h old.table old.queue →
    block_of h p ≡ Some b → closed ≡ is_closed h → refusal s h (loss_call l p) ≡ None → ((x : Slot) → slot_at old.table b ≡ Some x → LostChained l closed x old new b done left) →
    Losing s h c p l old new done left
losing s h c p b l closed old new done left m home shut allowed lost =
    let w : Found s h old.table p b = at_home s h old.table old.queue p b m home in
    let what : LostChained l closed w.slot old new b done left = lost w.slot w.at in
    let homed = legal_homed s h m.legal in
    let f : LossFits s h c w.slot.id l done =
    loss_fits s h c b w.slot l closed old what.between done left homed w.is shut (ap (λ q. refusal s h (loss_call l q)) w.id_is ∙ allowed) what.lost in
    let e : History = h ++ by c (loss_what l w.slot.id done.outcome done.released) ∷ [] in
    let P : ℕ → Type 0 = λ q. Losing s h c q l old new done left in
    subst P w.id_is
    (record {
      gives = f.gives;
      fits = f.fits;
      leaves_is = loss_left s h b w.slot l closed old what.between done left homed w.is what.lost ∙ loss_leaves s h c w.slot.id l done.outcome done.released;
      node = node_relinked s e what.between new 2 what.relinks (lost_node s h c b w.slot l closed old what.between done left homed m w.at what.lost f);
      work = omega (arith, what.lost.edits.work, what.relinks.work);
    })
