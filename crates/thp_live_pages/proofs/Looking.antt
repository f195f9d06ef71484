-- What stays where link pairs are only read: all but the count of accesses.
use Rattle.std.proofs.Common.{ℕ, List, Option, Some, None, length, map, get_or, ap, sym, ◌∙◌, subst}
use Rattle.thp_history.specs.declared.shape.Shape.{Shape}
use Rattle.thp_history.specs.Prelude.{History}
use Rattle.thp_page.specs.Prelude.{Slot}
use Rattle.thp_live_pages.specs.Prelude.{Relinks, Fills, IsNode, PageStoreState}

-- and the table and the queue are still what the history says
pub node_read : (s : Shape) (h : History) (old new : PageStoreState) (most : ℕ) → IsNode s h old.table old.queue → Relinks old new most → IsNode s h new.table new.queue
node_read s h old new most m r = record {
  legal = m.legal;
  size = ap (λ (xs : List (Option Slot)). length xs) r.slots ∙ m.size;
  order = r.order ∙ m.order;
  fills = λ b. let P : List (Option Slot) → Type 0 = λ xs. Fills s h b (get_or xs b None) in subst P (sym r.slots) (m.fills b);
  queue_is = m.queue_is ∙ ap (λ (q : List ℕ). map (λ b. Some b) q) (sym r.queue_is);
}
