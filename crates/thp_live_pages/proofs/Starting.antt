-- A node with no history.
use Rattle.std.proofs.Common.{◌≡◌, ℕ, List, [], map, length, Option, Some, None, refl, ap, sym, ◌∙◌, subst}
use Rattle.thp_history.specs.declared.shape.Shape.{Shape}
use Rattle.thp_history.specs.Prelude.{queue}
use Rattle.thp_history.proofs.LegalSteps.{legal_none}
use Rattle.thp_page.specs.Prelude.{Slot, Table, slot_at}
use Rattle.thp_live_pages.specs.Prelude.{Fills, IsNode, block_of}

lies_nowhere : (p b : ℕ) → block_of [] p ≡ Some b → ⊥
unfolding block_of
lies_nowhere p b e = cc

queue_none : (s : Shape) → map (block_of []) (queue s []) ≡ []
unfolding queue
queue_none s = refl

-- an empty table and an empty queue are those of the empty history
pub node_none : (s : Shape) (t : Table) (q : List ℕ) → length t.slots ≡ s.blocks → t.order ≡ s.order → ((b : ℕ) → slot_at t b ≡ None) → q ≡ [] → IsNode s [] t q
node_none s t q size order empty none = record {
  legal = legal_none s;
  size = size;
  order = order;
  fills = λ b. let P : Option Slot → Type 0 = λ o. Fills s [] b o in subst P (sym (empty b)) (λ p e. lies_nowhere p b e);
  queue_is = queue_none s ∙ ap (map (λ b. Some b)) (sym none);
}
