-- A table without pages, and its empty queue.
use Rattle.std.proofs.Common.{◌≡◌, ℕ, zero, suc, List, [], Option, None, length, get_or, replicate, refl, ap, sym, ◌∙◌, subst}
use Rattle.std.proofs.lemmas.List.{length-replicate}
use Rattle.thp_links.proofs.Members.{Contains-nil}
use Rattle.thp_links.proofs.OneTable.{Stands-nil}
use Rattle.thp_page.specs.Prelude.{Slot, Table}
use Rattle.thp_live_pages.specs.Prelude.{IsQueued, QueueIsLinked}

-- no block has a page
empty : (n b : ℕ) → get_or (replicate {A = Option Slot} n None) b None ≡ None
empty zero b = refl
empty (suc n) zero = refl
empty (suc n) (suc b) = empty n b

-- the links of such a table hold the empty queue
pub linked_none : (t : Table) (n : ℕ) → t.slots ≡ replicate n None → length t.links ≡ n → QueueIsLinked t []
linked_none t n slots links = record {
  sizes = ap (λ (os : List (Option Slot)). length os) slots ∙ length-replicate n None ∙ sym links;
  queue_stands = Stands-nil t.links;
  listed = λ b. record {
    queued = λ i. absurd (Contains-nil b i);
    in_queue = λ i. absurd (subst (λ (o : Option Slot). IsQueued o) (ap (λ (os : List (Option Slot)). get_or os b None) slots ∙ empty n b) i);
  };
}
