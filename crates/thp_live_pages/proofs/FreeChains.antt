-- A chain of blocks without a page, while the table and the queue beside it change.
use Rattle.std.proofs.Common.{◌≡◌, ◌≢◌, ℕ, List, Option, Some, None, length, ap, sym, ◌∙◌, subst, get_or, Contains, get_or-set_other}
use Rattle.thp_links.specs.Prelude.{SameOutside, Apart}
use Rattle.thp_links.proofs.OneTable.{Stands-kept}
use Rattle.thp_links.proofs.Segments.{Trail-kept}
use Rattle.thp_page.specs.Prelude.{slot_at, Slot, Table, SameSlots}
use Rattle.thp_page.proofs.TableSlots.{slot_at-same}
use Rattle.thp_live_pages.specs.Prelude.{PageStoreState, Edits, IsFreeChain, IsListed, QueueIsLinked}
use Rattle.thp_live_pages.proofs.Relinking.{not_queued}

-- an edit of a block that isn't in the chain
pub free_chain_kept : (old new : PageStoreState) (f : List ℕ) (b : ℕ) (o : Option Slot) (q : List ℕ) (n : ℕ) → IsFreeChain old.table f → Edits old new b o q n → (Contains f b → ⊥) → IsFreeChain new.table f
free_chain_kept old new f b o q n m e out = record {
  stands = record { trail = Trail-kept old.table.links new.table.links f (λ k i. e.links k (apart k i) (m.empty k i)) m.stands.trail; distinct = m.stands.distinct };
  empty = λ k i. ap (λ xs. get_or xs k None) e.slots ∙ get_or-set_other old.table.slots b k o None (apart k i) ∙ m.empty k i;
} where
  apart : (k : ℕ) → Contains f k → k ≢ b
  apart k i same = let P : ℕ → Type 0 = λ z. Contains f z in out (subst P same i)

-- a block with a page isn't in the chain
pub not_free : (t : Table) (f : List ℕ) (b : ℕ) (x : Slot) → IsFreeChain t f → slot_at t b ≡ Some x → Contains f b → ⊥
not_free t f b x m at i = let none = m.empty b i in absurd (cc (at, none))

-- no block is in the chain and in the queue
pub queue_apart : (t : Table) (q f : List ℕ) → QueueIsLinked t q → IsFreeChain t f → Apart q f
queue_apart t q f m c = record { never_both = λ k i j. not_queued t q k m (c.empty k j) i }

-- the queue beside a chain that changes
pub linked_beside : (t u : Table) (q f : List ℕ) → QueueIsLinked t q → SameSlots t u → SameOutside f t.links u.links → Apart q f → QueueIsLinked u q
linked_beside t u q f m same out apart = record {
  sizes = ap length same.slots ∙ m.sizes ∙ sym out.same_length;
  queue_stands = Stands-kept m.queue_stands out apart;
  listed = λ b. let P : Option Slot → Type 0 = λ o. IsListed o q b in subst P (sym (slot_at-same t u b same)) (m.listed b);
}
