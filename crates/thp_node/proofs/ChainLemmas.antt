-- The chain of free blocks, while pages come, change and go.
use Rattle.std.proofs.Common.{◌≡◌, ◌≢◌, ℕ, ◌<◌, ◌≤◌, ◌+◌, [], Bool, List, ◌∷◌, Option, Some, None, IsSome, length, drop, ap, sym, ◌∙◌, subst, arith, inl, inr, get_or, length-set, slice_get, Contains, get_or-set_other, get_or-set_same}
use Rattle.std.proofs.lemmas.Bool.{cases_lt}
use Rattle.std.proofs.lemmas.Bool.Decides.{eqb_tells}
use Rattle.thp_links.specs.Prelude.{Distinct}
use Rattle.thp_links.proofs.Members.{Contains-nil, Contains-head, Contains-behind, Contains-cons_cases, Contains-from_first, Contains-from_rest, Distinct-head, first_and_rest}
use Rattle.thp_history.specs.declared.events.Outcome.{Outcome}
use Rattle.thp_history.specs.declared.events.Outcome.TheVariants as outcome
use Rattle.thp_page.specs.Prelude.{slot_at, Slot, Table}
use Rattle.thp_page.proofs.TableSlots.{slot_at-inside}
use Rattle.thp_history.specs.declared.page_call.Done.{Done}
use Rattle.thp_history.specs.declared.page_call.Loss.{Loss}
use Rattle.thp_live_pages.specs.Prelude.{IsFreeChain, Relinks, PageStoreState, Edits, HasFree, Lost, slot_after, queue_by_outcome}
use Rattle.thp_live_pages.proofs.FreeChains.{free_chain_kept, not_free}
use Rattle.thp_live_pages.proofs.Relinking.{edited_slot, taken}
use Rattle.thp_node.specs.Prelude.{HasChain}

-- another block stands as it did
other_slot : (old new : PageStoreState) (b k : ℕ) (o : Option Slot) (q : List ℕ) (n : ℕ) → Edits old new b o q n → (k ≢ b) → slot_at new.table k ≡ slot_at old.table k
other_slot old new b k o q n e apart = ap (λ xs. get_or xs k None) e.slots ∙ get_or-set_other old.table.slots b k o None apart

-- a block with a page was used before
used_before : (t : Table) (u all : ℕ) (f : List ℕ) (b : ℕ) (x : Slot) → HasChain t u all f → slot_at t b ≡ Some x → b < u
used_before t u all f b x m at = elim (cases_lt b u) [
  | inl below ↦ below
  | inr past ↦ let none : slot_at t b ≡ None = m.later b past in absurd (cc (at, none))
]

-- an edit leaves a chain that hasn't its block, but for the block
edited_chain : (old new : PageStoreState) (u all : ℕ) (f : List ℕ) (b : ℕ) (o : Option Slot) (q : List ℕ) (n : ℕ) → HasChain old.table u all f → Edits old new b o q n →
    (k : ℕ) → k ≢ b → k < u → slot_at new.table k ≡ None → Contains f k
edited_chain old new u all f b o q n m e k apart below none = m.all k below (sym (other_slot old new b k o q n e apart) ∙ none)

-- it leaves the blocks that were never used
edited_later : (old new : PageStoreState) (u all : ℕ) (f : List ℕ) (b : ℕ) (o : Option Slot) (q : List ℕ) (n : ℕ) → HasChain old.table u all f → b < u → Edits old new b o q n →
    (k : ℕ) → u ≤ k → slot_at new.table k ≡ None
edited_later old new u all f b o q n m before e k past = other_slot old new b k o q n e (λ same. omega (arith, same)) ∙ m.later k past

-- and the number of blocks
edited_size : (old new : PageStoreState) (all b : ℕ) (o : Option Slot) (q : List ℕ) (n : ℕ) → all ≡ length old.table.slots → Edits old new b o q n → all ≡ length new.table.slots
edited_size old new all b o q n is e = omega (arith, is, ap length e.slots, length-set old.table.slots b o)

-- while a block keeps a page the chain stays
pub chain_edited : (old new : PageStoreState) (u all : ℕ) (f : List ℕ) (b : ℕ) (x y : Slot) (q : List ℕ) (n : ℕ) → HasChain old.table u all f → slot_at old.table b ≡ Some x → Edits old new b (Some y) q n →
    HasChain new.table u all f
chain_edited old new u all f b x y q n m at e = record {
  chain = free_chain_kept old new f b (Some y) q n m.chain e (not_free old.table f b x m.chain at);
  size = edited_size old new all b (Some y) q n m.size e;
  within = m.within;
  inside = m.inside;
  all = λ k below none.
      elim (eqb_tells k b) [
        | inl z ↦ absurd (some_none (slot_at new.table b) y (edited_slot old new b x (Some y) q n at e) (ap (slot_at new.table) (sym z.1) ∙ none))
        | inr z ↦ edited_chain old new u all f b (Some y) q n m e k z.1 below none
      ];
  later = edited_later old new u all f b (Some y) q n m (used_before old.table u all f b x m at) e;
} where
  some_none : (o : Option Slot) (y : Slot) → o ≡ Some y → o ≡ None → ⊥
  some_none o y p q = cc

-- a block that lost its page goes into the chain
pub chain_pushed : (old mid new : PageStoreState) (u all : ℕ) (f g : List ℕ) (b : ℕ) (x : Slot) (q : List ℕ) (n : ℕ) → HasChain old.table u all f → slot_at old.table b ≡ Some x → Edits old mid b None q n →
    g ≡ b ∷ f → IsFreeChain new.table g → Relinks mid new 2 → HasChain new.table u all g
chain_pushed old mid new u all f g b x q n m at e list chain r = record {
  chain = chain;
  size = edited_size old mid all b None q n m.size e ∙ sym (ap length r.slots);
  within = m.within;
  inside = λ k i.
      let P : List ℕ → Type 0 = λ xs. Contains xs k in
      elim (Contains-cons_cases b f k (subst P list i)) [
        | inl z ↦ omega (arith, z, used_before old.table u all f b x m at)
        | inr z ↦ m.inside k z
      ];
  all = λ k below none.
      let P : List ℕ → Type 0 = λ xs. Contains xs k in
      subst P (sym list)
      (elim (eqb_tells k b) [
        | inl z ↦ let Q : ℕ → Type 0 = λ i. Contains (b ∷ f) i in subst Q (sym z.1) (Contains-head b f)
        | inr z ↦ Contains-behind b f k (edited_chain old mid u all f b None q n m e k z.1 below (ap (λ xs. get_or xs k None) (sym r.slots) ∙ none))
      ]);
  later = λ k past. ap (λ xs. get_or xs k None) r.slots ∙ edited_later old mid u all f b None q n m (used_before old.table u all f b x m at) e k past;
}

-- block b has a page still
pub record KeepsPage (old new : PageStoreState) (b : ℕ) : Type 0 where
  pub slot : Slot
  pub queue : List ℕ
  pub most : ℕ
  pub edits : Edits old new b (Some slot) queue most

pub chain_stays : (now old new : PageStoreState) (u all : ℕ) (f : List ℕ) (b : ℕ) → HasChain old.table u all f → old ≡ now → IsSome (slot_at now.table b) → ((x : Slot) → slot_at old.table b ≡ Some x → KeepsPage old new b) →
    HasChain new.table u all f
chain_stays now old new u all f b m is some keeps =
    let P : PageStoreState → Type 0 = λ n. IsSome (slot_at n.table b) in
    let w = taken (slot_at old.table b) (subst P (sym is) some) in
    let k : KeepsPage old new b = keeps w.0 w.1 in
    chain_edited old new u all f b w.0 k.slot k.queue k.most m w.1 k.edits

-- a loss that freed its page: block b had a page, and has none now
pub record Freed (old new : PageStoreState) (b : ℕ) : Type 0 where
  pub slot : Slot
  pub queue : List ℕ
  pub at : slot_at old.table b ≡ Some slot
  pub edits : Edits old new b None queue 6

pub freed_there : (loss : Loss) (closed : Bool) (now old new : PageStoreState) (b : ℕ) (done : Done) (left : Option ℕ) → old ≡ now → IsSome (slot_at now.table b) →
    ((x : Slot) → slot_at old.table b ≡ Some x → Lost loss closed x old new b done left) → done.outcome ≡ outcome.Freed → Freed old new b
freed_there loss closed now old new b done left is some lost e =
    let P : PageStoreState → Type 0 = λ n. IsSome (slot_at n.table b) in
    let w = taken (slot_at old.table b) (subst P (sym is) some) in
    let m : Lost loss closed w.0 old new b done left = lost w.0 w.1 in
    let E : Outcome → Type 0 = λ o. Edits old new b (slot_after o (record w.0 { page = m.page })) (queue_by_outcome o b old.queue) 6 in
    let f : E outcome.Freed = subst E e m.edits in
    record { slot = w.0; queue = queue_by_outcome outcome.Freed b old.queue; at = w.1; edits = f }

-- a loss that didn't
pub loss_keeps : (loss : Loss) (closed : Bool) (x : Slot) (old new : PageStoreState) (b : ℕ) (done : Done) (left : Option ℕ) → Lost loss closed x old new b done left → (done.outcome ≡ outcome.Freed → ⊥) →
    KeepsPage old new b
loss_keeps loss closed x old new b done left lost unfreed = grind arith

-- nothing is in an empty chain
Contains-of_none : (f : List ℕ) (b : ℕ) → slice_get f 0 ≡ None → Contains f b → ⊥
Contains-of_none [] b none i = Contains-nil b i
Contains-of_none (x ∷ xs) b none i = absurd (cc none)

-- a block that got a page has one
placed_some : (old new : PageStoreState) (b : ℕ) (y : Slot) (q : List ℕ) (n : ℕ) → Edits old new b (Some y) q n → b < length old.table.slots → (k : ℕ) → k ≡ b → slot_at new.table k ≡ None → ⊥
placed_some old new b y q n e inside k same none = some_none (slot_at new.table b) y (ap (λ xs. get_or xs b None) e.slots ∙ get_or-set_same old.table.slots b (Some y) None inside) (ap (slot_at new.table) (sym same) ∙ none) where
  some_none : (o : Option Slot) (x : Slot) → o ≡ Some x → o ≡ None → ⊥
  some_none o x p q = cc

-- a block has no page if the chain has one, or if one was never used
pub chain_some : (t : Table) (u all : ℕ) (f : List ℕ) (b : ℕ) → HasChain t u all f → slice_get f 0 ≡ Some b → HasFree t
chain_some t u all f b m first = let here = Contains-from_first f b first in record { block = b; inside = omega (arith, m.inside b here, m.within, m.size); empty = m.chain.empty b here }

pub unused_some : (t : Table) (u all : ℕ) (f : List ℕ) → HasChain t u all f → u < all → HasFree t
unused_some t u all f m below = record { block = u; inside = omega (arith, below, m.size); empty = m.later u (omega arith) }

-- else every block has a page
pub none_free : (t : Table) (u all : ℕ) (f : List ℕ) → HasChain t u all f → slice_get f 0 ≡ None → all ≤ u → (b : ℕ) → b < length t.slots → slot_at t b ≡ None → ⊥
none_free t u all f m none past b below empty = Contains-of_none f b none (m.all b (omega (arith, m.size)) empty)

-- an empty chain and a block without a page: some block was never used
pub unused_inside : (t : Table) (u all : ℕ) (f : List ℕ) → HasChain t u all f → slice_get f 0 ≡ None → HasFree t → u < length t.slots
unused_inside t u all f m none free = elim (cases_lt u all) [
  | inl below ↦ omega (arith, below, m.size)
  | inr past ↦ absurd (none_free t u all f m none past free.block free.inside free.empty)
]

-- the first block of the chain goes out of it, and gets a page
pub chain_placed : (old mid new : PageStoreState) (u all : ℕ) (f g : List ℕ) (b : ℕ) (y : Slot) (q : List ℕ) (n : ℕ) → HasChain old.table u all f → slice_get f 0 ≡ Some b → Distinct f → g ≡ drop 1 f →
    IsFreeChain mid.table g → Relinks old mid 2 → Edits mid new b (Some y) q n → HasChain new.table u all g
chain_placed old mid new u all f g b y q n m first apart list chain r e = record {
  chain = free_chain_kept mid new g b (Some y) q n chain e out;
  size = edited_size mid new all b (Some y) q n (m.size ∙ sym (ap length r.slots)) e;
  within = m.within;
  inside = λ k i. m.inside k (back k i);
  all = λ k below none.
      elim (eqb_tells k b) [
        | inl z ↦ absurd (placed_some mid new b y q n e (omega (arith, before, m.within, m.size, ap length r.slots)) k z.1 none)
        | inr z ↦
            let was : Contains f k = m.all k below (ap (λ xs. get_or xs k None) (sym r.slots) ∙ sym (other_slot mid new b k (Some y) q n e z.1) ∙ none) in
            rest k z.1 (subst (λ xs. Contains xs k) (first_and_rest f b first) was)
      ];
  later = λ k past. other_slot mid new b k (Some y) q n e (λ same. omega (arith, same, before)) ∙ ap (λ xs. get_or xs k None) r.slots ∙ m.later k past;
} where
  before : b < u
  before = m.inside b (Contains-from_first f b first)

  back : (k : ℕ) → Contains g k → Contains f k
  back k i = Contains-from_rest f k (subst (λ xs. Contains xs k) list i)

  out : Contains g b → ⊥
  out i = Distinct-head b (drop 1 f) (subst Distinct (first_and_rest f b first) apart) (subst (λ xs. Contains xs b) list i)

  rest : (k : ℕ) → k ≢ b → Contains (b ∷ drop 1 f) k → Contains g k
  rest k unlike i = elim (Contains-cons_cases b (drop 1 f) k i) [
    | inl z ↦ absurd (unlike z)
    | inr z ↦ subst (λ xs. Contains xs k) (sym list) z
  ]

-- a block that was never used gets a page, as the chain is empty
pub chain_begun : (old mid new : PageStoreState) (u all : ℕ) (f g : List ℕ) (y : Slot) (q : List ℕ) (n : ℕ) → HasChain old.table u all f → slice_get f 0 ≡ None → HasFree old.table → g ≡ drop 1 f →
    IsFreeChain mid.table g → Relinks old mid 2 → Edits mid new u (Some y) q n → HasChain new.table (u + 1) all g
chain_begun old mid new u all f g y q n m none free list chain r e = record {
  chain = free_chain_kept mid new g u (Some y) q n chain e (nothing u);
  size = edited_size mid new all u (Some y) q n (m.size ∙ sym (ap length r.slots)) e;
  within = omega (arith, inside, m.size);
  inside = λ k i. absurd (nothing k i);
  all = λ k below empty.
      elim (eqb_tells k u) [
        | inl z ↦ absurd (placed_some mid new u y q n e (omega (arith, inside, ap length r.slots)) k z.1 empty)
        | inr z ↦ absurd (Contains-of_none f k none (m.all k (omega (arith, z.1)) (ap (λ xs. get_or xs k None) (sym r.slots) ∙ sym (other_slot mid new u k (Some y) q n e z.1) ∙ empty)))
      ];
  later = λ k past. other_slot mid new u k (Some y) q n e (λ same. omega (arith, same)) ∙ ap (λ xs. get_or xs k None) r.slots ∙ m.later k (omega arith);
} where
  inside : u < length old.table.slots
  inside = unused_inside old.table u all f m none free

  nothing : (k : ℕ) → Contains g k → ⊥
  nothing k i = Contains-of_none f k none (Contains-from_rest f k (subst (λ xs. Contains xs k) list i))
