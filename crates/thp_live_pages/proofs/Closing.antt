-- When a close and an allocation are refused.
use Rattle.std.proofs.Common.{◌≡◌, ◌<◌, ℕ, Bool, true, false, not, ◌&&◌, cond, List, length, Option, Some, None, refl, ap, ap₂, ◌∙◌, subst, arith, IsSome}
use Rattle.thp_history.specs.declared.refusal.Refusal.TheVariants as reason
use Rattle.thp_history.specs.declared.shape.Shape.{Shape}
use Rattle.thp_history.specs.Prelude.{each_below, History, some_event, is_closed, is_live, allocations, frees, block_in_use, refusal}
use Rattle.thp_history.specs.Refusals as call
use Rattle.thp_history.proofs.Below.{each_below-ext, each-not, some_yes, some_no}
use Rattle.thp_history.proofs.Numbers.{Fresh}
use Rattle.thp_page.specs.Prelude.{Slot, Table, slot_at, HoldsPage}
use Rattle.thp_live_pages.specs.Prelude.{HasFree, Fills, IsNode}
use Rattle.thp_live_pages.proofs.Admitting.{found}
use Rattle.thp_live_pages.proofs.Homing.{in_use, block_free, legal_homed}
use Rattle.thp_live_pages.proofs.PageEvents.{slot_is}

pub refused_close : (s : Shape) (h : History) → is_closed h ≡ true → refusal s h call.close ≡ Some reason.Closed
unfolding refusal
refused_close s h e = ap (λ b. cond b (Some reason.Closed) None) e

pub allowed_close : (s : Shape) (h : History) → is_closed h ≡ false → refusal s h call.close ≡ None
unfolding refusal
allowed_close s h e = ap (λ b. cond b (Some reason.Closed) None) e

-- an allocation on a closed node
pub refused_alloc : (s : Shape) (h : History) → is_closed h ≡ true → refusal s h call.alloc_page ≡ Some reason.Closed
unfolding refusal
refused_alloc s h e = ap (λ b. cond b (Some reason.Closed) (cond (each_below s.blocks (block_in_use h)) (Some reason.NoBlock) None)) e

all_pass : (n : ℕ) (f : ℕ → Bool) → ((i : ℕ) → i < n → f i ≡ true) → each_below n f ≡ true
all_pass n f t = each_below-ext n f (λ i. true) t ∙ each-not n (λ i. false) ∙ ap not (some_no n (λ i. false) (λ i l. refl))

double_not : (b : Bool) → b ≡ not (not b)
double_not x = grind arith

one_fails : (n : ℕ) (f : ℕ → Bool) (b : ℕ) → b < n → f b ≡ false → each_below n f ≡ false
one_fails n f b l e =
    each_below-ext n f (λ i. not (not (f i))) (λ i k. double_not (f i)) ∙ each-not n (λ i. not (f i)) ∙ ap not (some_yes n (λ i. not (f i)) b l (ap not e))

-- a block in which a page stands is in use
taken : (s : Shape) (h : History) (t : Table) (q : List ℕ) (b : ℕ) → IsNode s h t q → IsSome (slot_at t b) → block_in_use h b ≡ true
taken s h t q b m some = go (slot_at t b) refl some where
  go : (o : Option Slot) → slot_at t b ≡ o → IsSome o → block_in_use h b ≡ true
  go None e y = absurd (cc)
  go (Some x) e y =
      let lies = (legal_homed s h m.legal).from x.id b (slot_is s h t q b x m e).home in
      in_use h x.id b lies.put lies.live

-- an allocation where a page stands in each block
pub refused_full : (s : Shape) (h : History) (t : Table) (q : List ℕ) → IsNode s h t q → is_closed h ≡ false → ((b : ℕ) → b < length t.slots → IsSome (slot_at t b)) →
    refusal s h call.alloc_page ≡ Some reason.NoBlock
unfolding refusal
refused_full s h t q m e full =
    ap₂ (λ a b. cond a (Some reason.Closed) (cond b (Some reason.NoBlock) None)) e (all_pass s.blocks (block_in_use h) (λ b l. taken s h t q b m (full b (omega (arith, m.size)))))

-- an allocation where some block is empty
pub allowed_alloc : (s : Shape) (h : History) (t : Table) (q : List ℕ) → IsNode s h t q → is_closed h ≡ false → HasFree t → refusal s h call.alloc_page ≡ None
unfolding refusal
allowed_alloc s h t q m e free =
    let P : Option Slot → Type 0 = λ o. Fills s h free.block o in
    ap₂ (λ a b. cond a (Some reason.Closed) (cond b (Some reason.NoBlock) None)) e
    (one_fails s.blocks (block_in_use h) free.block (omega (arith, m.size, free.inside)) (block_free s h free.block (legal_homed s h m.legal) (subst P free.empty (m.fills free.block))))

no_both : (z : Bool) → z ≡ false → z ≡ true → ⊥
no_both z e f = cc

-- the next number is that of no page in the table
pub next_is_new : (s : Shape) (h : History) (t : Table) (q : List ℕ) (p : ℕ) → IsNode s h t q → p ≡ allocations h → (b : ℕ) → HoldsPage (slot_at t b) p → ⊥
next_is_new s h t q p m e b held =
    let none : Fresh h p = (legal_homed s h m.legal).grown.numbered.fresh p (omega (arith, e)) in
    no_both (is_live h p) (ap (λ z. z && not (some_event (frees p) h)) none.never) (found s h t q p b m held).live
