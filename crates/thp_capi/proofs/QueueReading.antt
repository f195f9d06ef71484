-- The queue read by its links: the page of each of its blocks, and the buffer that receives them.
use Rattle.std.proofs.Common.{◌≡◌, ◌∙◌, ℕ, zero, suc, ◌+◌, ◌<◌, ◌≤◌, true, List, [], ◌∷◌, ◌++◌, Option, Some, None, length, map, take, drop, set, get_or, ap, ap₂, sym, subst, refl, arith, add-one, slice_get, inl, inr}
use Rattle.std.proofs.lemmas.Bool.{cases_lt}
use Rattle.std.proofs.lemmas.List.{take_all, drop_all}
use Rattle.thp_history.specs.Prelude.{is_live, queue}
use Rattle.thp_links.specs.declared.link.TheConstants.{NIL}
use Rattle.thp_page.specs.Prelude.{slot_at, HoldsPage, Slot, Table}
use Rattle.thp_live_pages.specs.Prelude.{Fills, HasBlock, block_of, LiesWherePlaced}
use Rattle.thp_node.specs.Prelude.{NodeState}
use Rattle.thp_capi.specs.Reading.{filled_with}
use Rattle.thp_capi.proofs.Reading.{at_block}

-- two lists of which one names the other: as long, and entry by entry
pub length_named : (f : ℕ → Option ℕ) (ps bs : List ℕ) → map f ps ≡ map (λ b. Some b) bs → length ps ≡ length bs
length_named f [] [] e = refl
length_named f [] (b ∷ bs) e = absurd (cc e)
length_named f (p ∷ ps) [] e = absurd (cc e)
length_named f (p ∷ ps) (b ∷ bs) e = ap suc (length_named f ps bs (cc e))

named_at : (f : ℕ → Option ℕ) (ps bs : List ℕ) (k : ℕ) → map f ps ≡ map (λ b. Some b) bs → k < length bs → f (get_or ps k 0) ≡ Some (get_or bs k NIL)
named_at f [] [] k e below = absurd (omega arith)
named_at f [] (b ∷ bs) k e below = absurd (cc e)
named_at f (p ∷ ps) [] k e below = absurd (omega arith)
named_at f (p ∷ ps) (b ∷ bs) zero e below = cc e
named_at f (p ∷ ps) (b ∷ bs) (suc k) e below = named_at f ps bs k (cc e) (omega arith)

-- a block of the queue has its page
pub record HasQueued (t : Table) (b p : ℕ) : Type 0 where
  pub slot : Slot
  pub at : slot_at t b ≡ Some slot
  pub page : slot.id ≡ p

pub queued_at : (n : NodeState) (t : Table) → t ≡ n.table → ((b : ℕ) → Fills n.shape n.journal b (slot_at n.table b)) → LiesWherePlaced n.journal →
    ((p : ℕ) → is_live n.journal p ≡ true → HasBlock n.table p) → map (block_of n.journal) (queue n.shape n.journal) ≡ map (λ b. Some b) n.queue →
    (k b : ℕ) → k < length n.queue → b ≡ get_or n.queue k NIL → HasQueued t b (get_or (queue n.shape n.journal) k 0)
queued_at n t same fills lies has pages k b below is =
    let p = get_or (queue n.shape n.journal) k 0 in
    let home : block_of n.journal p ≡ Some b = named_at (block_of n.journal) (queue n.shape n.journal) n.queue k pages below ∙ ap (λ c. Some c) (sym is) in
    let H : Table → Type 0 = λ u. HasBlock u p in
    let there : HasBlock t p = subst H (sym same) (has p ((lies p b).0 home).0) in
    let w = at_block n t same fills lies p there.0 there.1 in
    let one : there.0 ≡ b = inside (sym w.home ∙ home) in
    let S : Option Slot → Type 0 = λ o. HoldsPage o p in
    record {
      slot = w.slot;
      at = ap (slot_at t) (sym one) ∙ w.at;
      page = subst S w.at there.1;
    } where
      inside : {a b : ℕ} → Some a ≡ Some b → a ≡ b
      inside e = cc

-- one more page is stored
pub stored_more : (ps buffer now : List ℕ) (k x : ℕ) → now ≡ take k ps ++ drop k buffer → k < length ps → k < length buffer → x ≡ get_or ps k 0 → set now k x ≡ take (k + 1) ps ++ drop (k + 1) buffer
stored_more ps buffer now k x before a b is = ap (λ xs. set xs k x) before ∙ go ps buffer k a b is ∙ ap (λ m. take m ps ++ drop m buffer) (sym (add-one k)) where
  go : (ps buffer : List ℕ) (k : ℕ) → k < length ps → k < length buffer → x ≡ get_or ps k 0 → set (take k ps ++ drop k buffer) k x ≡ take (suc k) ps ++ drop (suc k) buffer
  go [] buffer k a b is = absurd (omega arith)
  go (p ∷ ps) [] k a b is = absurd (omega arith)
  go (p ∷ ps) (c ∷ cs) zero a b is = ap (λ y. y ∷ cs) is
  go (p ∷ ps) (c ∷ cs) (suc k) a b is = ap (λ ys. p ∷ ys) (go ps cs k (omega arith) (omega arith) is)

-- all are that there is room for
pub stored_all : (ps buffer now : List ℕ) (k : ℕ) → now ≡ take k ps ++ drop k buffer → k ≤ length ps → k ≤ length buffer → (k < length ps → k ≡ length buffer) → now ≡ filled_with ps buffer
stored_all ps buffer now k is a b ends = elim (cases_lt k (length ps)) [
  | inl below ↦ is ∙ ap₂ (λ (xs ys : List ℕ). xs ++ ys) (ap (λ n. take n ps) (ends below)) (drop_all k buffer (omega (arith, ends below)) ∙ sym (drop_all (length ps) buffer (omega (arith, ends below))))
  | inr past ↦
      let all : k ≡ length ps = omega (arith, a, past) in
      is ∙ ap₂ (λ (xs ys : List ℕ). xs ++ ys) (take_all k ps (omega (arith, all)) ∙ sym (take_all (length buffer) ps (omega (arith, all, b)))) (ap (λ n. drop n buffer) all)
]

-- the oldest block
pub first_at : (q : List ℕ) (b : ℕ) → slice_get q 0 ≡ Some b → b ≡ get_or q 0 NIL
first_at [] b e = absurd (cc e)
first_at (c ∷ q) b e = cc e
