-- The blocks where no live page lies, after one more event.
use Rattle.std.proofs.Common.{◌≡◌, ◌≢◌, ℕ, ◌*◌, ◌<◌, ◌≤◌, Bool, true, false, cond, not, ◌&&◌, nat_eq, nat_lt, List, [], ◌∷◌, ◌++◌, length, Option, Some, None, refl, ap, sym, ◌∙◌, subst, arith, inl, inr, eq-eqb, eqb-true, lt-ltb}
use Rattle.std.specs.Prelude.{⊤, IfSome, MatchOption}
use Rattle.std.proofs.lemmas.Bool.Decides.{eqb_tells}
use Rattle.thp_history.specs.declared.events.Event.{Event}
use Rattle.thp_history.specs.declared.events.Outcome.{Outcome}
use Rattle.thp_history.specs.declared.events.What.{What}
use Rattle.thp_history.specs.declared.events.What.TheVariants.{Alloc}
use Rattle.thp_history.specs.declared.shape.Shape.{Shape}
use Rattle.thp_history.specs.Prelude.{least_free, allocates, frees, is_freed, is_live, block_in_use, is_block_held, History, some_event, Fits, FitsAlloc, FitsBy, IsLegal}
use Rattle.thp_history.proofs.Blocks.{held_in_use}
use Rattle.thp_history.proofs.Bools.{by_bool, and_both, and-true}
use Rattle.thp_history.proofs.LegalSteps.{legal_push}
use Rattle.thp_page.specs.Prelude.{slot_at, HoldsPage, Slot, Table}
use Rattle.thp_live_pages.specs.Prelude.{FreeSet, IsNode, block_of, block_after, has_block}
use Rattle.thp_live_pages.proofs.Admitting.{found, at_home}
use Rattle.thp_live_pages.proofs.Homing.{Homed, legal_homed, block_push, block_stays, block_freed, block_free, block_taken}
use Rattle.thp_live_pages.proofs.Least.{first_found, first_none}
use Rattle.thp_check.specs.Prelude.{MarksFree, IsFreed, free_after, taken_block}

no_both : (z : Bool) → z ≡ false → z ≡ true → ⊥
no_both z e f = cc

cond_and : (x l u : Bool) → cond x false (l && not u) ≡ (l && not (cond x true u))
cond_and x y u = grind arith

-- ---- which blocks are in use

module _ (s : Shape) (h k : History) (m : Homed s h) (n : Homed s k) where
  -- a block is in use before and after, or at neither, where the same pages lie there
  same_use : (b : ℕ) → ((q : ℕ) → block_of h q ≡ Some b → block_of k q ≡ Some b) → ((q : ℕ) → block_of k q ≡ Some b → block_of h q ≡ Some b) → block_in_use k b ≡ block_in_use h b
  same_use b f g =
      by_bool (block_in_use h b) _
      (λ y. stays y)
      (λ y. block_free s k b n (λ q there. no_both (block_in_use h b) y (block_taken s h q b m (g q there))) ∙ sym y) where
        stays : block_in_use h b ≡ true → block_in_use k b ≡ block_in_use h b
        stays y =
            by_bool (block_in_use k b) _ (λ z. z ∙ sym y)
            (λ z. absurd (no_both (block_in_use h b) (block_free s h b m (λ q there. no_both (block_in_use k b) z (block_taken s k q b n (f q there)))) y))

by_other : (p q r : ℕ) (o : Option ℕ) (u : Outcome) → (nat_eq p r && is_freed u) ≡ true → nat_eq q p ≡ false → cond (nat_eq q r) (cond (is_freed u) None o) o ≡ o
by_other p q r o u f y = grind (arith, eqb-true, and_both, nat_eq)

-- an event that frees another page leaves the block of this one
freed_other : (p q : ℕ) (o : Option ℕ) (w : What) → frees p w ≡ true → nat_eq q p ≡ false → block_after q o w ≡ o
freed_other p q o x f y = grind (arith, by_other)

-- what takes a block is an allocation there, and nothing else is one
taker : (w : What) (c : ℕ) → taken_block w ≡ Some c → (p : ℕ) × (w ≡ Alloc p c)
taker x c e = grind arith

no_taker : (w : What) (q : ℕ) → taken_block w ≡ None → allocates q w ≡ false
no_taker x q e = grind arith

module _ (s : Shape) (h : History) (e : Event) (legal : IsLegal s h) (fits : Fits s h e) where
  abbrev pub k : History
  k = h ++ e ∷ []

  m : Homed s h
  m = legal_homed s h legal

  n : Homed s k
  n = legal_homed s k (legal_push s h e legal fits)

  -- a block of the node, where one is meant
  abbrev IsInsideNode : Option ℕ → Type 0
  IsInsideNode None = ⊤
  IsInsideNode (Some c) = c < s.blocks

  -- where each page lies as before
  quiet : ((q : ℕ) → block_of k q ≡ block_of h q) → (b : ℕ) → block_in_use k b ≡ block_in_use h b
  quiet same b = same_use s h k m n b (λ q y. same q ∙ y) (λ q y. sym (same q) ∙ y)

  -- a new page takes its block
  alloc_use : (p c : ℕ) → e.what ≡ Alloc p c → (b : ℕ) → block_in_use k b ≡ cond (nat_eq b c) true (block_in_use h b)
  alloc_use p c is b =
      elim (eqb_tells b c) [
        | inl y ↦ ap (block_in_use k) y.1 ∙ block_taken s k p c n (lies p refl) ∙ sym (ap (λ x. cond x true (block_in_use h b)) y.0)
        | inr y ↦ same_use s h k m n b (goes y.1) (came y.1) ∙ sym (ap (λ x. cond x true (block_in_use h b)) y.0)
      ]
    where
      lies : (q : ℕ) → q ≡ p → block_of k q ≡ Some c
      lies q y = block_push h e q ∙ ap (block_after q (block_of h q)) is ∙ ap (λ x. cond x (Some c) (block_of h q)) (eq-eqb q p y)

      other : (q : ℕ) → nat_eq q p ≡ false → block_of k q ≡ block_of h q
      other q y = block_push h e q ∙ ap (block_after q (block_of h q)) is ∙ ap (λ x. cond x (Some c) (block_of h q)) y

      new : is_live h p ≡ false
      new =
          let F : What → Type 0 = λ w. FitsBy s h k e.caller w in
          let fresh : FitsAlloc s h p c = subst F is fits in
          let never = m.grown.numbered.fresh p (omega (arith, fresh.number)) in ap (λ x. x && not (some_event (frees p) h)) never.never

      goes : b ≢ c → (q : ℕ) → block_of h q ≡ Some b → block_of k q ≡ Some b
      goes f q y =
          by_bool (nat_eq q p) _
          (λ z. absurd (no_both (is_live h p) new (ap (is_live h) (sym (eqb-true q p z)) ∙ (m.from q b y).live)))
          (λ z. other q z ∙ y)

      came : b ≢ c → (q : ℕ) → block_of k q ≡ Some b → block_of h q ≡ Some b
      came f q y =
          by_bool (nat_eq q p) _
          (λ z. absurd (f (let there = lies q (eqb-true q p z) in cc)))
          (λ z. sym (other q z) ∙ y)

  -- a page that is freed leaves its block
  freed_use : (p c : ℕ) → frees p e.what ≡ true → block_of h p ≡ Some c → (b : ℕ) → block_in_use k b ≡ cond (nat_eq b c) false (block_in_use h b)
  freed_use p c gone home b =
      elim (eqb_tells b c) [
        | inl y ↦ ap (block_in_use k) y.1 ∙ block_free s k c n empty ∙ sym (ap (λ x. cond x false (block_in_use h b)) y.0)
        | inr y ↦ same_use s h k m n b (goes y.1) came ∙ sym (ap (λ x. cond x false (block_in_use h b)) y.0)
      ]
    where
      other : (q : ℕ) → nat_eq q p ≡ false → block_of k q ≡ block_of h q
      other q y = block_push h e q ∙ freed_other p q (block_of h q) e.what gone y

      none : block_of k p ≡ None
      none = block_push h e p ∙ block_freed p (block_of h p) e.what gone

      apart : (q b : ℕ) → block_of k q ≡ Some b → nat_eq q p ≡ false
      apart q b y = by_bool (nat_eq q p) _ (λ z. absurd (let here : block_of k q ≡ None = ap (block_of k) (eqb-true q p z) ∙ none in cc)) (λ z. z)

      empty : (q : ℕ) → block_of k q ≡ Some c → ⊥
      empty q y =
          let z : nat_eq q p ≡ false = apart q c y in
          let same : q ≡ p = m.once q p c (sym (other q z) ∙ y) home in
          no_both (nat_eq q p) z (eq-eqb q p same)

      came : (q : ℕ) → block_of k q ≡ Some b → block_of h q ≡ Some b
      came q y = sym (other q (apart q b y)) ∙ y

      goes : b ≢ c → (q : ℕ) → block_of h q ≡ Some b → block_of k q ≡ Some b
      goes f q y =
          by_bool (nat_eq q p) _
          (λ z. absurd (f (let here : block_of h q ≡ Some c = ap (block_of h) (eqb-true q p z) ∙ home in cc)))
          (λ z. other q z ∙ y)

  -- where no page with a block is freed, and none is new, each page lies as before
  nothing_moves : taken_block e.what ≡ None → ((p : ℕ) → frees p e.what ≡ true → block_of h p ≡ None) → (q : ℕ) → block_of k q ≡ block_of h q
  nothing_moves none homeless q = grind (arith, block_push, by_bool, block_freed, block_stays, no_taker)

  -- whether a block is in use after the event
  abbrev use_after : Option ℕ → Option ℕ → ℕ → Bool
  use_after (Some c) freed b = cond (nat_eq b c) true (block_in_use h b)
  use_after None (Some c) b = cond (nat_eq b c) false (block_in_use h b)
  use_after None None b = block_in_use h b

  used : (taken freed : Option ℕ) → taken_block e.what ≡ taken → IsFreed h e.what freed → (b : ℕ) → block_in_use k b ≡ use_after taken freed b
  used (Some c) freed t f b = let w = taker e.what c t in alloc_use w.0 c w.1 b
  used None (Some c) t f b = freed_use f.0 c f.1 f.2 b
  used None None t f b = quiet (nothing_moves t f) b

  free_then : (taken freed : Option ℕ) (b : ℕ) → IsInsideNode freed → free_after taken freed b (nat_lt b s.blocks && not (block_in_use h b)) ≡ (nat_lt b s.blocks && not (use_after taken freed b))
  free_then x freed b f = grind (arith, cond_and, nat_eq, nat_lt, eqb_tells, lt-ltb)

  -- the set with these blocks changed is that of the blocks that are free then
  pub marks_push : (free others : FreeSet) (freed : Option ℕ) → MarksFree s h free → IsFreed h e.what freed → others.blocks ≡ free.blocks →
      ((b : ℕ) → has_block others b ≡ free_after (taken_block e.what) freed b (has_block free b)) → MarksFree s k others
  marks_push free others freed a f size changed = grind (arith, free_then, nat_lt, used, m)

-- ---- where a page that is known by its slot lies

-- a page that is held in a block lies there
pub lies_held : (s : Shape) (h : History) (t : Table) (q : List ℕ) (p b : ℕ) → IsNode s h t q → HoldsPage (slot_at t b) p → block_of h p ≡ Some b
lies_held s h t q p b node held = (found s h t q p b node held).home

-- and one that no block holds lies nowhere
pub lies_nowhere : (s : Shape) (h : History) (t : Table) (q : List ℕ) (p : ℕ) → IsNode s h t q → ((b : ℕ) → HoldsPage (slot_at t b) p → ⊥) → block_of h p ≡ None
lies_nowhere s h t q p node none = go (block_of h p) refl where
  go : (o : Option ℕ) → block_of h p ≡ o → o ≡ None
  go None e = refl
  go (Some b) e =
      let w = at_home s h t q p b node e in
      let P : Option Slot → Type 0 = λ o. HoldsPage o p in
      absurd (none b (subst P (sym w.at) w.id_is))

-- the block where the page was found that is freed
pub freed_found : (s : Shape) (h : History) (t : Table) (q : List ℕ) (w : What) (p : ℕ) (o : Option ℕ) → IsNode s h t q → frees p w ≡ true → ((r : ℕ) → frees r w ≡ true → Some p ≡ Some r) →
    MatchOption o ((b : ℕ) → HoldsPage (slot_at t b) p → ⊥) (λ b. HoldsPage (slot_at t b) p) → IsFreed h w o
freed_found s h t q w p x node f same none = grind (arith, lies_nowhere, lies_held)

-- it is one of the node's
pub freed_inside : (s : Shape) (h : History) (w : What) (free : FreeSet) (o : Option ℕ) → IsLegal s h → MarksFree s h free → IsFreed h w o → IfSome o (λ b. b < free.blocks)
freed_inside s h w free None legal a f = tt
freed_inside s h w free (Some b) legal a f = omega (arith, ((legal_homed s h legal).from f.0 b f.2).below, a.size)

-- ---- the least free block

module _ (s : Shape) (h : History) (free : FreeSet) (legal : IsLegal s h) (marks : MarksFree s h free) where
  -- a block is held where it is in use
  held_as : (b : ℕ) (used : Bool) → block_in_use h b ≡ used → not (is_block_held h b) ≡ not used
  held_as b used e = ap not (held_in_use s h legal b ∙ e)

  second : (x y : Bool) → x ≡ true → (x && not y) ≡ false → y ≡ true
  second true true e f = refl
  second true false e f = absurd (cc)
  second false y e f = absurd (cc)

  first : (x y : Bool) → (x && not y) ≡ true → (x ≡ true) × (y ≡ false)
  first true false e = (refl, refl)
  first true true e = absurd (cc)
  first false y e = absurd (cc)

  within : (i j : ℕ) → nat_lt i j ≡ true → i < j
  within i j e = grind arith

  -- a block of the node that has no mark is held
  unmarked : (b : ℕ) → b < s.blocks → has_block free b ≡ false → not (is_block_held h b) ≡ false
  unmarked b l none = held_as b true (second (nat_lt b s.blocks) (block_in_use h b) (lt-ltb b s.blocks l) (sym (marks.marked b) ∙ none))

  pub least_found : (b : ℕ) → has_block free b ≡ true → ((k : ℕ) → k < b → has_block free k ≡ false) → b ≡ least_free s h
  unfolding least_free
  least_found b there least =
      let both = first (nat_lt b s.blocks) (block_in_use h b) (sym (marks.marked b) ∙ there) in
      let inside : b < s.blocks = within b s.blocks both.0 in
      sym (first_found (λ i. not (is_block_held h i)) 0 s.blocks b (omega arith) (omega (arith, inside)) (held_as b false both.1) (λ i l. unmarked i (omega (arith, inside)) (least i l)))

  pub least_missing : ((k : ℕ) → has_block free k ≡ false) → 0 ≡ least_free s h
  unfolding least_free
  least_missing none = sym (first_none (λ i. not (is_block_held h i)) 0 s.blocks (λ i l. unmarked i (omega arith) (none i)))

-- ---- no event yet

no_use : (b : ℕ) → block_in_use [] b ≡ false
unfolding some_event
no_use b = refl

pub marks_none : (s : Shape) (free : FreeSet) → ((b : ℕ) → has_block free b ≡ nat_lt b s.blocks) → s.blocks ≤ free.blocks → MarksFree s [] free
marks_none s free f size = record {
  marked = λ b. f b ∙ sym (ap (λ u. nat_lt b s.blocks && not u) (no_use b) ∙ and-true (nat_lt b s.blocks));
  size = size;
}
