-- What is kept after the code noted an event.
use Rattle.std.proofs.Common.{◌≡◌, ℕ, ◌+◌, ◌<◌, Bool, true, false, not, cond, List, [], ◌∷◌, ◌++◌, length, set, get_or, refl, ap, sym, ◌∙◌, subst, arith, inl, inr, nat_eq, Option, Some, None, is_some, count_by}
use Rattle.std.proofs.lemmas.Bool.Decides.{eqb_tells}
use Rattle.thp_history.specs.declared.events.Event.{Event}
use Rattle.thp_history.specs.declared.events.What.{What}
use Rattle.thp_history.specs.declared.events.What.TheVariants.{Alloc}
use Rattle.thp_history.specs.declared.shape.Shape.{Shape}
use Rattle.thp_history.specs.Prelude.{event_with, least_free, is_alloc, History, by}
use Rattle.thp_live_pages.specs.Prelude.{least_of}
use Rattle.thp_journal_reader.specs.declared.page_blocks.Allocation.{Allocation}
use Rattle.thp_journal_reader.specs.Chains.{IsAllocationChain, IsCovered}
use Rattle.thp_journal_reader.specs.Freeing.{freed_page}
use Rattle.thp_journal_reader.specs.HeldBlocks.{KeepsBlocks}
use Rattle.thp_journal_reader.specs.BlocksState.{BlocksState}
use Rattle.thp_journal_reader.proofs.KeepSteps.{least_is, keeps_quiet, keeps_alloc, keeps_covered, keeps_free}

-- an event that frees a page is no allocation
pub freed_other : (w : What) (p : ℕ) → freed_page w ≡ Some p → is_alloc w ≡ false
freed_other (Alloc q b) p e = absurd (cc)
freed_other w p e = refl

-- an allocation with the least free block
pub placed_alloc : (e : Event) (p x b l : ℕ) → e.what ≡ Alloc p x → b ≡ l → by e.caller (Alloc p b) ≡ event_with l e
placed_alloc e p x b l w s = ap (λ n. by e.caller (Alloc p n)) s ∙ sym (ap (λ (v : What). event_with l (by e.caller v)) w)

-- the least free block of the events so far
pub least_now : (s : Shape) (h : History) (counts : List ℕ) (last : ℕ → Option ℕ) (allocs : List Allocation) (b : ℕ) (v : BlocksState) → KeepsBlocks s h counts last allocs →
    b ≡ least_of counts → record { shape = s; history = h } ≡ v → b ≡ least_free v.shape v.history
least_now s h counts last allocs b v k e f = e ∙ least_is s h counts last allocs k ∙ ap (λ (u : BlocksState). least_free u.shape u.history) f

-- the history after an event that is known
reported_as : (h : History) (e : Event) (w : What) → e.what ≡ w → h ++ by e.caller w ∷ [] ≡ h ++ e ∷ []
reported_as h e w f = sym (ap (λ (v : What). h ++ by e.caller v ∷ []) f)

-- an allocation
pub noted_alloc : (s : Shape) (h after : History) (counts others : List ℕ) (last last_then : ℕ → Option ℕ) (allocs more : List Allocation) (e : Event) (p x : ℕ) (before : Option ℕ) →
    KeepsBlocks s h counts last allocs → e.what ≡ Alloc p x → x < s.blocks → before ≡ last p → after ≡ h ++ e ∷ [] → others ≡ set counts x (get_or counts x 0 + 1) →
    ((q : ℕ) → last_then q ≡ cond (nat_eq q p) (Some (length allocs)) (last q)) → more ≡ allocs ++ record { block = x; before = before } ∷ [] → KeepsBlocks s after others last_then more
noted_alloc s h after counts others last last_then allocs more e p x before keeps w inside f a o t m =
    let done : KeepsBlocks s (h ++ by e.caller (Alloc p x) ∷ []) (set counts x (get_or counts x 0 + 1)) last_then (allocs ++ record { block = x; before = before } ∷ []) =
    keeps_alloc s h counts last last_then allocs e.caller p x before keeps (sym f) (subst (λ n. x < n) (sym keeps.blocks) inside) t in
    let P : History → Type 0 = λ i. KeepsBlocks s i (set counts x (get_or counts x 0 + 1)) last_then (allocs ++ record { block = x; before = before } ∷ []) in
    let Q : List ℕ → Type 0 = λ i. KeepsBlocks s after i last_then (allocs ++ record { block = x; before = before } ∷ []) in
    let R : List Allocation → Type 0 = λ i. KeepsBlocks s after others last_then i in
    subst R (sym m) (subst Q (sym o) (subst P (reported_as h e (Alloc p x) w ∙ sym a) done))

-- the blocks of a page that an event frees are held
pub noted_covered : (s : Shape) (h : History) (counts : List ℕ) (last : ℕ → Option ℕ) (allocs : List Allocation) (e : Event) (p : ℕ) (first : Option ℕ) →
    KeepsBlocks s h counts last allocs → freed_page e.what ≡ Some p → first ≡ last p → IsCovered allocs first counts
noted_covered s h counts last allocs e p first keeps w f =
    subst (λ o. IsCovered allocs o counts) (sym f) (keeps_covered s h counts last allocs e p keeps w (freed_other e.what p w))

-- a page is freed
pub noted_freed : (s : Shape) (h after : History) (counts others : List ℕ) (last last_then : ℕ → Option ℕ) (allocs : List Allocation) (e : Event) (p : ℕ) (first : Option ℕ) →
    KeepsBlocks s h counts last allocs → freed_page e.what ≡ Some p → first ≡ last p → after ≡ h ++ e ∷ [] →
    ((q : ℕ) → last_then q ≡ cond (nat_eq q p) None (last q)) → length others ≡ length counts →
    ((bs : List ℕ) → IsAllocationChain allocs (length allocs) first bs → (b : ℕ) → get_or others b 0 + count_by (nat_eq b) bs ≡ get_or counts b 0) → KeepsBlocks s after others last_then allocs
noted_freed s h after counts others last last_then allocs e p first keeps w f a t size given =
    let G : Option ℕ → Type 0 = λ o. (bs : List ℕ) → IsAllocationChain allocs (length allocs) o bs → (b : ℕ) → get_or others b 0 + count_by (nat_eq b) bs ≡ get_or counts b 0 in
    let P : History → Type 0 = λ i. KeepsBlocks s i others last_then allocs in
    subst P (sym a) (keeps_free s h counts others last last_then allocs e p keeps w (freed_other e.what p w) t size (subst G f given))

-- what a test found empty
pub no_last : (o : Option ℕ) (b : Bool) → is_some o ≡ not b → b ≡ true → None ≡ o
no_last None b e f = refl
no_last (Some x) true e f = absurd (cc)
no_last (Some x) false e f = absurd (cc)

-- a page is freed that holds no block
pub noted_freed_none : (s : Shape) (h after : History) (counts : List ℕ) (last : ℕ → Option ℕ) (allocs : List Allocation) (e : Event) (p : ℕ) →
    KeepsBlocks s h counts last allocs → freed_page e.what ≡ Some p → None ≡ last p → after ≡ h ++ e ∷ [] → KeepsBlocks s after counts last allocs
noted_freed_none s h after counts last allocs e p keeps w f a = noted_freed s h after counts counts last last allocs e p None keeps w f a same refl none where
  same : (q : ℕ) → last q ≡ cond (nat_eq q p) None (last q)
  same q =
      elim (eqb_tells q p) [
        | inl y ↦ ap last y.1 ∙ sym f ∙ ap (λ v. cond v None (last q)) (sym y.0)
        | inr y ↦ ap (λ v. cond v None (last q)) (sym y.0)
      ]

  none : (bs : List ℕ) → IsAllocationChain allocs (length allocs) None bs → (b : ℕ) → get_or counts b 0 + count_by (nat_eq b) bs ≡ get_or counts b 0
  none [] c b = let n : ℕ = get_or counts b 0 in let r : n + 0 ≡ n = omega arith in r
  none (x ∷ bs) c b = let e = c.0.at_place in absurd (cc)

-- an event that neither allocates nor frees
pub noted_quiet : (s : Shape) (h after : History) (counts : List ℕ) (last : ℕ → Option ℕ) (allocs : List Allocation) (e : Event) →
    KeepsBlocks s h counts last allocs → freed_page e.what ≡ None → is_alloc e.what ≡ false → after ≡ h ++ e ∷ [] → KeepsBlocks s after counts last allocs
noted_quiet s h after counts last allocs e keeps f n a =
    subst (λ (i : History). KeepsBlocks s i counts last allocs) (sym a) (keeps_quiet s h counts last allocs e keeps f n)

-- an event that isn't an allocation
pub other_is : (w : What) → ((p b : ℕ) → w ≡ Alloc p b → ⊥) → is_alloc w ≡ false
other_is (Alloc p b) f = absurd (f p b refl)
other_is w f = refl
