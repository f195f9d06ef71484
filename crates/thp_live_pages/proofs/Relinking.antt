-- The queue after an edit of one block: it still stands, with the blocks that it should have. What an edit does to one slot.
use Rattle.std.proofs.Common.{◌≡◌, ◌≢◌, ℕ, true, false, zero, suc, ◌+◌, ◌<◌, ◌≤◌, List, [], ◌∷◌, ◌++◌, Option, Some, None, IsSome, length, drop, refl, ap, sym, ◌∙◌, subst, arith, inl, inr, get_or, length-set, slice_set, slice_get, Contains, IfSome, get_or-set_same, get_or-set_other}
use Rattle.std.proofs.lemmas.List.Elements.{Contains-append_cases}
use Rattle.std.proofs.lemmas.Bool.Decides.{eqb_tells}
use Rattle.thp_links.specs.declared.link.Link.{Link}
use Rattle.thp_links.specs.Prelude.{Distinct, without_index, Stands, SameOutside}
use Rattle.thp_links.proofs.Members.{Contains-nil, Contains-cons_cases, Contains-head, Contains-behind, first_and_rest, Contains-from_without, Contains-without, Contains-from_rest, Distinct-head, without_absent}
use Rattle.thp_history.specs.declared.events.Outcome.{Outcome}
use Rattle.thp_history.specs.Prelude.{PageState}
use Rattle.thp_page.specs.declared.standing.Standing.{Standing}
use Rattle.thp_page.specs.declared.standing.Standing.TheVariants.{Nowhere, Queued}
use Rattle.thp_page.specs.Prelude.{Slot, Table, slot_at, with_slot, stood, paged, page_in}
use Rattle.thp_page.proofs.TableSlots.{slot_at-with_slot-same, slot_at-inside}
use Rattle.thp_live_pages.specs.Prelude.{PageStoreState, Edits, EmptyLinksStay, IsPlaced, slot_after, queue_by_outcome, IsQueued, IsListed, QueueIsLinked}

queued_none : (o : Option Slot) → IsQueued o → o ≡ None → ⊥
queued_none x q e = grind arith

-- a list's other members stay
pub record SameBut (xs ys : List ℕ) (b : ℕ) : Type 0 where
  pub to : (k : ℕ) → k ≢ b → Contains xs k → Contains ys k
  pub from : (k : ℕ) → k ≢ b → Contains ys k → Contains xs k

pub same_list : (xs : List ℕ) (b : ℕ) → SameBut xs xs b
same_list xs b = record { to = λ k n m. m; from = λ k n m. m }

pub same_pushed : (xs : List ℕ) (b : ℕ) → SameBut xs (xs ++ b ∷ []) b
same_pushed xs b = record {
  to = λ k n m. left xs k m;
  from = λ k n m. elim (Contains-append_cases xs (b ∷ []) k m) [ inl y ↦ y | inr y ↦ absurd (elim (Contains-cons_cases b [] k y) [ inl z ↦ n z | inr z ↦ Contains-nil k z ]) ];
} where
  left : (ys : List ℕ) (k : ℕ) → Contains ys k → Contains (ys ++ b ∷ []) k
  left [] k m = absurd (Contains-nil k m)
  left (y ∷ ys) k m = elim (Contains-cons_cases y ys k m) [
    | inl e ↦ let P : ℕ → Type 0 = λ z. Contains (y ∷ (ys ++ b ∷ [])) z in subst P (sym e) (Contains-head y (ys ++ b ∷ []))
    | inr n ↦ Contains-behind y (ys ++ b ∷ []) k (left ys k n)
  ]

pub same_front : (xs : List ℕ) (b : ℕ) → SameBut xs (b ∷ xs) b
same_front xs b = grind (arith, Contains-behind, Contains-cons_cases)

pub same_rest : (xs : List ℕ) (b : ℕ) → slice_get xs 0 ≡ Some b → SameBut xs (drop 1 xs) b
same_rest xs b first = grind (arith, Contains-cons_cases, first_and_rest, Contains-from_rest)

pub same_without : (xs : List ℕ) (b : ℕ) → SameBut xs (without_index b xs) b
same_without xs b = record {
  to = λ k n m. Contains-without b xs k m n;
  from = λ k n m. (Contains-from_without b xs k m).0;
}

-- the queue after an edit of the slot of block b
relinked : (t u : Table) (q r : List ℕ) (b : ℕ) (o : Option Slot) → QueueIsLinked t q → u.slots ≡ slice_set t.slots b o → b < length t.slots → length u.links ≡ length t.links →
    Stands r u.links → SameBut q r b → IsListed o r b → QueueIsLinked u r
relinked t u q r b o m slots inside links queue same at = grind (arith, length-set, eqb_tells, get_or, get_or-set_same, get_or-set_other)

-- what stands in a block is in the queue exactly where the queue has the block
listed_at : (t : Table) (q : List ℕ) (b : ℕ) (o : Option Slot) → QueueIsLinked t q → slot_at t b ≡ o → IsListed o q b
listed_at t q b o m at = let P : Option Slot → Type 0 = λ z. IsListed z q b in subst P at (m.listed b)

-- what isn't in the queue becomes something else that isn't
pub linked_outside : (t u : Table) (q : List ℕ) (b : ℕ) (o p : Option Slot) → QueueIsLinked t q → slot_at t b ≡ o → b < length t.slots → (IsQueued o → ⊥) → (IsQueued p → ⊥) →
    u.slots ≡ slice_set t.slots b p → u.links ≡ t.links → QueueIsLinked u q
linked_outside t u q b o p m at inside was is slots links =
    let S : List Link → Type 0 = λ ls. Stands q ls in
    let old = listed_at t q b o m at in
    relinked t u q q b p m slots inside (ap length links) (subst S (sym links) m.queue_stands) (same_list q b)
    (record { queued = λ i. absurd (was (old.queued i)); in_queue = λ i. absurd (is i) })

-- a page that isn't in the queue joins it
pub linked_queued : (t u : Table) (q : List ℕ) (b : ℕ) (y : Slot) → QueueIsLinked t q → b < length t.slots → y.standing ≡ Queued →
    u.slots ≡ slice_set t.slots b (Some y) → Stands (q ++ b ∷ []) u.links → SameOutside (q ++ b ∷ []) t.links u.links → QueueIsLinked u (q ++ b ∷ [])
linked_queued t u q b y m inside is slots stands outside =
    relinked t u q (q ++ b ∷ []) b (Some y) m slots inside outside.same_length stands (same_pushed q b) (record { queued = λ i. is; in_queue = λ i. last q }) where
      last : (xs : List ℕ) → Contains (xs ++ b ∷ []) b
      last [] = Contains-head b []
      last (z ∷ xs) = Contains-behind z (xs ++ b ∷ []) b (last xs)

-- the first page of the queue leaves it
pub linked_popped : (t u : Table) (q : List ℕ) (b : ℕ) (y : Slot) → QueueIsLinked t q → slice_get q 0 ≡ Some b → b < length t.slots → y.standing ≢ Queued →
    u.slots ≡ slice_set t.slots b (Some y) → Stands (drop 1 q) u.links → SameOutside q t.links u.links → QueueIsLinked u (drop 1 q)
linked_popped t u q b y m first inside is slots stands outside =
    relinked t u q (drop 1 q) b (Some y) m slots inside outside.same_length stands (same_rest q b first)
    (record {
      queued = λ i. absurd (Distinct-head b (drop 1 q) (let P : List ℕ → Type 0 = λ xs. Distinct xs in subst P (first_and_rest q b first) m.queue_stands.distinct) i);
      in_queue = λ i. absurd (is i);
    })

-- a page leaves the queue from wherever it stands there
pub linked_unqueued : (t u : Table) (q : List ℕ) (b : ℕ) (y : Slot) → QueueIsLinked t q → b < length t.slots → y.standing ≢ Queued →
    u.slots ≡ slice_set t.slots b (Some y) → Stands (without_index b q) u.links → SameOutside q t.links u.links → QueueIsLinked u (without_index b q)
linked_unqueued t u q b y m inside is slots stands outside =
    relinked t u q (without_index b q) b (Some y) m slots inside outside.same_length stands (same_without q b)
    (record { queued = λ i. absurd ((Contains-from_without b q b i).1 refl); in_queue = λ i. absurd (is i) })

-- a block of the queue has a page that stands in it
pub queued_slot : (t : Table) (q : List ℕ) (b : ℕ) → QueueIsLinked t q → Contains q b → (x : Slot) × (slot_at t b ≡ Some x) × (x.standing ≡ Queued)
queued_slot t q b m i = go (slot_at t b) ((m.listed b).queued i) where
  go : (o : Option Slot) → IsQueued o → (x : Slot) × (o ≡ Some x) × (x.standing ≡ Queued)
  go None h = absurd h
  go (Some x) h = (x, refl, h)

-- a page that doesn't stand in the queue isn't taken out of it
pub not_listed : (t : Table) (q : List ℕ) (b : ℕ) (x : Slot) → QueueIsLinked t q → slot_at t b ≡ Some x → x.standing ≢ Queued → without_index b q ≡ q
not_listed t q b x m at n = without_absent b q (λ i. n ((listed_at t q b (Some x) m at).queued i))

-- a block without a page isn't in the queue
pub not_queued : (t : Table) (q : List ℕ) (b : ℕ) → QueueIsLinked t q → slot_at t b ≡ None → Contains q b → ⊥
not_queued t q b m e i = queued_none (slot_at t b) ((m.listed b).queued i) e

-- the pairs of empty blocks stay where no pair changes
pub links_same : (t u : Table) (b : ℕ) → u.links ≡ t.links → EmptyLinksStay t u b
links_same t u b e k n none = ap (λ ls. slice_get ls k) e

-- and where only those of the queue and of block b do
pub links_outside : (t u : Table) (q r : List ℕ) (b : ℕ) → QueueIsLinked t q → SameBut q r b → SameOutside r t.links u.links → EmptyLinksStay t u b
links_outside t u q r b m same out k n none = out.same_pairs k (λ i. not_queued t q k m none (same.from k n i))

-- the same, as seen from outside
pub links_seen : (n : PageStoreState) (t u : Table) (q : List ℕ) (b : ℕ) → record { table = t; queue = q } ≡ n → EmptyLinksStay t u b → EmptyLinksStay n.table u b
links_seen n t u q b e m = subst (λ (z : PageStoreState). EmptyLinksStay z.table u b) e m

-- after an edit of block b, an edit of it
pub links_then : (t u v : Table) (b : ℕ) (o : Option Slot) → u.slots ≡ slice_set t.slots b o → EmptyLinksStay t u b → EmptyLinksStay u v b → EmptyLinksStay t v b
links_then t u v b o slots first second k n none = grind (arith, get_or, get_or-set_other)

-- what stands in an occupied block
pub taken : (o : Option Slot) → IsSome o → (x : Slot) × (o ≡ Some x)
taken x h = grind arith

-- a page changes in its place
pub linked_paged : (t : Table) (q : List ℕ) (b : ℕ) (p : PageState) → QueueIsLinked t q → IsSome (slot_at t b) → QueueIsLinked (with_slot t b (paged (slot_at t b) p)) q
linked_paged t q b p m h =
    let w = taken _ h in
    let was = listed_at t q b (Some w.0) m w.1 in
    relinked t (with_slot t b (paged (slot_at t b) p)) q q b (Some (record w.0 { page = p })) m (ap (λ o. slice_set t.slots b (paged o p)) w.1) (slot_at-inside t b w.0 w.1) refl m.queue_stands (same_list q b)
    (record { queued = was.queued; in_queue = was.in_queue })

-- a block with a page is one of the table's links
pub linked_inside : (t : Table) (q : List ℕ) (b : ℕ) → QueueIsLinked t q → IsSome (slot_at t b) → b < length t.links
linked_inside t q b m h = let w = taken _ h in subst (λ n. b < n) m.sizes (slot_at-inside t b w.0 w.1)

-- the same facts of the table, from those of the store as seen from outside
pub seen_taken : (n : PageStoreState) (t : Table) (q : List ℕ) (b : ℕ) → record { table = t; queue = q } ≡ n → IsSome (slot_at n.table b) → IsSome (slot_at t b)
seen_taken n t q b e = subst (λ (z : PageStoreState). IsSome (slot_at z.table b)) (sym e)

pub seen_inside : (n : PageStoreState) (t : Table) (q : List ℕ) (b : ℕ) → record { table = t; queue = q } ≡ n → QueueIsLinked t q → IsSome (slot_at n.table b) → b < length t.links
seen_inside n t q b e m h = linked_inside t q b m (seen_taken n t q b e h)

-- a write over a write
pub set_twice : (xs : List (Option Slot)) (b : ℕ) (x y : Option Slot) → slice_set (slice_set xs b x) b y ≡ slice_set xs b y
set_twice [] b x y = refl
set_twice (z ∷ xs) zero x y = refl
set_twice (z ∷ xs) (suc b) x y = ap (λ zs. z ∷ zs) (set_twice xs b x y)

-- a slot whose page stands elsewhere now
pub stood_slot : (t u : Table) (b : ℕ) (x : Slot) (w : Standing) → slot_at t b ≡ Some x → u ≡ with_slot t b (stood (slot_at t b) w) → slot_at u b ≡ Some (record x { standing = w })
stood_slot t u b x w at e = grind (arith, slot_at-with_slot-same, slot_at-inside)

pub stood_slots : (t u : Table) (b : ℕ) (x : Slot) (w : Standing) → slot_at t b ≡ Some x → u ≡ with_slot t b (stood (slot_at t b) w) → u.slots ≡ slice_set t.slots b (Some (record x { standing = w }))
stood_slots t u b x w at e = ap (λ (v : Table). v.slots) e ∙ ap (λ (o : Option Slot). slice_set t.slots b (stood o w)) at

same_page : (p r : PageState) → Some p ≡ Some r → p ≡ r
same_page p r e = cc

-- the page that was found in a slot
pub page_there : (u : Table) (b : ℕ) (y : Slot) (p : PageState) → slot_at u b ≡ Some y → ◌≡◌ {A = Option PageState} (Some p) (page_in (slot_at u b)) → p ≡ y.page
page_there u b y p at e = same_page p y.page (e ∙ ap page_in at)

-- a slot whose page stands elsewhere and then changes
pub stood_paged : (t u : Table) (b : ℕ) (x : Slot) (w : Standing) (p : PageState) → slot_at t b ≡ Some x → u ≡ with_slot t b (stood (slot_at t b) w) →
    slice_set u.slots b (paged (slot_at u b) p) ≡ slice_set t.slots b (Some (record x { page = p; standing = w }))
stood_paged t u b x w p at e = grind (arith, slice_set, stood_slots, stood_slot, set_twice)

-- what stands in the block that was edited
pub edited_slot : (old new : PageStoreState) (b : ℕ) (x : Slot) (o : Option Slot) (q : List ℕ) (most : ℕ) → slot_at old.table b ≡ Some x → Edits old new b o q most → slot_at new.table b ≡ o
edited_slot old new b x o q most at e = ap (λ (xs : List (Option Slot)). get_or xs b None) e.slots ∙ get_or-set_same old.table.slots b o None (slot_at-inside old.table b x at)

-- and in a block that was empty before, where it is one of the table's
pub placed_slot : (old new : PageStoreState) (b : ℕ) (o : Option Slot) (q : List ℕ) (most : ℕ) → b < length old.table.slots → Edits old new b o q most → slot_at new.table b ≡ o
placed_slot old new b o q most inside e = ap (λ (xs : List (Option Slot)). get_or xs b None) e.slots ∙ get_or-set_same old.table.slots b o None inside

-- a write of what stands there
pub set_same : (xs : List (Option Slot)) (b : ℕ) (x : Slot) → get_or xs b None ≡ Some x → slice_set xs b (Some x) ≡ xs
set_same [] b x e = refl
set_same (z ∷ xs) zero x e = ap (λ (o : Option Slot). o ∷ xs) (sym e)
set_same (z ∷ xs) (suc b) x e = ap (λ zs. z ∷ zs) (set_same xs b x e)

-- no edit
pub edits_none : (old : PageStoreState) (b : ℕ) (x : Slot) → slot_at old.table b ≡ Some x → Edits old old b (Some x) old.queue 0
edits_none old b x at = record { slots = sym (set_same old.table.slots b x at); order = refl; queue_is = refl; links = λ k n e. refl; work = omega arith }

-- an edit after an edit of the same block
pub edits_then : (old mid new : PageStoreState) (b : ℕ) (o p : Option Slot) (q r : List ℕ) (m n : ℕ) → Edits old mid b o q m → Edits mid new b p r n → Edits old new b p r (m + n)
edits_then old mid new b o p q r m n d e = record {
  slots = e.slots ∙ ap (λ (xs : List (Option Slot)). slice_set xs b p) d.slots ∙ set_twice old.table.slots b o p;
  order = e.order ∙ d.order;
  queue_is = e.queue_is;
  links = links_then old.table mid.table new.table b o d.slots d.links e.links;
  work = omega (arith, d.work, e.work);
}

-- an edit with another queue of the same blocks, within more accesses
pub edits_as : (old new : PageStoreState) (b : ℕ) (o : Option Slot) (q r : List ℕ) (m n : ℕ) → q ≡ r → m ≤ n → Edits old new b o q m → Edits old new b o r n
edits_as old new b o q r m n same l e = record { slots = e.slots; order = e.order; queue_is = e.queue_is ∙ same; links = e.links; work = omega (arith, e.work, l) }

-- a new page and then its place in the queue
pub placed_queued : (id : ℕ) (old mid new : PageStoreState) (b : ℕ) → b < length old.table.slots → IsPlaced id false old mid b →
    ((x : Slot) → slot_at mid.table b ≡ Some x → Edits mid new b (Some (record x { standing = Queued })) (mid.queue ++ b ∷ []) 4) → IsPlaced id true old new b
placed_queued id old mid new b inside d e =
    let x : Slot = record { id = id; page = d.page; standing = Nowhere } in
    let y : Slot = record { id = id; page = d.page; standing = Queued } in
    record {
      page = d.page;
      fresh = d.fresh;
      edits = edits_as old new b (Some y) (mid.queue ++ b ∷ []) (old.queue ++ b ∷ []) (0 + 4) 4 (ap (λ q. q ++ b ∷ []) d.edits.queue_is) (omega arith)
          (edits_then old mid new b (Some x) (Some y) old.queue (mid.queue ++ b ∷ []) 0 4 d.edits (e x (placed_slot old mid b (Some x) old.queue 0 inside d.edits)));
    }

-- a page changes and then goes where its outcome says
pub edits_settled : (old mid new : PageStoreState) (b : ℕ) (y : Slot) (o : Outcome) (n : ℕ) → Edits old mid b (Some y) old.queue 0 → Edits mid new b (slot_after o y) (queue_by_outcome o b mid.queue) n → n ≤ 6 →
    Edits old new b (slot_after o y) (queue_by_outcome o b old.queue) 6
edits_settled old mid new b y o n d e l =
    edits_as old new b (slot_after o y) (queue_by_outcome o b mid.queue) (queue_by_outcome o b old.queue) (0 + n) 6 (ap (queue_by_outcome o b) d.queue_is) (omega (arith, l))
    (edits_then old mid new b (Some y) (slot_after o y) old.queue (queue_by_outcome o b mid.queue) 0 n d e)

-- a fact of what stands there
pub if_at : (o : Option Slot) (x : Slot) (P : Slot → Type 0) → o ≡ Some x → IfSome o P → P x
if_at o x P e h = subst (λ (z : Option Slot). IfSome z P) e h

pub same_slot : (o : Option Slot) (x y : Slot) → o ≡ Some x → o ≡ Some y → y ≡ x
same_slot o x y e f = grind arith
