-- What an event leaves of a node: every block but that of the event's page, and the queue's order.
use Rattle.std.proofs.Common.{◌≡◌, ◌≢◌, ℕ, ◌<◌, Bool, true, false, cond, not, List, [], ◌∷◌, ◌++◌, Option, Some, None, length, map, refl, ap, ap₂, sym, ◌∙◌, subst, arith, nat_eq, inl, inr, get_or, eq-eqb, eqb-true, length-set, slice_set, get_or-set_same, get_or-set_other}
use Rattle.std.proofs.lemmas.Bool.Decides.{eqb_tells}
use Rattle.thp_links.specs.Prelude.{without_index}
use Rattle.thp_history.specs.declared.events.Event.{Event}
use Rattle.thp_history.specs.declared.events.What.{What}
use Rattle.thp_history.specs.declared.shape.Shape.{Shape}
use Rattle.thp_history.specs.Prelude.{History, Fits, queue, without, has_page}
use Rattle.thp_history.proofs.Bools.{by_bool, or_first, or_second}
use Rattle.thp_history.proofs.LegalSteps.{legal_push}
use Rattle.thp_history.proofs.Tallying.{tallies_stay}
use Rattle.thp_history.proofs.Untouched.{Untouched, untouched}
use Rattle.thp_page.specs.Prelude.{Slot, Table, slot_at}
use Rattle.thp_live_pages.specs.Prelude.{block_of, Fills, IsNode}
use Rattle.thp_live_pages.proofs.Homing.{block_push, block_stays}
use Rattle.thp_live_pages.proofs.Standings.{names, standing_other}

-- an event that doesn't name a page leaves its counts and states
pub unnamed : (p : ℕ) (w : What) → names p w ≡ false → Untouched p w
unnamed p w e = grind (arith, untouched, names)

-- a page that an event doesn't name lies where it lay
pub block_other : (h : History) (e : Event) (p : ℕ) → names p e.what ≡ false → block_of (h ++ e ∷ []) p ≡ block_of h p
block_other h e p n = let u = unnamed p e.what n in block_push h e p ∙ block_stays p (block_of h p) e.what u.no_alloc u.no_free

slot_same : (t u : Table) (b : ℕ) (o : Option Slot) → u.slots ≡ slice_set t.slots b o → b < length t.slots → slot_at u b ≡ o
slot_same t u b o e h = ap (λ xs. get_or xs b None) e ∙ get_or-set_same t.slots b o None h

slot_other : (t u : Table) (b k : ℕ) (o : Option Slot) → u.slots ≡ slice_set t.slots b o → (k ≢ b) → slot_at u k ≡ slot_at t k
slot_other t u b k o e f = ap (λ xs. get_or xs k None) e ∙ get_or-set_other t.slots b k o None f

-- page p lies in block b, if anywhere
abbrev pub OnlyIn : History → ℕ → ℕ → Type 0
OnlyIn h p b = (k : ℕ) → block_of h p ≡ Some k → k ≡ b

module _ (s : Shape) (h : History) (e : Event) (p b : ℕ) where
  -- the event names page p alone
  abbrev pub NamesOnly : Type 0
  NamesOnly = (r : ℕ) → names r e.what ≡ true → r ≡ p

  fills_other : (k : ℕ) (o : Option Slot) → Fits s h e → NamesOnly → OnlyIn h p b → OnlyIn (h ++ e ∷ []) p b → (k ≢ b) → Fills s h k o → Fills s (h ++ e ∷ []) k o
  fills_other k None f only was is apart m = λ r y.
      by_bool (names r e.what) _
      (λ n. let P : ℕ → Type 0 = λ z. block_of (h ++ e ∷ []) z ≡ Some k in apart (is k (subst P (only r n) y)))
      (λ n. m r (sym (block_other h e r n) ∙ y))
  fills_other k (Some x) f only was is apart m =
      by_bool (names x.id e.what) _
      (λ n. absurd (let P : ℕ → Type 0 = λ z. block_of h z ≡ Some k in apart (was k (subst P (only x.id n) m.home))))
      (λ n.
      record {
        home = block_other h e x.id n ∙ m.home;
        tallies = tallies_stay s h e x.id x.page (unnamed x.id e.what n) m.tallies;
        stands = m.stands ∙ sym (standing_other s h e x.id f n);
      })

  -- a node after an event of page p, which lies in block b and nowhere else: the slot of the block may change, no other
  pub node_moved : (t u : Table) (q r : List ℕ) (o : Option Slot) → IsNode s h t q → Fits s h e → NamesOnly → OnlyIn h p b → OnlyIn (h ++ e ∷ []) p b →
      u.slots ≡ slice_set t.slots b o → u.order ≡ t.order → b < s.blocks → Fills s (h ++ e ∷ []) b o →
      map (block_of (h ++ e ∷ [])) (queue s (h ++ e ∷ [])) ≡ map (λ b. Some b) r → IsNode s (h ++ e ∷ []) u r
  node_moved t u q r o m f only was is slots order inside fill qs = record {
    legal = legal_push s h e m.legal f;
    size = ap length slots ∙ length-set t.slots b o ∙ m.size;
    order = order ∙ m.order;
    fills = λ k.
        elim (eqb_tells k b) [
          | inl y ↦
              let P : Option Slot → Type 0 = λ z. Fills s (h ++ e ∷ []) k z in
              let Q : ℕ → Type 0 = λ z. Fills s (h ++ e ∷ []) z o in
              subst P (sym (ap (slot_at u) y.1 ∙ slot_same t u b o slots (omega (arith, m.size)))) (subst Q (sym y.1) fill)
          | inr y ↦
              let P : Option Slot → Type 0 = λ z. Fills s (h ++ e ∷ []) k z in
              subst P (sym (slot_other t u b k o slots y.1)) (fills_other k (slot_at t k) f only was is y.1 (m.fills k))
        ];
    queue_is = qs;
  }

  -- a node after an event that changes no slot
  pub node_stays : (t u : Table) (q r : List ℕ) → IsNode s h t q → Fits s h e → u.slots ≡ t.slots → u.order ≡ t.order →
      ((k : ℕ) (o : Option Slot) → Fills s h k o → Fills s (h ++ e ∷ []) k o) →
      map (block_of (h ++ e ∷ [])) (queue s (h ++ e ∷ [])) ≡ map (λ b. Some b) r → IsNode s (h ++ e ∷ []) u r
  node_stays t u q r m f slots order fill qs = grind (arith, legal_push, get_or)

-- the blocks of a list of pages, where each lies as before
pub blocks_same : (h k : History) (ps : List ℕ) → ((r : ℕ) → has_page r ps ≡ true → block_of k r ≡ block_of h r) → map (block_of k) ps ≡ map (block_of h) ps
blocks_same h k [] f = refl
blocks_same h k (x ∷ ps) f = ap₂ (λ (o : Option ℕ) (os : List (Option ℕ)). o ∷ os) (f x (or_first _ _ (eq-eqb x x refl))) (blocks_same h k ps (λ r y. f r (or_second (nat_eq x r) _ y)))

map-append : (f : ℕ → Option ℕ) (xs ys : List ℕ) → map f (xs ++ ys) ≡ map f xs ++ map f ys
map-append f [] ys = refl
map-append f (x ∷ xs) ys = ap (λ os. f x ∷ os) (map-append f xs ys)

-- one page more at the tail
pub blocks_pushed : (h : History) (ps q : List ℕ) (p b : ℕ) → map (block_of h) ps ≡ map (λ b. Some b) q → block_of h p ≡ Some b →
    map (block_of h) (ps ++ p ∷ []) ≡ map (λ b. Some b) (q ++ b ∷ [])
blocks_pushed h ps q p b e f = grind (arith, map-append)

same_cons : (x y : ℕ) (o : Option ℕ) (xs ys : List (Option ℕ)) → ◌≡◌ {A = List (Option ℕ)} (o ∷ xs) (Some y ∷ ys) → (o ≡ Some y) × (xs ≡ ys)
same_cons x y o xs ys e = (cc, cc)

-- a page less, wherever it stood
pub blocks_without : (h : History) (ps q : List ℕ) (p b : ℕ) → block_of h p ≡ Some b → ((r : ℕ) → block_of h r ≡ Some b → r ≡ p) →
    map (block_of h) ps ≡ map (λ b. Some b) q → map (block_of h) (without p ps) ≡ map (λ b. Some b) (without_index b q)
blocks_without h [] [] p b at once e = refl
blocks_without h [] (y ∷ q) p b at once e = absurd (cc)
blocks_without h (x ∷ ps) [] p b at once e = absurd (cc)
blocks_without h (x ∷ ps) (y ∷ q) p b at once e =
    let w = same_cons x y (block_of h x) (map (block_of h) ps) (map (λ n. Some n) q) e in
    go (nat_eq x p) (nat_eq y b) refl refl w.0 (blocks_without h ps q p b at once w.1) where
      go : (c d : Bool) → nat_eq x p ≡ c → nat_eq y b ≡ d → block_of h x ≡ Some y → map (block_of h) (without p ps) ≡ map (λ b. Some b) (without_index b q) →
          map (block_of h) (cond (not c) (x ∷ without p ps) (without p ps)) ≡ map (λ b. Some b) (cond (not d) (y ∷ without_index b q) (without_index b q))
      go true true u v f n = n
      go false false u v f n = ap₂ (λ (o : Option ℕ) (os : List (Option ℕ)). o ∷ os) f n
      go true false u v f n = absurd (let same : x ≡ p = eqb-true x p u in let P : ℕ → Type 0 = λ z. block_of h z ≡ Some b in
          let there : Some y ≡ Some b = sym f ∙ ap (block_of h) same ∙ at in let yes : y ≡ b = cc in let no = eq-eqb y b yes in cc)
      go false true u v f n = absurd (let same : y ≡ b = eqb-true y b v in let here : x ≡ p = once x (f ∙ ap (λ (z : ℕ). Some z) same) in let no = eq-eqb x p here in cc)
