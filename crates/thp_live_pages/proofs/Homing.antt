-- Where a legal history puts its live pages: one block each, and no block twice.
use Rattle.std.proofs.Common.{◌≡◌, ℕ, ◌<◌, Bool, true, false, cond, not, ◌&&◌, ◌||◌, [], ◌∷◌, ◌++◌, Option, Some, None, refl, ap, sym, ◌∙◌, subst, arith, nat_eq, inl, inr, ◌⊎◌, eq-eqb, eqb-true}
use Rattle.std.specs.List.{list_any}
use Rattle.std.proofs.lemmas.List.Sums.{fold_push}
use Rattle.thp_history.specs.declared.events.Event.{Event}
use Rattle.thp_history.specs.declared.events.Outcome.{Outcome}
use Rattle.thp_history.specs.declared.events.What.{What}
use Rattle.thp_history.specs.declared.events.What.TheVariants.{Alloc}
use Rattle.thp_history.specs.declared.shape.Shape.{Shape}
use Rattle.thp_history.specs.Prelude.{History, some_event, is_live, allocates, frees, is_freed, places, places_live, block_in_use, IsLegal, Fits, FitsBy, FitsAlloc}
use Rattle.thp_history.proofs.Alive.{Grown, grown_push, grown_none}
use Rattle.thp_history.proofs.Bools.{by_bool, and_both, and_yes, or_first, or_second}
use Rattle.thp_history.proofs.LegalSteps.{legal_all}
use Rattle.thp_history.proofs.Pushes.{some_event_push, some_same, live_stays}
use Rattle.thp_live_pages.specs.Prelude.{block_of, block_after, block_by}

-- the last event changes a page's block so
pub block_push : (h : History) (e : Event) (p : ℕ) → block_of (h ++ e ∷ []) p ≡ block_after p (block_of h p) e.what
unfolding block_of
block_push h e p = fold_push (λ o (x : Event). block_after p o x.what) None h e

by_stays : (p q : ℕ) (o : Option ℕ) (u : Outcome) → (nat_eq p q && is_freed u) ≡ false → block_by p o q u ≡ o
by_stays p q o u e = grind (arith, nat_eq)

-- an event that neither allocates nor frees a page leaves its block
pub block_stays : (p : ℕ) (o : Option ℕ) (w : What) → allocates p w ≡ false → frees p w ≡ false → block_after p o w ≡ o
block_stays p o x a f = grind (arith, by_stays)

by_freed : (p q : ℕ) (o : Option ℕ) (u : Outcome) → (nat_eq p q && is_freed u) ≡ true → block_by p o q u ≡ None
by_freed p q o u e = grind (arith, nat_eq)

-- a page that is freed has no block
pub block_freed : (p : ℕ) (o : Option ℕ) (w : What) → frees p w ≡ true → block_after p o w ≡ None
block_freed p o x f = grind (arith, by_freed)

-- what allocates a page is its allocation
pub alloc_of : (p : ℕ) (w : What) → allocates p w ≡ true → (b : ℕ) × (w ≡ Alloc p b)
alloc_of p x e = grind (arith, eqb-true)

-- what puts a page into a block is its allocation there
place_of : (p b : ℕ) (w : What) → places p b w ≡ true → (allocates p w ≡ true) × (w ≡ Alloc p b)
place_of p b x e = grind (arith, and_both, nat_eq, eqb-true)

or_cases : (a b : Bool) → (a || b) ≡ true → (a ≡ true) ⊎ (b ≡ true)
or_cases x b e = grind arith

some_more : (f g : What → Bool) (h : History) → ((w : What) → f w ≡ true → g w ≡ true) → some_event f h ≡ true → some_event g h ≡ true
unfolding some_event
some_more f g [] t e = absurd (cc)
some_more f g (x ∷ xs) t e = elim (or_cases (f x.what) (list_any (λ (y : Event). f y.what) xs) e) [
  | inl y ↦ or_first _ _ (t x.what y)
  | inr y ↦ or_second (g x.what) _ (some_more f g xs t y)
]

-- a live page put into block b keeps it in use
pub in_use : (h : History) (p b : ℕ) → some_event (places p b) h ≡ true → is_live h p ≡ true → block_in_use h b ≡ true
in_use h p b e l = grind (arith, some_more, place_of, and_yes, nat_eq, eq-eqb)

-- a block in use has such a page
record Holder (k h : History) (b : ℕ) : Type 0 where
  page : ℕ
  put : some_event (places page b) k ≡ true
  live : is_live h page ≡ true

holder_of : (h : History) (b : ℕ) (w : What) → places_live h b w ≡ true → (p : ℕ) × (places p b w ≡ true) × (is_live h p ≡ true)
holder_of h b (Alloc p c) e =
    let w = and_both (nat_eq b c) (is_live h p) e in (p, ap (λ x. x && nat_eq b c) (eq-eqb p p refl) ∙ w.0, w.1)
holder_of h b w e = absurd (cc)

holder : (k h : History) (b : ℕ) → some_event (places_live h b) k ≡ true → Holder k h b
unfolding some_event
holder [] h b e = absurd (cc)
holder (x ∷ xs) h b e = elim (or_cases (places_live h b x.what) (list_any (λ (y : Event). places_live h b y.what) xs) e) [
  | inl y ↦ let w = holder_of h b x.what y in record { page = w.0; put = or_first _ _ w.1; live = w.2 }
  | inr y ↦ let w = holder xs h b y in record { page = w.page; put = or_second (places w.page b x.what) _ w.put; live = w.live }
]

-- an allocated page was put somewhere
placed : (p : ℕ) (k : History) → some_event (allocates p) k ≡ true → (b : ℕ) × (some_event (places p b) k ≡ true)
unfolding some_event
placed p [] e = absurd (cc)
placed p (x ∷ xs) e = elim (or_cases (allocates p x.what) (list_any (λ (y : Event). allocates p y.what) xs) e) [
  | inl y ↦
      let w = alloc_of p x.what y in
      (w.0, or_first _ _ (ap (places p w.0) w.1 ∙ and_yes (nat_eq p p) (nat_eq w.0 w.0) (eq-eqb p p refl) (eq-eqb w.0 w.0 refl)))
  | inr y ↦ let w = placed p xs y in (w.0, or_second (places p w.0 x.what) _ w.1)
]

-- what a page's block says of the page
pub record Lies (s : Shape) (h : History) (p b : ℕ) : Type 0 where
  pub put : some_event (places p b) h ≡ true
  pub live : is_live h p ≡ true
  pub below : b < s.blocks

-- the blocks of a legal history
pub record Homed (s : Shape) (h : History) : Type 0 where
  pub grown : Grown s h
  pub at : (p b : ℕ) → some_event (places p b) h ≡ true → is_live h p ≡ true → block_of h p ≡ Some b
  pub from : (p b : ℕ) → block_of h p ≡ Some b → Lies s h p b
  pub once : (p q b : ℕ) → block_of h p ≡ Some b → block_of h q ≡ Some b → p ≡ q

live_parts : (h : History) (e : Event) (p : ℕ) → is_live (h ++ e ∷ []) p ≡ true → frees p e.what ≡ false
live_parts h e p l = grind (arith, by_bool, some_event_push)

same_some : (a b : ℕ) → Some a ≡ Some b → a ≡ b
same_some a b e = cc

alive : (x y : Bool) → x ≡ true → y ≡ false → (x && not y) ≡ true
alive x y e f = cc

no_both : (x : Bool) → x ≡ false → x ≡ true → ⊥
no_both x e f = cc

module _ (s : Shape) where
  never_twice : (h : History) (e : Event) (p : ℕ) → Grown s h → Fits s h e → allocates p e.what ≡ true → some_event (allocates p) h ≡ false
  never_twice h e p g f a = grind (arith, alloc_of)

  fits_alloc : (h : History) (e : Event) (p b : ℕ) → Fits s h e → e.what ≡ Alloc p b → FitsAlloc s h p b
  fits_alloc h e p b f y = let F : What → Type 0 = λ x. FitsBy s h (h ++ e ∷ []) e.caller x in subst F y f

  ever : (h : History) (p b : ℕ) → some_event (places p b) h ≡ true → some_event (allocates p) h ≡ true
  ever h p b y = some_more (places p b) (allocates p) h (λ w z. (place_of p b w z).0) y

  homed_at : (h : History) (e : Event) → Homed s h → Fits s h e → (p b : ℕ) → some_event (places p b) (h ++ e ∷ []) ≡ true → is_live (h ++ e ∷ []) p ≡ true →
      block_of (h ++ e ∷ []) p ≡ Some b
  homed_at h e m f p b y l =
      by_bool (places p b e.what) _
      (λ z. block_push h e p ∙ ap (block_after p (block_of h p)) (place_of p b e.what z).1 ∙ ap (λ x. cond x (Some b) (block_of h p)) (eq-eqb p p refl))
      (λ z.
      let was : some_event (places p b) h ≡ true = sym (some_same (places p b) h e z) ∙ y in
      let kept : frees p e.what ≡ false = live_parts h e p l in
      by_bool (allocates p e.what) _
      (λ a. absurd (let never = never_twice h e p m.grown f a in let once = ever h p b was in cc))
      (λ a. block_push h e p ∙ block_stays p (block_of h p) e.what a kept ∙ m.at p b was (sym (live_stays h e p a kept) ∙ l)))

  homed_from : (h : History) (e : Event) → Homed s h → Fits s h e → (p b : ℕ) → block_of (h ++ e ∷ []) p ≡ Some b → Lies s (h ++ e ∷ []) p b
  homed_from h e m f p b y =
      let now : block_after p (block_of h p) e.what ≡ Some b = sym (block_push h e p) ∙ y in
      by_bool (frees p e.what) _
      (λ z. absurd (let gone = block_freed p (block_of h p) e.what z in cc))
      (λ z. by_bool (allocates p e.what) _ (λ a. fresh now a z) (λ a. old now a z)) where
        old : block_after p (block_of h p) e.what ≡ Some b → allocates p e.what ≡ false → frees p e.what ≡ false → Lies s (h ++ e ∷ []) p b
        old now a z =
            let was = m.from p b (sym (block_stays p (block_of h p) e.what a z) ∙ now) in
            record { put = some_event_push (places p b) h e ∙ or_first _ _ was.put; live = live_stays h e p a z ∙ was.live; below = was.below }

        fresh : block_after p (block_of h p) e.what ≡ Some b → allocates p e.what ≡ true → frees p e.what ≡ false → Lies s (h ++ e ∷ []) p b
        fresh now a z =
            let w = alloc_of p e.what a in
            let c : w.0 ≡ b = same_some w.0 b (sym (ap (block_after p (block_of h p)) w.1 ∙ ap (λ x. cond x (Some w.0) (block_of h p)) (eq-eqb p p refl)) ∙ now) in
            let fits = fits_alloc h e p w.0 f w.1 in
            let new = m.grown.numbered.fresh p (omega (arith, fits.number)) in
            record {
              put = some_event_push (places p b) h e ∙ or_second (some_event (places p b) h) (places p b e.what) (ap (places p b) w.1 ∙ and_yes (nat_eq p p) (nat_eq b w.0) (eq-eqb p p refl) (eq-eqb b w.0 (sym c)));
              live = alive (some_event (allocates p) (h ++ e ∷ [])) (some_event (frees p) (h ++ e ∷ [])) (some_event_push (allocates p) h e ∙ or_second (some_event (allocates p) h) (allocates p e.what) a) (some_same (frees p) h e z ∙ new.not_freed);
              below = omega (arith, fits.inside);
            }

  -- a page that an event allocates lies where no other does
  homed_once : (h : History) (e : Event) → Homed s h → Fits s h e → (p q b : ℕ) → block_of (h ++ e ∷ []) p ≡ Some b → block_of (h ++ e ∷ []) q ≡ Some b → p ≡ q
  homed_once h e m f p q b y z =
      by_bool (allocates p e.what) _
      (λ a. by_bool (allocates q e.what) _
      (λ c. let v = alloc_of p e.what a in let w = alloc_of q e.what c in same p q v.0 w.0 (sym v.1 ∙ w.1))
      (λ c. absurd (clash p q y z a c)))
      (λ a. by_bool (allocates q e.what) _
      (λ c. absurd (clash q p z y c a))
      (λ c. m.once p q b (was p y a) (was q z c))) where
        was : (r : ℕ) → block_of (h ++ e ∷ []) r ≡ Some b → allocates r e.what ≡ false → block_of h r ≡ Some b
        was r y a =
            let now : block_after r (block_of h r) e.what ≡ Some b = sym (block_push h e r) ∙ y in
            by_bool (frees r e.what) _
            (λ g. absurd (let gone = block_freed r (block_of h r) e.what g in cc))
            (λ g. sym (block_stays r (block_of h r) e.what a g) ∙ now)

        same : (p q c d : ℕ) → Alloc p c ≡ Alloc q d → p ≡ q
        same p q c d e = cc

        clash : (p q : ℕ) → block_of (h ++ e ∷ []) p ≡ Some b → block_of (h ++ e ∷ []) q ≡ Some b → allocates p e.what ≡ true → allocates q e.what ≡ false → ⊥
        clash p q y z a c =
            let w = alloc_of p e.what a in
            let at : w.0 ≡ b = same_some w.0 b (sym (block_push h e p ∙ ap (block_after p (block_of h p)) w.1 ∙ ap (λ x. cond x (Some w.0) (block_of h p)) (eq-eqb p p refl)) ∙ y) in
            let free : block_in_use h b ≡ false = ap (block_in_use h) (sym at) ∙ (fits_alloc h e p w.0 f w.1).free in
            let lies = m.from q b (was q z c) in
            let taken : block_in_use h b ≡ true = in_use h q b lies.put lies.live in
            no_both (block_in_use h b) free taken

  homed_push : (h : History) (e : Event) → Homed s h → Fits s h e → Homed s (h ++ e ∷ [])
  homed_push h e m f = record {
    grown = grown_push s h e m.grown f;
    at = homed_at h e m f;
    from = homed_from h e m f;
    once = homed_once h e m f;
  }

  homed_none : Homed s []
  unfolding some_event block_of
  homed_none = record {
    grown = grown_none s;
    at = λ p b e l. absurd (cc);
    from = λ p b e. absurd (cc);
    once = λ p q b e g. absurd (cc);
  }

  pub legal_homed : (h : History) → IsLegal s h → Homed s h
  legal_homed h l = legal_all s (Homed s) homed_none homed_push h l

  -- a block where no live page lies is free
  pub block_free : (h : History) (b : ℕ) → Homed s h → ((p : ℕ) → block_of h p ≡ Some b → ⊥) → block_in_use h b ≡ false
  block_free h b m none = by_bool (block_in_use h b) _ (λ y. absurd (let w = holder h h b y in none w.page (m.at w.page b w.put w.live))) (λ y. y)

  -- a block where a page lies is in use
  pub block_taken : (h : History) (p b : ℕ) → Homed s h → block_of h p ≡ Some b → block_in_use h b ≡ true
  block_taken h p b m e = let lies = m.from p b e in in_use h p b lies.put lies.live

  -- a live page has a block
  pub live_block : (h : History) (p : ℕ) → Homed s h → is_live h p ≡ true → (b : ℕ) × (block_of h p ≡ Some b)
  live_block h p m l = let w = placed p h (and_both _ _ l).0 in (w.0, m.at p w.0 w.1 l)
