-- A live page is mapped or pinned, a split page has no pins, and so a live page holds a frame.
use Rattle.std.proofs.Common.{◌≡◌, ℕ, ◌+◌, ◌-◌, Bool, true, false, not, ◌&&◌, ◌||◌, [], ◌∷◌, ◌++◌, refl, ap, sym, ◌∙◌, subst, arith, nat_eq, nat_lt, inl, inr, eq-eqb, lt-ltb}
use Rattle.std.proofs.lemmas.Bool.Decides.{eqb_tells, nat_tests}
use Rattle.thp_history.specs.Prelude.{Event, Outcome, What, Shape, History, count_of, some_event, by, is_freed, maps, unmaps, pins_page, unpins_page, allocates, frees, splits, total, pins, is_live, is_split, is_held, outcome, some_below, subpages, shrinks_underused, is_zero_filled, IsLegal, Fits, FitsBy}
use Rattle.thp_history.specs.declared.events.What.TheVariants.{Alloc, UnmapWhole, UnmapSub, Pin, Unpin, Split}
use Rattle.thp_history.proofs.Allowed.{allowed_pin}
use Rattle.thp_history.proofs.Below.{some_yes, some_no, some_more}
use Rattle.thp_history.proofs.Bools.{by_bool, and_no}
use Rattle.thp_history.proofs.Holding.{live_back, whole_held}
use Rattle.thp_history.proofs.LegalSteps.{legal_all}
use Rattle.thp_history.proofs.Numbers.{Numbered, numbered_none}
use Rattle.thp_history.proofs.Pushes.{count_of_push, some_event_push, count_same, count_more, some_same}
use Rattle.thp_history.proofs.Sizes.{some_subpages}
use Rattle.thp_history.proofs.Standing.{Sound, sound_push, sound_none, numbered_push}

-- every total is 0 and the pins are 0
abbrev pub idle : Shape → History → ℕ → Bool
idle shape h p = not (some_below (subpages shape) (λ i. nat_lt 0 (total h p i))) && nat_eq (pins h p) 0

-- what holds of the pages of a legal history: a live page is mapped or pinned, and a split page has no pins
pub record Alive (shape : Shape) (h : History) : Type 0 where
  pub busy : (p : ℕ) → is_live h p ≡ true → idle shape h p ≡ false
  pub unpinned : (p : ℕ) → is_split h p ≡ true → pins h p ≡ 0

-- busy still, where more is mapped and no fewer pins stand
busy_by : (a b a' b' : Bool) → (a ≡ true → a' ≡ true) → (b' ≡ true → b ≡ true) → (not a && b) ≡ false → (not a' && b') ≡ false
busy_by x b a' b' f g e = grind arith

-- an event that unmaps nothing from page p leaves it busy
stays_busy : (shape : Shape) (h : History) (e : Event) (p : ℕ) → ((i : ℕ) → unmaps p i e.what ≡ false) → unpins_page p e.what ≡ false → idle shape h p ≡ false → idle shape (h ++ e ∷ []) p ≡ false
stays_busy shape h e p t u b = grind (arith, busy_by, nat_lt, nat_eq, some_more, count_of_push, count_same, nat_tests)

-- an unmap or unpin that didn't free its page leaves it busy
busy_after : (shape : Shape) (h k : History) (p : ℕ) (o : Outcome) → o ≡ outcome shape h k p → is_freed o ≡ false → idle shape k p ≡ false
busy_after shape h k p o e f = grind (arith, nat_lt, nat_eq)

-- of page q, after an unmap or unpin of p
unmapped : (shape : Shape) (h : History) (e : Event) (p q : ℕ) (o : Outcome) → frees q e.what ≡ (nat_eq q p && is_freed o) → allocates q e.what ≡ false → o ≡ outcome shape h (h ++ e ∷ []) p →
    (nat_eq q p ≡ false → ((i : ℕ) → unmaps q i e.what ≡ false) × (unpins_page q e.what ≡ false)) → (is_live h q ≡ true → idle shape h q ≡ false) →
    is_live (h ++ e ∷ []) q ≡ true → idle shape (h ++ e ∷ []) q ≡ false
unmapped shape h e p q o frees_q a is other old l =
    elim (eqb_tells q p) [
      | inl y ↦
          let not_freed : is_freed o ≡ false = go _ _ _ (is_freed o) _ (some_event_push (frees q) h e) (frees_q ∙ ap (λ b. b && is_freed o) y.0) l in
          let P : ℕ → Type 0 = λ x. idle shape (h ++ e ∷ []) x ≡ false in subst P (sym y.1) (busy_after shape h (h ++ e ∷ []) p o is not_freed)
      | inr y ↦ stays_busy shape h e q (other y.0).0 (other y.0).1 (old (live_back h e q a l))
    ] where
      go : (f f' g b a : Bool) → f' ≡ (f || g) → g ≡ b → (a && not f') ≡ true → b ≡ false
      go f true g b true e i l = absurd (cc)
      go f true g b false e i l = absurd (cc)
      go true false g b a e i l = absurd (cc)
      go false false g b a e i l = sym (e ∙ i)

-- after one more event that fits, a live page is mapped or pinned
busy_step : (shape : Shape) (h : History) (c : ℕ) (w : What) → Numbered h → Alive shape h → FitsBy shape h (h ++ by c w ∷ []) c w →
    (q : ℕ) → is_live (h ++ by c w ∷ []) q ≡ true → idle shape (h ++ by c w ∷ []) q ≡ false
busy_step shape h c (Alloc p b) t s f q l =
    let e : Event = by c (Alloc p b) in
    elim (eqb_tells q p) [
      | inl y ↦
          let none : count_of (unmaps q 0) h ≡ 0 = (t.fresh q (let w : q ≡ p = y.1 in omega (arith, f.number))).no_unmaps 0 in
          new _ _ (some_yes (subpages shape) (λ i. nat_lt 0 (total (h ++ e ∷ []) q i)) 0 (some_subpages shape) (one _ _ _ (count_more (maps q 0) h e y.0) (count_same (unmaps q 0) h e refl ∙ none)))
      | inr y ↦ stays_busy shape h e q (λ i. refl) refl (s.busy q (live_back h e q y.0 l))
    ] where
      one : (a a' t' : ℕ) → a' ≡ a + 1 → t' ≡ 0 → nat_lt 0 (a' - t') ≡ true
      one a a' t' e f = grind (arith, nat_tests)

      new : (x y : Bool) → x ≡ true → (not x && y) ≡ false
      new true y e = refl
      new false y e = absurd (cc)
busy_step shape h c (UnmapWhole o p r) t s f q l =
    unmapped shape h (by c (UnmapWhole o p r)) p q o refl refl f.1.outcome_is (λ y. (λ i. y, refl)) (s.busy q) l
busy_step shape h c (UnmapSub o p a m r) t s f q l =
    unmapped shape h (by c (UnmapSub o p a m r)) p q o refl refl f.1.outcome_is (λ y. (λ i. and_no _ _ y, refl)) (s.busy q) l
busy_step shape h c (Unpin o p r) t s f q l =
    unmapped shape h (by c (Unpin o p r)) p q o refl refl f.1.outcome_is (λ y. (λ i. refl, y)) (s.busy q) l
busy_step shape h c w t s f q l =
    stays_busy shape h (by c w) q (λ i. refl) refl (s.busy q (live_back h (by c w) q refl l))

-- a page that was split stays without pins
still_none : (h : History) (e : Event) (q : ℕ) → pins_page q e.what ≡ false → pins h q ≡ 0 → pins (h ++ e ∷ []) q ≡ 0
still_none h e q f z = omega (arith, count_same (pins_page q) h e f, count_of_push (unpins_page q) h e, z)

-- a page that an event didn't split was split before
was_split : (h : History) (e : Event) (q : ℕ) → splits q e.what ≡ false → is_split (h ++ e ∷ []) q ≡ true → is_split h q ≡ true
was_split h e q f s = sym (some_same (splits q) h e f) ∙ s

-- after one more event that fits, a split page has no pins
unpinned_step : (shape : Shape) (h : History) (c : ℕ) (w : What) → Alive shape h → FitsBy shape h (h ++ by c w ∷ []) c w →
    (q : ℕ) → is_split (h ++ by c w ∷ []) q ≡ true → pins (h ++ by c w ∷ []) q ≡ 0
unpinned_step shape h c (Pin p) s f q l =
    let e : Event = by c (Pin p) in
    elim (eqb_tells q p) [
      | inl y ↦ absurd (let a : is_split h q ≡ true = was_split h e q refl l in let b : is_split h q ≡ false = ap (is_split h) y.1 ∙ (allowed_pin shape h p f).1 in cc)
      | inr y ↦ still_none h e q y.0 (s.unpinned q (was_split h e q refl l))
    ]
unpinned_step shape h c (Split p r) s f q l =
    let e : Event = by c (Split p r) in
    elim (eqb_tells q p) [
      | inl y ↦ still_none h e q refl (ap (pins h) y.1 ∙ f.unpinned)
      | inr y ↦ still_none h e q refl (s.unpinned q (was_split h e q y.0 l))
    ]
unpinned_step shape h c w s f q l = still_none h (by c w) q refl (s.unpinned q (was_split h (by c w) q refl l))

-- one more event that fits keeps this
pub alive_push : (shape : Shape) (h : History) (e : Event) → Numbered h → Alive shape h → Fits shape h e → Alive shape (h ++ e ∷ [])
alive_push shape h e t s f = record {
  busy = busy_step shape h e.caller e.what t s f;
  unpinned = unpinned_step shape h e.caller e.what s f;
}

-- it holds of the empty history
pub alive_none : (shape : Shape) → Alive shape []
unfolding count_of some_event
alive_none shape = record { busy = λ p l. absurd (cc); unpinned = λ p s. refl }

-- what holds of legal histories so far
pub record Grown (shape : Shape) (h : History) : Type 0 where
  pub sound : Sound shape h
  pub numbered : Numbered h
  pub alive : Alive shape h

-- one more event that fits keeps all of it
pub grown_push : (shape : Shape) (h : History) (e : Event) → Grown shape h → Fits shape h e → Grown shape (h ++ e ∷ [])
grown_push shape h e g f = grind (arith, sound_push, numbered_push, alive_push)

-- all of it holds of the empty history
pub grown_none : (shape : Shape) → Grown shape []
grown_none shape = record { sound = sound_none shape; numbered = numbered_none; alive = alive_none shape }

-- and of every legal history
pub legal_grown : (shape : Shape) (h : History) → IsLegal shape h → Grown shape h
legal_grown shape h l = legal_all shape (Grown shape) (grown_none shape) (λ k e g f. grown_push shape k e g f) h l

-- each live page holds a frame, but for a split page where the switch is on
pub lives_hold : (shape : Shape) (h : History) (p : ℕ) → Alive shape h → (shrinks_underused shape && is_split h p) ≡ false → some_below (subpages shape) (is_held shape h p) ≡ is_live h p
lives_hold shape h p s off =
    by_bool (is_live h p) _
    (λ l.
    by_bool (is_split h p) _
    (λ w.
    some_more (subpages shape) (λ i. nat_lt 0 (total h p i)) (is_held shape h p) (λ i b y. used_held (nat_lt i (subpages shape)) (is_live h p) (is_split h p) (nat_lt 0 (total h p i)) (shrinks_underused shape) (is_zero_filled h p i) (lt-ltb i (subpages shape) b) l y w off)
    (mapped _ _ (s.unpinned p w) (s.busy p l)) ∙ sym l)
    (λ w. some_yes (subpages shape) (is_held shape h p) 0 (some_subpages shape) (whole_held shape h p 0 l w (lt-ltb 0 (subpages shape) (some_subpages shape))) ∙ sym l))
    (λ l. some_no (subpages shape) (is_held shape h p) (λ i b. dead (nat_lt i (subpages shape)) (is_live h p) _ l) ∙ sym l) where
      used_held : (x l s u on z : Bool) → x ≡ true → l ≡ true → u ≡ true → s ≡ true → (on && s) ≡ false → (x && (l && (not s || ((l && u) && not (on && z))))) ≡ true
      used_held x l s u true z e f g w o = absurd (let y : s ≡ false = o in cc)
      used_held x l s u false z e f g w o = rw (e, f, g, w) refl

      mapped : (x : Bool) (m : ℕ) → m ≡ 0 → (not x && nat_eq m 0) ≡ false → x ≡ true
      mapped true m z e = refl
      mapped false m z e = absurd (let t : nat_eq m 0 ≡ true = eq-eqb m 0 z in cc)

      dead : (x l v : Bool) → l ≡ false → (x && (l && v)) ≡ false
      dead true true v e = absurd (cc)
      dead true false v e = refl
      dead false l v e = refl

-- in a legal history a live page holds a frame, and no other page does
pub live_holds : (shape : Shape) (h : History) (p : ℕ) → IsLegal shape h → (shrinks_underused shape && is_split h p) ≡ false → some_below (subpages shape) (is_held shape h p) ≡ is_live h p
live_holds shape h p l off = lives_hold shape h p (legal_grown shape h l).alive off
