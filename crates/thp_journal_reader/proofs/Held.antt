-- How often blocks are held, by the history.
use Rattle.std.proofs.Common.{◌≡◌, ℕ, ◌+◌, Bool, true, false, cond, not, ◌&&◌, ◌||◌, List, [], ◌∷◌, ◌++◌, refl, ap, ap₂, sym, ◌∙◌, arith, inl, inr, nat_eq, eq-eqb, ne_eqb, zero-add, append_assoc, Option, Some, None, count_by, IfSome}
use Rattle.std.proofs.lemmas.List.Sums.{sum_by-append}
use Rattle.std.proofs.lemmas.Bool.Decides.{eqb_tells}
use Rattle.thp_history.specs.declared.events.Event.{Event}
use Rattle.thp_history.specs.declared.events.Outcome.{Outcome}
use Rattle.thp_history.specs.declared.events.Outcome.TheVariants.{Freed}
use Rattle.thp_history.specs.declared.events.What.{What}
use Rattle.thp_history.specs.declared.events.What.TheVariants.{Alloc}
use Rattle.thp_history.specs.Prelude.{frees, is_alloc, is_freed, is_block_held, keeps_block, History, by, some_event}
use Rattle.thp_history.proofs.Bools.{and-false, and-true, or_second}
use Rattle.thp_history.proofs.Counting.{count-cons}
use Rattle.thp_history.proofs.ListPlaces.{append_none}
use Rattle.thp_history.proofs.Pushes.{some_event_push, some_same}
use Rattle.thp_journal_reader.specs.Freeing.{freed_by, freed_page}
use Rattle.thp_journal_reader.specs.HeldBlocks.{times_held, kept_block, blocks_of}

-- which page is freed, as a test
abbrev is_it : ℕ → Option ℕ → Bool
is_it q None = false
is_it q (Some p) = nat_eq q p

freed_is : (q p : ℕ) (o : Outcome) (t : Outcome → Bool) → (t Freed ≡ true) → ((x : Outcome) → freed_by p x ≡ None → t x ≡ false) → (nat_eq q p && t o) ≡ is_it q (freed_by p o)
freed_is q p x t y n = grind (arith, nat_eq, and-true, and-false)

not_freed : (p : ℕ) (o : Outcome) → freed_by p o ≡ None → is_freed o ≡ false
not_freed p x e = grind arith

-- the event frees the page that it says
frees_is : (q : ℕ) (w : What) → frees q w ≡ is_it q (freed_page w)
frees_is q x = grind (arith, freed_is, not_freed)

-- an event that frees none
pub frees_none : (q : ℕ) (w : What) → freed_page w ≡ None → frees q w ≡ false
frees_none q w e = frees_is q w ∙ ap (is_it q) e

-- an event that frees p
pub frees_one : (q p : ℕ) (w : What) → freed_page w ≡ Some p → frees q w ≡ nat_eq q p
frees_one q p w e = frees_is q w ∙ ap (is_it q) e

-- where the answer is the page of which the event reports that it is freed, that is the page that it frees
pub event_page : (w : What) (o : Option ℕ) → IfSome o (λ p. frees p w ≡ true) → ((p : ℕ) → frees p w ≡ true → o ≡ Some p) → o ≡ freed_page w
event_page w o there other = go o (freed_page w) there refl (λ p e. other p (frees_one p p w e ∙ eq-eqb p p refl)) where
  go : (o f : Option ℕ) → IfSome o (λ p. frees p w ≡ true) → freed_page w ≡ f → ((p : ℕ) → freed_page w ≡ Some p → o ≡ Some p) → o ≡ f
  go None None y e g = refl
  go (Some q) None y e g = let no : frees q w ≡ false = frees_none q w e in absurd (cc)
  go o (Some p) y e g = g p e

-- ---- what an event keeps, with one more after it

-- an event that is no allocation keeps no block
no_holder : (b : ℕ) (w : What) (later : History) → is_alloc w ≡ false → keeps_block b w later ≡ false
no_holder b x later e = grind arith

no_block : (p : ℕ) (w : What) (later : History) → is_alloc w ≡ false → kept_block p w later ≡ []
no_block p x later e = grind arith

-- one more event that frees no page
holder_same : (b : ℕ) (w : What) (h : History) (e : Event) → ((q : ℕ) → frees q e.what ≡ false) → keeps_block b w (h ++ e ∷ []) ≡ keeps_block b w h
holder_same b (Alloc q c) h e f = ap (λ v. nat_eq b c && not v) (some_same (frees q) h e (f q))
holder_same b w h e f = refl

-- one that doesn't free page p
block_same : (p : ℕ) (w : What) (h : History) (e : Event) → frees p e.what ≡ false → kept_block p w (h ++ e ∷ []) ≡ kept_block p w h
block_same p (Alloc q c) h e f = ap (λ v. cond (nat_eq p q && not v) (c ∷ []) []) (some_same (frees p) h e f)
block_same p w h e f = refl

-- one that frees page p
freed_now : (p : ℕ) (h : History) (e : Event) → frees p e.what ≡ true → some_event (frees p) (h ++ e ∷ []) ≡ true
freed_now p h e f = some_event_push (frees p) h e ∙ or_second (some_event (frees p) h) (frees p e.what) f

block_gone : (p : ℕ) (w : What) (h : History) (e : Event) → frees p e.what ≡ true → kept_block p w (h ++ e ∷ []) ≡ []
block_gone p (Alloc q c) h e f =
    ap (λ v. cond (nat_eq p q && not v) (c ∷ []) []) (freed_now p h e f) ∙ ap (λ v. cond v (c ∷ []) []) (and-false (nat_eq p q))
block_gone p w h e f = refl

-- ---- the blocks of a page after one more event

-- one that doesn't free the page
blocks_last : (h : History) (e : Event) (p : ℕ) → frees p e.what ≡ false → blocks_of (h ++ e ∷ []) p ≡ kept_block p e.what [] ++ blocks_of h p
unfolding blocks_of
blocks_last [] e p f = sym (append_none (kept_block p e.what []))
blocks_last (x ∷ h) e p f =
    ap₂ (λ (xs ys : List ℕ). xs ++ ys) (blocks_last h e p f) (block_same p x.what h e f)
    ∙ append_assoc (kept_block p e.what []) (blocks_of h p) (kept_block p x.what h)

-- one that neither frees the page nor allocates
pub blocks_same : (h : History) (e : Event) (p : ℕ) → frees p e.what ≡ false → is_alloc e.what ≡ false → blocks_of (h ++ e ∷ []) p ≡ blocks_of h p
blocks_same h e p f n = blocks_last h e p f ∙ ap (λ (bs : List ℕ). bs ++ blocks_of h p) (no_block p e.what [] n)

-- an allocation
pub blocks_more : (h : History) (c p x q : ℕ) → blocks_of (h ++ by c (Alloc p x) ∷ []) q ≡ cond (nat_eq q p) (x ∷ blocks_of h q) (blocks_of h q)
unfolding some_event
blocks_more h c p x q = blocks_last h (by c (Alloc p x)) q refl ∙ own (nat_eq q p) (blocks_of h q) where
  own : (v : Bool) (bs : List ℕ) → cond (v && true) (x ∷ []) [] ++ bs ≡ cond v (x ∷ bs) bs
  own true bs = refl
  own false bs = refl

-- one that frees the page
pub blocks_gone : (h : History) (e : Event) (p : ℕ) → frees p e.what ≡ true → is_alloc e.what ≡ false → blocks_of (h ++ e ∷ []) p ≡ []
unfolding blocks_of
blocks_gone [] e p f n = no_block p e.what [] n
blocks_gone (x ∷ h) e p f n = ap₂ (λ (xs ys : List ℕ). xs ++ ys) (blocks_gone h e p f n) (block_gone p x.what h e f)

-- ---- the holders of a block after one more event

-- nothing more
nothing : (n : ℕ) (c : Bool) → c ≡ false → n + cond c 1 0 ≡ n
nothing n x e = grind arith

-- one that frees no page
held_last : (h : History) (e : Event) (b : ℕ) → ((q : ℕ) → frees q e.what ≡ false) → times_held (h ++ e ∷ []) b ≡ times_held h b + cond (keeps_block b e.what []) 1 0
unfolding times_held
held_last [] e b f = let n : ℕ = cond (keeps_block b e.what []) 1 0 in let r : n + 0 ≡ 0 + n = omega arith in r
held_last (x ∷ h) e b f =
    let here : cond (keeps_block b x.what (h ++ e ∷ [])) 1 0 ≡ cond (keeps_block b x.what h) 1 0 = ap (λ v. cond v 1 0) (holder_same b x.what h e f) in
    sums _ _ _ _ _ here (held_last h e b f) where
      sums : (a b c d e : ℕ) → a ≡ b → c ≡ d + e → a + c ≡ (b + d) + e
      sums a b c d e f g = omega arith

-- one that neither frees nor allocates
pub held_quiet : (h : History) (e : Event) (b : ℕ) → ((q : ℕ) → frees q e.what ≡ false) → is_alloc e.what ≡ false → times_held (h ++ e ∷ []) b ≡ times_held h b
held_quiet h e b f n = held_last h e b f ∙ nothing (times_held h b) (keeps_block b e.what []) (no_holder b e.what [] n)

-- an allocation
pub held_more : (h : History) (c p x b : ℕ) → times_held (h ++ by c (Alloc p x) ∷ []) b ≡ times_held h b + cond (nat_eq b x) 1 0
unfolding some_event
held_more h c p x b = held_last h (by c (Alloc p x)) b (λ q. refl) ∙ ap (λ v. times_held h b + cond v 1 0) (and-true (nat_eq b x))

-- what an allocation keeps, and what it kept for the page that is freed
part_one : (w : What) (h : History) (e : Event) (p b : ℕ) → ((q : ℕ) → frees q e.what ≡ nat_eq q p) →
    cond (keeps_block b w (h ++ e ∷ [])) 1 0 + count_by (nat_eq b) (kept_block p w h) ≡ cond (keeps_block b w h) 1 0
part_one (Alloc q c) h e p b f =
    elim (eqb_tells p q) [
      | inl y ↦
          let gone : some_event (frees q) (h ++ e ∷ []) ≡ true = freed_now q h e (f q ∙ eq-eqb q p (sym y.1)) in
          ap (λ v. cond (nat_eq b c && not v) 1 0 + count_by (nat_eq b) (kept_block p (Alloc q c) h)) gone
          ∙ ap (λ v. cond (nat_eq b c && false) 1 0 + count_by (nat_eq b) (cond (v && not (some_event (frees p) h)) (c ∷ []) [])) y.0
          ∙ whole (some_event (frees p) h)
          ∙ ap (λ r. cond (nat_eq b c && not (some_event (frees r) h)) 1 0) y.1
      | inr y ↦
          let stays : some_event (frees q) (h ++ e ∷ []) ≡ some_event (frees q) h = some_same (frees q) h e (f q ∙ ne_eqb q p (λ s. y.1 (sym s))) in
          ap (λ v. cond (nat_eq b c && not v) 1 0 + count_by (nat_eq b) (kept_block p (Alloc q c) h)) stays
          ∙ ap (λ v. cond (nat_eq b c && not (some_event (frees q) h)) 1 0 + count_by (nat_eq b) (cond (v && not (some_event (frees p) h)) (c ∷ []) [])) y.0
          ∙ plain (cond (nat_eq b c && not (some_event (frees q) h)) 1 0)
    ]
  where
    plain : (n : ℕ) → n + 0 ≡ n
    plain n = omega arith

    sums : (a b c d : ℕ) → a ≡ 0 → b ≡ c + 0 → d ≡ c → a + b ≡ d
    sums a b c d e f g = omega arith

    whole : (s : Bool) → cond (nat_eq b c && false) 1 0 + count_by (nat_eq b) (cond (true && not s) (c ∷ []) []) ≡ cond (nat_eq b c && not s) 1 0
    whole true = plain (cond (nat_eq b c && false) 1 0)
    whole false =
        let none : cond (nat_eq b c && false) 1 0 ≡ 0 = ap (λ v. cond v 1 0) (and-false (nat_eq b c)) in
        let one : cond (nat_eq b c && true) 1 0 ≡ cond (nat_eq b c) 1 0 = ap (λ v. cond v 1 0) (and-true (nat_eq b c)) in
        sums _ _ _ _ none (count-cons (nat_eq b) c []) one
part_one w h e p b f = let n : ℕ = cond (keeps_block b w h) 1 0 in let r : n + 0 ≡ n = omega arith in r

-- when a page is freed its blocks have fewer holders
pub held_without : (h : History) (e : Event) (p b : ℕ) → ((q : ℕ) → frees q e.what ≡ nat_eq q p) → is_alloc e.what ≡ false →
    times_held (h ++ e ∷ []) b + count_by (nat_eq b) (blocks_of h p) ≡ times_held h b
unfolding times_held blocks_of
held_without [] e p b f n = none (keeps_block b e.what []) (no_holder b e.what [] n) where
  none : (v : Bool) → v ≡ false → (cond v 1 0 + 0) + 0 ≡ 0
  none true y = absurd (cc)
  none false y = refl
held_without (x ∷ h) e p b f n =
    sums _ _ _ _ _ _ (part_one x.what h e p b f) (held_without h e p b f n) _ (sum_by-append (λ i. cond (nat_eq b i) 1 0) (blocks_of h p) (kept_block p x.what h)) where
      sums : (a b c d e l : ℕ) → a + b ≡ c → d + e ≡ l → (m : ℕ) → m ≡ e + b → (a + d) + m ≡ c + l
      sums a b c d e l f g m i = omega arith

-- a block is free exactly where it has no holder
pub free_is : (h : History) (b : ℕ) → not (is_block_held h b) ≡ nat_eq (times_held h b) 0
unfolding is_block_held times_held
free_is [] b = refl
free_is (e ∷ h) b = go (keeps_block b e.what h) (is_block_held h b) (times_held h b) (free_is h b) where
  go : (k held : Bool) (n : ℕ) → not held ≡ nat_eq n 0 → not (k || held) ≡ nat_eq (cond k 1 0 + n) 0
  go true held n f = sym (ne_eqb (1 + n) 0 (λ e. absurd (omega arith)))
  go false held n f = f ∙ ap (λ m. nat_eq m 0) (sym (zero-add n))
