-- The frames that a page holds, after one more event.
use Rattle.std.proofs.Common.{◌≡◌, ◌≢◌, ℕ, ◌+◌, ◌-◌, Bool, true, false, not, ◌&&◌, ◌||◌, List, [], ◌∷◌, ◌++◌, refl, sym, ◌∙◌, arith, nat_eq, nat_lt, ltb-true, None}
use Rattle.std.proofs.lemmas.Bool.Decides.{nat_tests}
use Rattle.thp_history.specs.Prelude.{Event, Outcome, What, Shape, History, by, maps, unmaps, is_split, is_live, allocates, frees, splits, is_held, shrinks_underused, writes, zeroes, refusal, covers, subpages}
use Rattle.thp_history.specs.declared.events.What.TheVariants.{UnmapWhole, MapSub, UnmapSub, Unpin, Split}
use Rattle.thp_history.specs.Refusals as call
use Rattle.thp_history.proofs.Allowed.{allowed_map_sub}
use Rattle.thp_history.proofs.Below.{some_none}
use Rattle.thp_history.proofs.Bools.{by_bool, and_no}
use Rattle.thp_history.proofs.Pushes.{count_of_push, some_event_push, count_same, some_same, live_stays, zero_stays}
use Rattle.thp_history.proofs.Untouched.{apart}

-- the event changes neither the totals of page p, nor whether it is live and split, nor what is zero-filled
pub record Still (p : ℕ) (w : What) : Type 0 where
  pub no_maps : (i : ℕ) → maps p i w ≡ false
  pub no_unmaps : (i : ℕ) → unmaps p i w ≡ false
  pub no_alloc : allocates p w ≡ false
  pub no_free : frees p w ≡ false
  pub no_split : splits p w ≡ false
  pub no_zeroes : (i : ℕ) → zeroes p i w ≡ false
  pub no_writes : (i : ℕ) → writes p i w ≡ false

-- whether a frame is held, by its parts
abbrev pub held_by : ℕ → ℕ → Bool → Bool → Bool → ℕ → ℕ → Bool → Bool
held_by n i on l s a t z = nat_lt i n && (l && (not s || ((l && nat_lt 0 (a - t)) && not (on && z))))

-- a frame is held by these parts alone
held-ap : (n i : ℕ) (on l l' s s' : Bool) (a a' t t' : ℕ) (z z' : Bool) → l ≡ l' → s ≡ s' → a ≡ a' → t ≡ t' → z ≡ z' → held_by n i on l s a t z ≡ held_by n i on l' s' a' t' z'
held-ap n i on l l' s s' a a' t t' z z' e f g h j = cc

-- an event that leaves them leaves what is held
pub held_still : (shape : Shape) (h : History) (e : Event) (p i : ℕ) → Still p e.what → is_held shape (h ++ e ∷ []) p i ≡ is_held shape h p i
held_still shape h e p i u = grind (arith, held-ap, live_stays, some_same, count_same, zero_stays)

-- held stays so backwards where the totals only fall
mono : (x l l' s u u' z : Bool) → (l' ≡ true → l ≡ true) → (u' ≡ true → u ≡ true) → (x && (l' && (not s || ((l' && u') && not z)))) ≡ true → (x && (l && (not s || ((l && u) && not z)))) ≡ true
mono x l l' s u u' z f g h = grind arith

-- a total that an unmap lessens was positive
fewer : (a t d : ℕ) → nat_lt 0 (a - (t + d)) ≡ true → nat_lt 0 (a - t) ≡ true
fewer a t d h = grind (arith, nat_tests)

-- a page that lives after an event that doesn't allocate it lived before
pub live_back : (h : History) (e : Event) (p : ℕ) → allocates p e.what ≡ false → is_live (h ++ e ∷ []) p ≡ true → is_live h p ≡ true
live_back h e p a l = grind (arith, some_same, some_event_push)

-- an event that adds no mapping leaves no frame held that wasn't
pub held_falls : (shape : Shape) (h : History) (e : Event) (p i : ℕ) → ((j : ℕ) → maps p j e.what ≡ false) → allocates p e.what ≡ false → splits p e.what ≡ false →
    zeroes p i e.what ≡ false → writes p i e.what ≡ false → is_held shape (h ++ e ∷ []) p i ≡ true → is_held shape h p i ≡ true
held_falls shape h e p i no_maps no_alloc no_split no_zeroes no_writes f = grind (arith, mono, nat_lt, live_back, fewer, held-ap, some_same, count_same, count_of_push, zero_stays)

-- an unmap of another page
pub still_unmap_whole : (q p : ℕ) (o : Outcome) (r : List Bool) → (q ≢ p) → Still q (UnmapWhole o p r)
still_unmap_whole q p o r f = record { no_maps = λ i. refl; no_unmaps = λ i. apart q p f; no_alloc = refl; no_free = and_no _ _ (apart q p f); no_split = refl; no_zeroes = λ j. refl; no_writes = λ j. refl }

-- an unmap of subpages of another page
pub still_unmap_sub : (q p a m : ℕ) (o : Outcome) (r : List Bool) → (q ≢ p) → Still q (UnmapSub o p a m r)
still_unmap_sub q p a m o r f = record { no_maps = λ i. refl; no_unmaps = λ i. and_no _ _ (apart q p f); no_alloc = refl; no_free = and_no _ _ (apart q p f); no_split = refl; no_zeroes = λ j. refl; no_writes = λ j. refl }

-- an unpin of another page
pub still_unpin : (q p : ℕ) (o : Outcome) (r : List Bool) → (q ≢ p) → Still q (Unpin o p r)
still_unpin q p o r f = record { no_maps = λ i. refl; no_unmaps = λ i. refl; no_alloc = refl; no_free = and_no _ _ (apart q p f); no_split = refl; no_zeroes = λ j. refl; no_writes = λ j. refl }

-- a split of another page
pub still_split : (q p : ℕ) (r : List Bool) → (q ≢ p) → Still q (Split p r)
still_split q p r f = record { no_maps = λ i. refl; no_unmaps = λ i. refl; no_alloc = refl; no_free = refl; no_split = apart q p f; no_zeroes = λ j. refl; no_writes = λ j. refl }

-- a live page that isn't split holds each of its frames
pub whole_held : (shape : Shape) (h : History) (p i : ℕ) → is_live h p ≡ true → is_split h p ≡ false → nat_lt i (subpages shape) ≡ true → is_held shape h p i ≡ true
whole_held shape h p i l w x = grind (arith, nat_lt)

-- what a page holds that isn't split hangs on its life alone
pub unsplit_same : (shape : Shape) (h : History) (e : Event) (p i : ℕ) → is_split h p ≡ false → allocates p e.what ≡ false → frees p e.what ≡ false → splits p e.what ≡ false →
    is_held shape (h ++ e ∷ []) p i ≡ is_held shape h p i
unsplit_same shape h e p i w a f g = grind (arith, nat_lt, live_stays, some_same)

-- one more mapping of a frame that is held
held_more : (shape : Shape) (h : History) (e : Event) (p i : ℕ) → is_held shape h p i ≡ true → allocates p e.what ≡ false → frees p e.what ≡ false → splits p e.what ≡ false →
    unmaps p i e.what ≡ false → zeroes p i e.what ≡ false → writes p i e.what ≡ false → is_held shape (h ++ e ∷ []) p i ≡ true
held_more shape h e p i f a g w t z y = grind (arith, held-ap, live_stays, some_same, count_of_push, count_same, zero_stays, nat_lt, nat_tests)

-- an allowed mapping of subpages leaves what is held
pub kept_map_sub : (shape : Shape) (h : History) (c p a d i : ℕ) → refusal shape h (call.map_sub p a d) ≡ None →
    is_held shape (h ++ by c (MapSub p a d) ∷ []) p i ≡ is_held shape h p i
kept_map_sub shape h c p a d i f =
    let e : Event = by c (MapSub p a d) in
    by_bool (is_split h p) _
    (λ w. by_bool (covers a d i) _
    (λ y. by_bool (nat_lt i (subpages shape)) _
    (λ x.
    let still : is_held shape h p i ≡ true = was_held (is_split h p) _ (covers a d i) (is_held shape h p i) w y (allowed_map_sub shape h p a d f).2 (λ g. some_none (subpages shape) _ g i (ltb-true i (subpages shape) x)) in
    held_more shape h e p i still refl refl refl refl refl refl ∙ sym still)
    (λ x. and_no (nat_lt i (subpages shape)) _ x ∙ sym (and_no (nat_lt i (subpages shape)) _ x)))
    (λ y. held-ap (subpages shape) i (shrinks_underused shape) _ _ _ _ _ _ _ _ _ _ (live_stays h e p refl refl) (some_same (splits p) h e refl) (count_same (maps p i) h e (and_second (nat_eq p p) _ y)) (count_same (unmaps p i) h e refl) (zero_stays h e p i refl refl)))
    (λ w. unsplit_same shape h e p i w refl refl refl) where
      and_second : (b c : Bool) → c ≡ false → (b && c) ≡ false
      and_second true c e = e
      and_second false c e = refl

      was_held : (s z y v : Bool) → s ≡ true → y ≡ true → (s && z) ≡ false → (z ≡ false → (y && not v) ≡ false) → v ≡ true
      was_held true z true true e f g k = refl
      was_held true z true false e f g k = absurd (let h : true ≡ false = k g in cc)
      was_held true z false v e f g k = absurd (cc)
      was_held false z y v e f g k = absurd (cc)
