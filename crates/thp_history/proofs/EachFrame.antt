-- Each frame of each page allocated is held, or was given back once.
use Rattle.std.proofs.Common.{◌≡◌, ◌≢◌, ℕ, ◌+◌, ◌<◌, ◌≤◌, Bool, true, false, cond, not, ◌&&◌, ◌||◌, List, [], ◌∷◌, ◌++◌, refl, ap, sym, ◌∙◌, subst, arith, nat_eq, nat_lt, inl, inr, lt-ltb}
use Rattle.std.proofs.lemmas.Bool.Decides.{eqb_tells, nat_tests}
use Rattle.thp_history.specs.Prelude.{Event, What, Shape, History, count_of, some_event, by, is_live, is_split, allocates, frees, splits, allocations, gives_frame, is_held, released, IsLegal, Fits, FitsBy, flights, has, subpages, get_or-set_of}
use Rattle.thp_history.specs.declared.events.What.TheVariants.{Alloc, MapWhole, UnmapWhole, MapSub, UnmapSub, Unpin, Write, Zero, Split}
use Rattle.thp_history.proofs.Allowed.{allowed_map_whole, allowed_write, allowed_zero}
use Rattle.thp_history.proofs.Bools.{and_no, and_both}
use Rattle.thp_history.proofs.Holding.{whole_held, held_still, held_falls, unsplit_same, kept_map_sub, still_unmap_whole, still_unmap_sub, still_unpin, still_split}
use Rattle.thp_history.proofs.LegalSteps.{legal_all}
use Rattle.thp_history.proofs.Numbers.{Numbered, Fresh, numbered_none}
use Rattle.thp_history.proofs.Pushes.{count_of_push, some_event_push, count_same, count_more, some_same}
use Rattle.thp_history.proofs.Sizes.{few_subpages}
use Rattle.thp_history.proofs.Standing.{Sound, sound_push, sound_none, numbered_push, stand, flying-leaves}

-- what one event does to one frame
abbrev Turns : Shape → History → Event → ℕ → ℕ → Type 0
Turns shape h e p i = cond (is_held shape (h ++ e ∷ []) p i) 1 0 + cond (gives_frame p i e.what) 1 0 ≡ cond (is_held shape h p i) 1 0 + cond (allocates p e.what) 1 0

-- an event that leaves the frame
same_turn : (shape : Shape) (h : History) (e : Event) (p i : ℕ) → is_held shape (h ++ e ∷ []) p i ≡ is_held shape h p i → gives_frame p i e.what ≡ false → allocates p e.what ≡ false → Turns shape h e p i
same_turn shape h e p i s g a = grind arith

-- an event that gives back frames of page q
release_turn : (shape : Shape) (h : History) (e : Event) (q : ℕ) (r : List Bool) (p i : ℕ) → shape.order ≤ 9 → i < subpages shape → allocates p e.what ≡ false → gives_frame p i e.what ≡ (nat_eq p q && has r i) →
    r ≡ released shape h (h ++ e ∷ []) q → (is_held shape (h ++ e ∷ []) q i ≡ true → is_held shape h q i ≡ true) → ((p ≢ q) → is_held shape (h ++ e ∷ []) p i ≡ is_held shape h p i) → Turns shape h e p i
release_turn shape h e q r p i small below a g is falls still =
    elim (eqb_tells p q) [
      | inl y ↦
          let at : has r i ≡ (is_held shape h q i && not (is_held shape (h ++ e ∷ []) q i)) = ap (λ t. has t i) is ∙ get_or-set_of (λ j. is_held shape h q j && not (is_held shape (h ++ e ∷ []) q j)) i (omega (arith, few_subpages shape small)) in
          let P : ℕ → Type 0 = λ x. cond {A = ℕ} (is_held shape (h ++ e ∷ []) x i) 1 0 + cond (gives_frame p i e.what) 1 0 ≡ cond (is_held shape h x i) 1 0 + cond (allocates p e.what) 1 0 in
          subst P (sym y.1) (go (is_held shape h q i) (is_held shape (h ++ e ∷ []) q i) (has r i) _ _ _ at g y.0 a falls)
      | inr y ↦ same_turn shape h e p i (still y.1) (g ∙ and_no _ _ y.0) a
    ] where
      go : (x y t g m a : Bool) → t ≡ (x && not y) → g ≡ (m && t) → m ≡ true → a ≡ false → (y ≡ true → x ≡ true) → cond {A = ℕ} y 1 0 + cond g 1 0 ≡ cond x 1 0 + cond a 1 0
      go true true t g m a e f i j k = rw (f, i, e, j) refl
      go true false t g m a e f i j k = rw (f, i, e, j) refl
      go false true t g m a e f i j k = absurd (let z : false ≡ true = k refl in cc)
      go false false t g m a e f i j k = rw (f, i, e, j) refl

-- a page without events holds nothing
fresh_held : (shape : Shape) (h : History) (p i : ℕ) → Fresh h p → is_held shape h p i ≡ false
fresh_held shape h p i f = grind (arith, nat_lt)

-- an event that fits gives a frame back exactly where it ends its being held, and an allocation begins it
turn : (shape : Shape) (h : History) (c : ℕ) (w : What) (p i : ℕ) → shape.order ≤ 9 → i < subpages shape → Sound shape h → Numbered h → FitsBy shape h (h ++ by c w ∷ []) c w → Turns shape h (by c w) p i
turn shape h c (Alloc q b) p i small below s t f =
    let e : Event = by c (Alloc q b) in
    let k : History = h ++ e ∷ [] in
    elim (eqb_tells p q) [
      | inl y ↦
          let fresh : Fresh h p = t.fresh p (let z : p ≡ q = y.1 in omega (arith, f.number)) in
          let live : is_live k p ≡ true = new_live _ _ _ _ (some_event_push (allocates p) h e) y.0 (some_same (frees p) h e refl ∙ fresh.not_freed) in
          new _ _ _ (whole_held shape k p i live (some_same (splits p) h e refl ∙ fresh.not_split) (lt-ltb i (subpages shape) below)) (fresh_held shape h p i fresh) y.0
      | inr y ↦ same_turn shape h e p i (held_still shape h e p i (record { no_maps = λ j. y.0; no_unmaps = λ j. refl; no_alloc = y.0; no_free = refl; no_split = refl; no_zeroes = λ j. y.0; no_writes = λ j. refl })) refl y.0
    ] where
      new_live : (a a' f b : Bool) → a' ≡ (a || b) → b ≡ true → f ≡ false → (a' && not f) ≡ true
      new_live a true true b e g h = absurd (cc)
      new_live a true false b e g h = refl
      new_live true false f b e g h = absurd (cc)
      new_live false false f b e g h = absurd (cc)

      new : (x y m : Bool) → x ≡ true → y ≡ false → m ≡ true → cond {A = ℕ} x 1 0 + 0 ≡ cond y 1 0 + cond m 1 0
      new x y m e f g = rw (e, f, g) refl
turn shape h c (MapWhole q) p i small below s t f =
    let e : Event = by c (MapWhole q) in
    elim (eqb_tells p q) [
      | inl y ↦ same_turn shape h e p i (unsplit_same shape h e p i (let P : ℕ → Type 0 = λ x. is_split h x ≡ false in subst P (sym y.1) (allowed_map_whole shape h q f).1) refl refl refl) refl refl
      | inr y ↦ same_turn shape h e p i (held_still shape h e p i (record { no_maps = λ j. y.0; no_unmaps = λ j. refl; no_alloc = refl; no_free = refl; no_split = refl; no_zeroes = λ j. refl; no_writes = λ j. refl })) refl refl
    ]
turn shape h c (UnmapWhole o q r) p i small below s t f =
    let e : Event = by c (UnmapWhole o q r) in
    release_turn shape h e q r p i small below refl refl f.1.set_is (held_falls shape h e q i (λ j. refl) refl refl refl refl) (λ a. held_still shape h e p i (still_unmap_whole p q o r a))
turn shape h c (MapSub q a d) p i small below s t f =
    let e : Event = by c (MapSub q a d) in
    elim (eqb_tells p q) [
      | inl y ↦ same_turn shape h e p i (let P : ℕ → Type 0 = λ x. is_held shape (h ++ e ∷ []) x i ≡ is_held shape h x i in subst P (sym y.1) (kept_map_sub shape h c q a d i f)) refl refl
      | inr y ↦ same_turn shape h e p i (held_still shape h e p i (record { no_maps = λ j. and_no _ _ y.0; no_unmaps = λ j. refl; no_alloc = refl; no_free = refl; no_split = refl; no_zeroes = λ j. refl; no_writes = λ j. refl })) refl refl
    ]
turn shape h c (UnmapSub o q a d r) p i small below s t f =
    let e : Event = by c (UnmapSub o q a d r) in
    release_turn shape h e q r p i small below refl refl f.1.set_is (held_falls shape h e q i (λ j. refl) refl refl refl refl) (λ y. held_still shape h e p i (still_unmap_sub p q a d o r y))
turn shape h c (Unpin o q r) p i small below s t f =
    let e : Event = by c (Unpin o q r) in
    release_turn shape h e q r p i small below refl refl f.1.set_is (held_falls shape h e q i (λ j. refl) refl refl refl refl) (λ a. held_still shape h e p i (still_unpin p q o r a))
turn shape h c (Split q r) p i small below s t f =
    let e : Event = by c (Split q r) in
    let up : 0 < stand shape h q = omega (arith, flying-leaves q c (flights h) f.in_flight) in
    release_turn shape h e q r p i small below refl refl f.set_is (λ g. whole_held shape h q i (s.live q up) (s.whole_page q up) (and_both (nat_lt i (subpages shape)) _ g).0) (λ a. held_still shape h e p i (still_split p q r a))
turn shape h c (Write q a d) p i small below s t f =
    let e : Event = by c (Write q a d) in
    elim (eqb_tells p q) [
      | inl y ↦ same_turn shape h e p i (unsplit_same shape h e p i (ap (is_split h) y.1 ∙ (allowed_write shape h q a d f).2) refl refl refl) refl refl
      | inr y ↦ same_turn shape h e p i (held_still shape h e p i (record { no_maps = λ j. refl; no_unmaps = λ j. refl; no_alloc = refl; no_free = refl; no_split = refl; no_zeroes = λ j. refl; no_writes = λ j. and_no _ _ y.0 })) refl refl
    ]
turn shape h c (Zero q a d) p i small below s t f =
    let e : Event = by c (Zero q a d) in
    elim (eqb_tells p q) [
      | inl y ↦ same_turn shape h e p i (unsplit_same shape h e p i (ap (is_split h) y.1 ∙ (allowed_zero shape h q a d f).2) refl refl refl) refl refl
      | inr y ↦ same_turn shape h e p i (held_still shape h e p i (record { no_maps = λ j. refl; no_unmaps = λ j. refl; no_alloc = refl; no_free = refl; no_split = refl; no_zeroes = λ j. and_no _ _ y.0; no_writes = λ j. refl })) refl refl
    ]
turn shape h c w p i small below s t f =
    let e : Event = by c w in
    same_turn shape h e p i (held_still shape h e p i (record { no_maps = λ j. refl; no_unmaps = λ j. refl; no_alloc = refl; no_free = refl; no_split = refl; no_zeroes = λ j. refl; no_writes = λ j. refl })) refl refl

-- how many pages are numbered below
more_step : (shape : Shape) (h : History) (c : ℕ) (w : What) (p : ℕ) → FitsBy shape h (h ++ by c w ∷ []) c w →
    cond (nat_lt p (allocations (h ++ by c w ∷ []))) 1 0 ≡ cond (nat_lt p (allocations h)) 1 0 + cond (allocates p w) 1 0
more_step shape h c x p f = grind (arith, count_more, nat_lt, nat_eq, nat_tests, count_same)

-- each frame of each page allocated so far is held, or was given back once
record Once (shape : Shape) (h : History) : Type 0 where
  sound : Sound shape h
  numbered : Numbered h
  each : (p i : ℕ) → i < subpages shape → cond (is_held shape h p i) 1 0 + count_of (gives_frame p i) h ≡ cond (nat_lt p (allocations h)) 1 0

-- one more event that fits keeps it
once_push : (shape : Shape) (h : History) (e : Event) → shape.order ≤ 9 → Once shape h → Fits shape h e → Once shape (h ++ e ∷ [])
once_push shape h e small s f = record {
  sound = sound_push shape h e s.sound s.numbered f;
  numbered = numbered_push shape h e s.sound s.numbered f;
  each = λ p i below.
      omega (arith, count_of_push (gives_frame p i) h e, turn shape h e.caller e.what p i small below s.sound s.numbered f, more_step shape h e.caller e.what p f, s.each p i below);
}

-- it holds of the empty history
once_none : (shape : Shape) → Once shape []
unfolding count_of some_event
once_none shape = grind (arith, sound_none, numbered_none, nat_lt, nat_tests)

-- and of every legal history
pub each_frame_once : (shape : Shape) (h : History) → shape.order ≤ 9 → IsLegal shape h → (p i : ℕ) → i < subpages shape →
    cond (is_held shape h p i) 1 0 + count_of (gives_frame p i) h ≡ cond (nat_lt p (allocations h)) 1 0
each_frame_once shape h small l = (legal_all shape (Once shape) (once_none shape) (λ k e s f. once_push shape k e small s f) h l).each
