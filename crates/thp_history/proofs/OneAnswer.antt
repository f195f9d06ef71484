-- The same request, at histories that are equal but for their blocks, has one answer.
use Rattle.std.proofs.Common.{◌≡◌, ℕ, ◌-◌, ◌<◌, Bool, true, false, cond, not, ◌&&◌, ◌||◌, List, [], ◌∷◌, ◌++◌, Some, refl, ap, sym, ◌∙◌, subst, arith, nat_eq, nat_lt, slice_get}
use Rattle.thp_history.specs.Prelude.{Event, Outcome, Freed, Queued, Stays, What, Shape, with_block, SameButBlocks, maps, unmaps, pins_page, unpins_page, allocates, frees, splits, total, pins, is_held, released, outcome, History, by, count_of, some_event, FitsBy, Gives, is_dropped, asked, subpages, shrinks_underused, zeroes, writes, is_zero_filled, is_worth_split}
use Rattle.thp_history.specs.declared.events.What.TheVariants.{Alloc, MapWhole, UnmapWhole, MapSub, UnmapSub, SplitPmd, Pin, Unpin, Write, Zero, Taken, Split, Used, Back, Dropped, Close}
use Rattle.thp_history.specs.declared.events.What.TheVariants.{Pinned}
use Rattle.thp_history.proofs.Alike.{Blind, count_alike, some_alike, maps_blind, unmaps_blind, pin_blind, unpin_blind, allocates_blind, frees_blind, splits_blind, alike, Alike, held-by, held_alike, worth_alike, dropped_alike, stands_alike, flight_alike}
use Rattle.thp_history.proofs.Below.{some_below-ext}
use Rattle.thp_history.proofs.Pushes.{count_of_push, some_event_push, is_zero_filled_push}
use Rattle.thp_history.proofs.WordLemmas.{set_of-ext}

-- as many events pass a blind test after two events that it does not distinguish
count_one : (test : What → Bool) → Blind test → (h k : History) (e f : Event) → SameButBlocks h k → test e.what ≡ test f.what → count_of test (h ++ e ∷ []) ≡ count_of test (k ++ f ∷ [])
count_one test b h k e f s t = grind (arith, count_of_push, count_alike)

-- and some does in both or in neither
some_one : (test : What → Bool) → Blind test → (h k : History) (e f : Event) → SameButBlocks h k → test e.what ≡ test f.what → some_event test (h ++ e ∷ []) ≡ some_event test (k ++ f ∷ [])
some_one test b h k e f s t = grind (arith, some_event_push, some_alike)

-- differences of equal numbers
less : (a a' t t' : ℕ) → a ≡ a' → t ≡ t' → a - t ≡ a' - t'
less a a' t t' e f = cc

-- one but not the other
both : (a a' f f' : Bool) → a ≡ a' → f ≡ f' → (a && not f) ≡ (a' && not f')
both a a' f f' e g = cc

-- two events that change the counts of page p alike
record Match (p : ℕ) (v w : What) : Type 0 where
  maps_both : (i : ℕ) → maps p i v ≡ maps p i w
  unmaps_both : (i : ℕ) → unmaps p i v ≡ unmaps p i w
  pin : pins_page p v ≡ pins_page p w
  unpin : unpins_page p v ≡ unpins_page p w
  zeroes_both : (i : ℕ) → zeroes p i v ≡ zeroes p i w
  writes_both : (i : ℕ) → writes p i v ≡ writes p i w

module _ (shape : Shape) (h k : History) (e f : Event) (s : SameButBlocks h k) (p : ℕ) (m : Match p e.what f.what) where
  total_one : (i : ℕ) → total (h ++ e ∷ []) p i ≡ total (k ++ f ∷ []) p i
  total_one i = less _ _ _ _ (count_one (maps p i) (maps_blind p i) h k e f s (m.maps_both i)) (count_one (unmaps p i) (unmaps_blind p i) h k e f s (m.unmaps_both i))

  pins_one : pins (h ++ e ∷ []) p ≡ pins (k ++ f ∷ []) p
  pins_one = less _ _ _ _ (count_one (pins_page p) (pin_blind p) h k e f s m.pin) (count_one (unpins_page p) (unpin_blind p) h k e f s m.unpin)

  zero_one : (i : ℕ) → is_zero_filled (h ++ e ∷ []) p i ≡ is_zero_filled (k ++ f ∷ []) p i
  zero_one i =
      is_zero_filled_push p i h e ∙ parts _ _ _ _ _ _ (m.zeroes_both i) ((alike h k s).zero p i) (m.writes_both i) ∙ sym (is_zero_filled_push p i k f) where
        parts : (a a' b b' d d' : Bool) → a ≡ a' → b ≡ b' → d ≡ d' → (a || (b && not d)) ≡ (a' || (b' && not d'))
        parts a a' b b' d d' e f g = cc

  outcome_one : outcome shape h (h ++ e ∷ []) p ≡ outcome shape k (k ++ f ∷ []) p
  outcome_one =
      let a : Alike h k = alike h k s in
      parts _ _ _ _ _ _ _ _ _ _ _ _
      (some_below-ext (subpages shape) _ _ (λ i l. ap (λ t. nat_lt 0 t) (total_one i))) pins_one (a.split p)
      (some_below-ext (subpages shape) _ _ (λ i l. pair _ _ _ _ (a.total p i) (total_one i))) a.closed (stands_alike shape h k a p) where
        pair : (t t' u u' : ℕ) → t ≡ t' → u ≡ u' → (nat_lt 0 t && nat_eq u 0) ≡ (nat_lt 0 t' && nat_eq u' 0)
        pair t t' u u' e f = cc

        parts : (y y' : Bool) (m m' : ℕ) (s s' x x' c c' t t' : Bool) → y ≡ y' → m ≡ m' → s ≡ s' → x ≡ x' → c ≡ c' → t ≡ t' →
            cond (not y && nat_eq m 0) Freed (cond (not s && (x && (y && (not c && not t)))) Queued Stays)
            ≡ cond (not y' && nat_eq m' 0) Freed (cond (not s' && (x' && (y' && (not c' && not t')))) Queued Stays)
        parts y y' m m' s s' x x' c c' t t' e f g i j l = cc

  released_one : allocates p e.what ≡ allocates p f.what → frees p e.what ≡ frees p f.what → splits p e.what ≡ splits p f.what → released shape h (h ++ e ∷ []) p ≡ released shape k (k ++ f ∷ []) p
  released_one x y z = set_of-ext _ _ (λ i l. both (is_held shape h p i) _ (is_held shape (h ++ e ∷ []) p i) _ (held_alike shape h k (alike h k s) p i) (after i)) where
    after : (i : ℕ) → is_held shape (h ++ e ∷ []) p i ≡ is_held shape (k ++ f ∷ []) p i
    after i =
        held-by (nat_lt i (subpages shape)) (shrinks_underused shape) _ _ _ _ _ _ _ _ (both _ _ _ _ (some_one (allocates p) (allocates_blind p) h k e f s x) (some_one (frees p) (frees_blind p) h k e f s y))
        (some_one (splits p) (splits_blind p) h k e f s z) (total_one i) (zero_one i)

  -- of an unmap or an unpin
  gives_one : (q : ℕ) (o u : Outcome) (r t : List Bool) → p ≡ q → allocates p e.what ≡ allocates p f.what → splits p e.what ≡ splits p f.what → (o ≡ u → frees p e.what ≡ frees p f.what) →
      Gives shape h (h ++ e ∷ []) p o r → Gives shape k (k ++ f ∷ []) q u t → (o ≡ u) × (r ≡ t)
  gives_one q o u r t same x z y g j =
      let P : ℕ → Type 0 = λ d. Gives shape k (k ++ f ∷ []) d u t in
      let j' : Gives shape k (k ++ f ∷ []) p u t = subst P (sym same) j in
      let one : o ≡ u = g.outcome_is ∙ outcome_one ∙ sym j'.outcome_is in
      (one, g.set_is ∙ released_one x (y one) z ∙ sym j'.set_is)

-- the first of equal lists
first_one : (q q' : List ℕ) (p p' : ℕ) → q ≡ q' → slice_get q 0 ≡ Some p → slice_get q' 0 ≡ Some p' → p ≡ p'
first_one q q' p p' e f g = cc

-- a number that is 0 and isn't
never : (m m' p p' : ℕ) → m ≡ m' → m ≡ 0 → 0 < m' → ⊥
never m m' p p' e f g = omega arith

-- a page that goes back to the queue isn't dropped
no_return : (b x d : Bool) → b ≡ false → x ≡ true → (b || not x) ≡ d → d ≡ true → ⊥
no_return y x d e f g h = grind arith

-- the same request has one answer, but for its block
pub one_answer : (shape : Shape) (h k : History) (c : ℕ) (v w : What) → SameButBlocks h k → asked v ≡ asked w →
    FitsBy shape h (h ++ by c v ∷ []) c v → FitsBy shape k (k ++ by c w ∷ []) c w → with_block 0 v ≡ with_block 0 w
one_answer shape h k c (Alloc p b) (Alloc q d) s e f g = ap (λ x. Alloc x 0) (f.number ∙ (alike h k s).allocations ∙ sym g.number)
one_answer shape h k c (UnmapWhole o p r) (UnmapWhole u q t) s e f g =
    let same : p ≡ q = cc in
    let one : (o ≡ u) × (r ≡ t) = gives_one shape h k (by c (UnmapWhole o p r)) (by c (UnmapWhole u q t)) s p
    (record { maps_both = λ i. refl; unmaps_both = λ i. ap (λ x. nat_eq p x) same; pin = refl; unpin = refl; zeroes_both = λ i. refl; writes_both = λ i. refl }) q o u r t same refl refl (λ y. cc) f.1 g.1 in cc
one_answer shape h k c (UnmapSub o p a m r) (UnmapSub u q b l t) s e f g =
    let same : p ≡ q = cc in
    let one : (o ≡ u) × (r ≡ t) = gives_one shape h k (by c (UnmapSub o p a m r)) (by c (UnmapSub u q b l t)) s p
    (record { maps_both = λ i. refl; unmaps_both = λ i. cc; pin = refl; unpin = refl; zeroes_both = λ i. refl; writes_both = λ i. refl }) q o u r t same refl refl (λ y. cc) f.1 g.1 in cc
one_answer shape h k c (Unpin o p r) (Unpin u q t) s e f g =
    let same : p ≡ q = cc in
    let one : (o ≡ u) × (r ≡ t) = gives_one shape h k (by c (Unpin o p r)) (by c (Unpin u q t)) s p
    (record { maps_both = λ i. refl; unmaps_both = λ i. refl; pin = refl; unpin = ap (λ x. nat_eq p x) same; zeroes_both = λ i. refl; writes_both = λ i. refl }) q o u r t same refl refl (λ y. cc) f.1 g.1 in cc
one_answer shape h k c (Taken p) (Taken q) s e f g = ap (λ x. Taken x) (first_one _ _ p q ((alike h k s).queue shape) f.oldest g.oldest)
one_answer shape h k c (Split p r) (Split q t) s e f g =
    let same : p ≡ q = cc in
    let P : ℕ → Type 0 = λ x. t ≡ released shape k (k ++ by c (Split q t) ∷ []) x in
    let set : r ≡ t = f.set_is ∙ released_one shape h k (by c (Split p r)) (by c (Split q t)) s p
    (record { maps_both = λ i. refl; unmaps_both = λ i. refl; pin = refl; unpin = refl; zeroes_both = λ i. refl; writes_both = λ i. refl }) refl refl (ap (λ x. nat_eq p x) same) ∙ sym (subst P (sym same) g.set_is) in cc
one_answer shape h k c (Split p r) (Pinned q) s e f g =
    let same : p ≡ q = cc in absurd (never _ _ p q ((alike h k s).pins p ∙ ap (pins k) same) f.unpinned g.1)
one_answer shape h k c (Pinned p) (Split q r) s e f g =
    let same : p ≡ q = cc in absurd (never _ _ p q (sym ((alike h k s).pins p ∙ ap (pins k) same)) g.unpinned f.1)
one_answer shape h k c (Back p) (Back q) s e f g = ap (λ x. Back x) (first_one _ _ p q (flight_alike shape h k (alike h k s) c) f.0 g.0)
one_answer shape h k c (Dropped p) (Dropped q) s e f g = ap (λ x. Dropped x) (first_one _ _ p q (flight_alike shape h k (alike h k s) c) f.0 g.0)
one_answer shape h k c (Back p) (Dropped q) s e f g =
    let same : p ≡ q = first_one _ _ p q (flight_alike shape h k (alike h k s) c) f.0 g.0 in
    absurd (no_return _ _ _ f.1 f.2 (dropped_alike shape h k (alike h k s) p ∙ ap (is_dropped shape k) same) g.1)
one_answer shape h k c (Dropped p) (Back q) s e f g =
    let same : p ≡ q = first_one _ _ p q (flight_alike shape h k (alike h k s) c) f.0 g.0 in
    absurd (no_return _ _ _ g.1 g.2 (ap (is_dropped shape k) (sym same) ∙ sym (dropped_alike shape h k (alike h k s) p)) f.1)
one_answer shape h k c (Used p) (Split q r) s e f g =
    let same : p ≡ q = cc in absurd (let y : false ≡ true = sym f.1 ∙ worth_alike shape h k (alike h k s) p ∙ ap (is_worth_split shape k) same ∙ g.worth in cc)
one_answer shape h k c (Split p r) (Used q) s e f g =
    let same : p ≡ q = cc in absurd (let y : true ≡ false = sym f.worth ∙ worth_alike shape h k (alike h k s) p ∙ ap (is_worth_split shape k) same ∙ g.1 in cc)
one_answer shape h k c (Used p) (Pinned q) s e f g =
    let same : p ≡ q = cc in absurd (let y : false ≡ true = sym f.1 ∙ worth_alike shape h k (alike h k s) p ∙ ap (is_worth_split shape k) same ∙ g.2 in cc)
one_answer shape h k c (Pinned p) (Used q) s e f g =
    let same : p ≡ q = cc in absurd (let y : true ≡ false = sym f.2 ∙ worth_alike shape h k (alike h k s) p ∙ ap (is_worth_split shape k) same ∙ g.1 in cc)
one_answer shape h k c (Used p) (Used q) s e f g = cc
one_answer shape h k c (Write p a m) (Write q b l) s e f g = cc
one_answer shape h k c (Zero p a m) (Zero q b l) s e f g = cc
one_answer shape h k c (MapWhole p) (MapWhole q) s e f g = cc
one_answer shape h k c (MapSub p a m) (MapSub q b l) s e f g = cc
one_answer shape h k c (SplitPmd p) (SplitPmd q) s e f g = cc
one_answer shape h k c (Pin p) (Pin q) s e f g = cc
one_answer shape h k c (Pinned p) (Pinned q) s e f g = cc
one_answer shape h k c Close Close s e f g = cc
one_answer shape h k c v w s e f g = cc
