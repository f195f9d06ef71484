-- Histories that are equal but for their blocks say the same of all else.
use Rattle.std.proofs.Common.{◌≡◌, ℕ, ◌+◌, ◌-◌, ◌<◌, Bool, true, false, cond, not, ◌&&◌, ◌||◌, List, [], ◌∷◌, ◌++◌, Option, Some, None, map, refl, ap, ap₂, sym, ◌∙◌, arith, nat_eq, nat_lt, slice_get}
use Rattle.std.specs.List.{fold, filter}
use Rattle.std.proofs.lemmas.List.{map-append}
use Rattle.thp_history.specs.Prelude.{Event, Outcome, Freed, Queued, Stays, What, Refusal, NoPage, BadRange, IsSplit, NotMapped, Gone, NotPinned, TooMany, Closed, Shape, with_block, event_with, without_blocks, SameButBlocks, maps, unmaps, maps_whole, unmaps_whole, pins_page, unpins_page, is_alloc, allocates, frees, splits, closes, total, whole, pins, is_live, is_split, is_closed, allocations, shrinks_underused, zero_after, is_zero_filled, unmaps_some, unmaps_part, add_unmap, is_partly_mapped, is_worth_split, is_held, released, outcome, History, count_of, some_event, FitsBy, Gives, is_dropped, queue, queue_after, flights, flights_after, flight, is_taking, takes_by, stands, has_page, no_pages, refusal, most, covers, subpages}
use Rattle.thp_history.specs.declared.events.What.TheVariants.{Alloc, MapWhole, UnmapWhole, MapSub, UnmapSub, SplitPmd, Pin, Unpin, Write, Zero, Taken, Split, Used, Back, Dropped, Close}
use Rattle.thp_history.specs.declared.events.What.TheVariants.{Pinned}
use Rattle.thp_history.specs.Refusals as call
use Rattle.thp_history.proofs.Below.{some_below-ext}
use Rattle.thp_history.proofs.Counting.{count-cons}
use Rattle.thp_history.proofs.SumsBelow.{sum_below-ext}
use Rattle.thp_history.proofs.WordLemmas.{set_of-ext}

-- a test that doesn't look at the block
abbrev pub Blind : (What → Bool) → Type 0
Blind test = (w : What) → test (with_block 0 w) ≡ test w

-- a blind test counts as many events once the blocks are taken out
count_bare : (test : What → Bool) → Blind test → (h : History) → count_of test (without_blocks h) ≡ count_of test h
unfolding count_of without_blocks
count_bare test s [] = refl
count_bare test s (e ∷ h) =
    count-cons (λ (x : Event). test x.what) (event_with 0 e) (without_blocks h) ∙ ap (λ b. cond b 1 0 + count_of test (without_blocks h)) (s e.what)
    ∙ ap (λ m. cond (test e.what) 1 0 + m) (count_bare test s h) ∙ sym (count-cons (λ (x : Event). test x.what) e h)

-- and some event passes it then exactly where one did
some_bare : (test : What → Bool) → Blind test → (h : History) → some_event test (without_blocks h) ≡ some_event test h
unfolding some_event without_blocks
some_bare test s [] = refl
some_bare test s (e ∷ h) = ap (λ b. b || some_event test (without_blocks h)) (s e.what) ∙ ap (λ b. test e.what || b) (some_bare test s h)

-- a fold by steps that are blind to blocks comes to the same
pub fold_bare : {S : Type 0} (f : S → Event → S) → ((s : S) (e : Event) → f s (event_with 0 e) ≡ f s e) → (s : S) (h : History) → fold f s (without_blocks h) ≡ fold f s h
unfolding without_blocks
fold_bare f g s [] = refl
fold_bare f g s (e ∷ h) = ap (λ t. fold f t (without_blocks h)) (g s e) ∙ fold_bare f g (f s e) h

-- no count and no state of a page looks at the block
pub maps_blind : (p i : ℕ) → Blind (maps p i)
maps_blind p i x = grind arith

-- the same of mappings taken away
pub unmaps_blind : (p i : ℕ) → Blind (unmaps p i)
unmaps_blind p i x = grind arith

-- the same of whole mappings
maps_whole_blind : (p : ℕ) → Blind (maps_whole p)
maps_whole_blind p x = grind arith

-- the same of whole mappings taken away
unmaps_whole_blind : (p : ℕ) → Blind (unmaps_whole p)
unmaps_whole_blind p x = grind arith

-- the same of pins
pub pin_blind : (p : ℕ) → Blind (pins_page p)
pin_blind p x = grind arith

-- the same of pins taken away
pub unpin_blind : (p : ℕ) → Blind (unpins_page p)
unpin_blind p x = grind arith

-- the same of allocations
alloc_blind : Blind is_alloc
alloc_blind x = grind arith

-- the same of the allocation of one page
pub allocates_blind : (p : ℕ) → Blind (allocates p)
allocates_blind p x = grind arith

-- the same of what frees a page
pub frees_blind : (p : ℕ) → Blind (frees p)
frees_blind p x = grind arith

-- the same of splits
pub splits_blind : (p : ℕ) → Blind (splits p)
splits_blind p x = grind arith

-- the same of closes
closes_blind : Blind closes
closes_blind x = grind arith

-- the queue doesn't look at the block
queue_blind : (shape : Shape) (ps : List ℕ) (w : What) → queue_after shape ps (with_block 0 w) ≡ queue_after shape ps w
queue_blind shape ps x = grind arith

-- nor does what is zero-filled
zero_blind : (p i : ℕ) (b : Bool) (w : What) → zero_after p i b (with_block 0 w) ≡ zero_after p i b w
zero_blind p i b x = grind arith

-- nor does an unmap
unmaps_some_blind : (p : ℕ) → Blind (unmaps_some p)
unmaps_some_blind p x = grind arith

-- nor do the flights
flights_blind : (fs : List (ℕ × ℕ)) (c : ℕ) (w : What) → flights_after fs c (with_block 0 w) ≡ flights_after fs c w
flights_blind fs c x = grind arith

-- nor does it matter for the last take
taking_blind : (c d : ℕ) (w : What) → takes_by c d (with_block 0 w) ≡ takes_by c d w
taking_blind c d x = grind arith

-- what two histories say alike
pub record Alike (h k : History) : Type 0 where
  pub total : (p i : ℕ) → total h p i ≡ total k p i
  pub whole : (p : ℕ) → whole h p ≡ whole k p
  pub pins : (p : ℕ) → pins h p ≡ pins k p
  pub live : (p : ℕ) → is_live h p ≡ is_live k p
  pub split : (p : ℕ) → is_split h p ≡ is_split k p
  pub closed : is_closed h ≡ is_closed k
  pub queue : (shape : Shape) → queue shape h ≡ queue shape k
  pub flights : flights h ≡ flights k
  pub taking : (c : ℕ) → is_taking h c ≡ is_taking k c
  pub allocations : allocations h ≡ allocations k
  pub zero : (p i : ℕ) → is_zero_filled h p i ≡ is_zero_filled k p i
  pub partly : (shape : Shape) (p : ℕ) → is_partly_mapped shape h p ≡ is_partly_mapped shape k p

-- a blind test counts as many in both histories
pub count_alike : (test : What → Bool) → Blind test → (h k : History) → SameButBlocks h k → count_of test h ≡ count_of test k
count_alike test s h k e = sym (count_bare test s h) ∙ ap (count_of test) e ∙ count_bare test s k

-- some event passes it in both or in neither
pub some_alike : (test : What → Bool) → Blind test → (h k : History) → SameButBlocks h k → some_event test h ≡ some_event test k
some_alike test s h k e = sym (some_bare test s h) ∙ ap (some_event test) e ∙ some_bare test s k

-- a blind fold comes to the same in both
pub fold_alike : {S : Type 0} (f : S → Event → S) → ((s : S) (e : Event) → f s (event_with 0 e) ≡ f s e) → (s : S) (h k : History) → SameButBlocks h k → fold f s h ≡ fold f s k
fold_alike f g s h k e = sym (fold_bare f g s h) ∙ ap (λ x. fold f s x) e ∙ fold_bare f g s k

-- both have one queue
queue_alike : (shape : Shape) (h k : History) → SameButBlocks h k → queue shape h ≡ queue shape k
unfolding queue
queue_alike shape h k e = fold_alike (λ ps (e : Event). queue_after shape ps e.what) (λ ps x. queue_blind shape ps x.what) [] h k e

-- both have the same flights
flights_alike : (h k : History) → SameButBlocks h k → flights h ≡ flights k
unfolding flights
flights_alike h k e = fold_alike (λ fs (e : Event). flights_after fs e.caller e.what) (λ fs x. flights_blind fs x.caller x.what) [] h k e

-- both end in a take by the same caller, or in none
taking_alike : (c : ℕ) (h k : History) → SameButBlocks h k → is_taking h c ≡ is_taking k c
unfolding is_taking
taking_alike c h k e = fold_alike (λ before (e : Event). takes_by c e.caller e.what) (λ before x. taking_blind c x.caller x.what) false h k e

-- both say alike what is zero-filled
zero_alike : (p i : ℕ) (h k : History) → SameButBlocks h k → is_zero_filled h p i ≡ is_zero_filled k p i
unfolding is_zero_filled
zero_alike p i h k e = fold_alike (λ b (e : Event). zero_after p i b e.what) (λ b x. zero_blind p i b x.what) true h k e

-- both have the same totals
total_alike : (p i : ℕ) (h k : History) → SameButBlocks h k → total h p i ≡ total k p i
total_alike p i h k e = ap₂ (λ a b. a - b) (count_alike (maps p i) (maps_blind p i) h k e) (count_alike (unmaps p i) (unmaps_blind p i) h k e)

-- one more event of both, without its block in one of them
same_step : (k h : History) (e : Event) → SameButBlocks k h → SameButBlocks (k ++ event_with 0 e ∷ []) (h ++ e ∷ [])
unfolding without_blocks
same_step k h e s = grind (arith, map-append)

-- an event unmaps a part of a page at both or at neither
part_alike : (shape : Shape) (p : ℕ) (k h : History) (e : Event) → SameButBlocks k h → unmaps_part shape p k (event_with 0 e) ≡ unmaps_part shape p h e
part_alike shape p k h e s =
    let more : SameButBlocks (k ++ event_with 0 e ∷ []) (h ++ e ∷ []) = same_step k h e s in
    let now : (i : ℕ) → total (k ++ event_with 0 e ∷ []) p i ≡ total (h ++ e ∷ []) p i = λ i. total_alike p i _ _ more in
    parts _ _ _ _ _ _ (unmaps_some_blind p e.what)
    (some_below-ext (subpages shape) _ _ (λ i l. ap₂ (λ a b. nat_lt 0 a && nat_eq b 0) (total_alike p i k h s) (now i)))
    (some_below-ext (subpages shape) _ _ (λ i l. ap (λ t. nat_lt 0 t) (now i))) where
      parts : (a a' b b' d d' : Bool) → a ≡ a' → b ≡ b' → d ≡ d' → (a && (b && d)) ≡ (a' && (b' && d'))
      parts a a' b b' d d' e f g = cc

-- so their pages are partly mapped alike, along the histories
partly_run : (shape : Shape) (p : ℕ) (s t : History × Bool) (h : History) → SameButBlocks s.0 t.0 → s.1 ≡ t.1 →
    (fold (add_unmap shape p) s (without_blocks h)).1 ≡ (fold (add_unmap shape p) t h).1
unfolding without_blocks
partly_run shape p s t [] e f = f
partly_run shape p s t (x ∷ h) e f =
    partly_run shape p (s.0 ++ event_with 0 x ∷ [], s.1 || unmaps_part shape p s.0 (event_with 0 x)) (t.0 ++ x ∷ [], t.1 || unmaps_part shape p t.0 x) h (same_step s.0 t.0 x e)
    (ap₂ (λ a b. a || b) f (part_alike shape p s.0 t.0 x e))

-- a history without its blocks says the same of its pages
partly_bare : (shape : Shape) (p : ℕ) (h : History) → is_partly_mapped shape (without_blocks h) p ≡ is_partly_mapped shape h p
unfolding is_partly_mapped
partly_bare shape p h = partly_run shape p ([], false) ([], false) h refl refl

-- and at their ends
partly_alike : (shape : Shape) (p : ℕ) (h k : History) → SameButBlocks h k → is_partly_mapped shape h p ≡ is_partly_mapped shape k p
partly_alike shape p h k e = sym (partly_bare shape p h) ∙ ap (λ x. is_partly_mapped shape x p) e ∙ partly_bare shape p k

-- histories that are equal but for their blocks say all else alike
pub alike : (h k : History) → SameButBlocks h k → Alike h k
alike h k e =
    let split = λ (p : ℕ). some_alike (splits p) (splits_blind p) h k e in
    record {
      total = λ p i. total_alike p i h k e;
      whole = λ p. choose _ _ _ _ _ _ (split p) (count_alike (maps_whole p) (maps_whole_blind p) h k e) (count_alike (unmaps_whole p) (unmaps_whole_blind p) h k e);
      pins = λ p. less _ _ _ _ (count_alike (pins_page p) (pin_blind p) h k e) (count_alike (unpins_page p) (unpin_blind p) h k e);
      live = λ p. both _ _ _ _ (some_alike (allocates p) (allocates_blind p) h k e) (some_alike (frees p) (frees_blind p) h k e);
      split = split;
      closed = some_alike closes closes_blind h k e;
      queue = λ shape. queue_alike shape h k e;
      flights = flights_alike h k e;
      taking = λ c. taking_alike c h k e;
      allocations = count_alike is_alloc alloc_blind h k e;
      zero = λ p i. zero_alike p i h k e;
      partly = λ shape p. partly_alike shape p h k e;
    } where
      less : (a a' t t' : ℕ) → a ≡ a' → t ≡ t' → a - t ≡ a' - t'
      less a a' t t' e f = cc

      choose : (b b' : Bool) (a a' t t' : ℕ) → b ≡ b' → a ≡ a' → t ≡ t' → cond b 0 (a - t) ≡ cond b' 0 (a' - t')
      choose b b' a a' t t' e f g = cc

      both : (a a' f f' : Bool) → a ≡ a' → f ≡ f' → (a && not f) ≡ (a' && not f')
      both a a' f f' e g = cc

-- a frame is held by these parts
pub held-by : (x on l l' s s' z z' : Bool) (t t' : ℕ) → l ≡ l' → s ≡ s' → t ≡ t' → z ≡ z' →
    (x && (l && (not s || ((l && nat_lt 0 t) && not (on && z))))) ≡ (x && (l' && (not s' || ((l' && nat_lt 0 t') && not (on && z')))))
held-by x on l l' s s' z z' t t' e f g h = cc

-- the refusals
one : (b b' : Bool) (x : Refusal) → b ≡ b' → cond b (Some x) None ≡ cond b' (Some x) None
one b b' x e = cc

-- a test before others
more : (b b' : Bool) (x : Refusal) (r r' : Option Refusal) → b ≡ b' → r ≡ r' → cond b (Some x) r ≡ cond b' (Some x) r'
more b b' x r r' e f = cc

module _ (shape : Shape) (h k : History) (a : Alike h k) where
  live_not : (p : ℕ) → not (is_live h p) ≡ not (is_live k p)
  live_not p = ap not (a.live p)

  pub held_alike : (p i : ℕ) → is_held shape h p i ≡ is_held shape k p i
  held_alike p i = held-by (nat_lt i (subpages shape)) (shrinks_underused shape) _ _ _ _ _ _ _ _ (a.live p) (a.split p) (a.total p i) (a.zero p i)

  pub worth_alike : (p : ℕ) → is_worth_split shape h p ≡ is_worth_split shape k p
  worth_alike p = grind (arith, sum_below-ext)

  pub dropped_alike : (p : ℕ) → is_dropped shape h p ≡ is_dropped shape k p
  dropped_alike p = ap₂ (λ x y. x || not y) a.closed (a.partly shape p)

  write_alike : (p f c : ℕ) → refusal shape h (call.write p f c) ≡ refusal shape k (call.write p f c)
  unfolding refusal
  write_alike p f c =
      more _ _ NoPage _ _ (live_not p)
      (more _ _ BadRange _ _ refl
      (more _ _ IsSplit _ _ (a.split p)
      (one _ _ NotMapped (some_below-ext (subpages shape) _ _ (λ i b. ap (λ t. covers f c i && nat_eq t 0) (a.total p i))))))

  zero_fill_alike : (p f c : ℕ) → refusal shape h (call.zero_fill p f c) ≡ refusal shape k (call.zero_fill p f c)
  unfolding refusal
  zero_fill_alike p f c =
      more _ _ NoPage _ _ (live_not p)
      (more _ _ BadRange _ _ refl
      (more _ _ IsSplit _ _ (a.split p)
      (one _ _ NotMapped (some_below-ext (subpages shape) _ _ (λ i b. ap (λ t. covers f c i && nat_eq t 0) (a.total p i))))))

  map_whole_alike : (p : ℕ) → refusal shape h (call.map_whole p) ≡ refusal shape k (call.map_whole p)
  unfolding refusal
  map_whole_alike p =
      more _ _ NoPage _ _ (live_not p) (more _ _ IsSplit _ _ (a.split p) (one _ _ TooMany (some_below-ext (subpages shape) _ _ (λ i b. ap (λ t. nat_eq t most) (a.total p i)))))

  unmap_whole_alike : (p : ℕ) → refusal shape h (call.unmap_whole p) ≡ refusal shape k (call.unmap_whole p)
  unfolding refusal
  unmap_whole_alike p = more _ _ NoPage _ _ (live_not p) (more _ _ IsSplit _ _ (a.split p) (one _ _ NotMapped (ap (λ t. nat_eq t 0) (a.whole p))))

  map_sub_alike : (p f c : ℕ) → refusal shape h (call.map_sub p f c) ≡ refusal shape k (call.map_sub p f c)
  unfolding refusal
  map_sub_alike p f c =
      more _ _ NoPage _ _ (live_not p)
      (more _ _ BadRange _ _ refl
      (more _ _ Gone _ _ (and _ _ _ _ (a.split p) (some_below-ext (subpages shape) _ _ (λ i b. ap (λ v. covers f c i && not v) (held_alike p i))))
      (one _ _ TooMany (some_below-ext (subpages shape) _ _ (λ i b. ap (λ t. covers f c i && nat_eq t most) (a.total p i)))))) where
        and : (b b' d d' : Bool) → b ≡ b' → d ≡ d' → (b && d) ≡ (b' && d')
        and b b' d d' e f = cc

  unmap_sub_alike : (p f c : ℕ) → refusal shape h (call.unmap_sub p f c) ≡ refusal shape k (call.unmap_sub p f c)
  unfolding refusal
  unmap_sub_alike p f c =
      more _ _ NoPage _ _ (live_not p)
      (more _ _ BadRange _ _ refl
      (one _ _ NotMapped (some_below-ext (subpages shape) _ _ (λ i b. own_of (covers f c i) _ _ _ _ (a.total p i) (a.whole p))))) where
        own_of : (b : Bool) (t t' w w' : ℕ) → t ≡ t' → w ≡ w' → (b && nat_eq (t - w) 0) ≡ (b && nat_eq (t' - w') 0)
        own_of b t t' w w' e f = cc

  split_pmd_alike : (p : ℕ) → refusal shape h (call.split_pmd p) ≡ refusal shape k (call.split_pmd p)
  unfolding refusal
  split_pmd_alike p = more _ _ NoPage _ _ (live_not p) (more _ _ IsSplit _ _ (a.split p) (one _ _ NotMapped (ap (λ t. nat_eq t 0) (a.whole p))))

  pin_alike : (p : ℕ) → refusal shape h (call.pin p) ≡ refusal shape k (call.pin p)
  unfolding refusal
  pin_alike p = more _ _ NoPage _ _ (live_not p) (more _ _ IsSplit _ _ (a.split p) (one _ _ TooMany (ap (λ t. nat_eq t most) (a.pins p))))

  unpin_alike : (p : ℕ) → refusal shape h (call.unpin p) ≡ refusal shape k (call.unpin p)
  unfolding refusal
  unpin_alike p = more _ _ NoPage _ _ (live_not p) (more _ _ IsSplit _ _ (a.split p) (one _ _ NotPinned (ap (λ t. nat_eq t 0) (a.pins p))))

  close_alike : refusal shape h call.close ≡ refusal shape k call.close
  unfolding refusal
  close_alike = one _ _ Closed a.closed

  pub stands_alike : (p : ℕ) → stands shape h p ≡ stands shape k p
  stands_alike p = grind (arith, nat_eq)

  pub flight_alike : (c : ℕ) → flight h c ≡ flight k c
  flight_alike c = ap (λ fs. map (λ (f : ℕ × ℕ). f.1) (filter (λ (f : ℕ × ℕ). nat_eq f.0 c) fs)) a.flights

  module _ (h' k' : History) (b : Alike h' k') where
    outcome_alike : (p : ℕ) → outcome shape h h' p ≡ outcome shape k k' p
    outcome_alike p =
        parts _ _ _ _ _ _ _ _ _ _ _ _
        (some_below-ext (subpages shape) _ _ (λ i l. ap (λ t. nat_lt 0 t) (b.total p i))) (b.pins p) (a.split p)
        (some_below-ext (subpages shape) _ _ (λ i l. pair _ _ _ _ (a.total p i) (b.total p i))) a.closed (stands_alike p) where
          pair : (t t' u u' : ℕ) → t ≡ t' → u ≡ u' → (nat_lt 0 t && nat_eq u 0) ≡ (nat_lt 0 t' && nat_eq u' 0)
          pair t t' u u' e f = cc

          parts : (y y' : Bool) (m m' : ℕ) (s s' x x' c c' t t' : Bool) → y ≡ y' → m ≡ m' → s ≡ s' → x ≡ x' → c ≡ c' → t ≡ t' →
              cond (not y && nat_eq m 0) Freed (cond (not s && (x && (y && (not c && not t)))) Queued Stays)
              ≡ cond (not y' && nat_eq m' 0) Freed (cond (not s' && (x' && (y' && (not c' && not t')))) Queued Stays)
          parts y y' m m' s s' x x' c c' t t' e f g i j l = cc

    released_alike : (p : ℕ) → released shape h h' p ≡ released shape k k' p
    released_alike p = set_of-ext _ _ (λ i l. and (is_held shape h p i) _ (is_held shape h' p i) _ (held_alike p i) (held_after i)) where
      and : (b b' d d' : Bool) → b ≡ b' → d ≡ d' → (b && not d) ≡ (b' && not d')
      and b b' d d' e f = cc

      held_after : (i : ℕ) → is_held shape h' p i ≡ is_held shape k' p i
      held_after i = held-by (nat_lt i (subpages shape)) (shrinks_underused shape) _ _ _ _ _ _ _ _ (b.live p) (b.split p) (b.total p i) (b.zero p i)

    gives_alike : (p : ℕ) (o : Outcome) (r : List Bool) → Gives shape h h' p o r → Gives shape k k' p o r
    gives_alike p o r g = record { outcome_is = g.outcome_is ∙ outcome_alike p; set_is = g.set_is ∙ released_alike p }

    -- whether an event that isn't an `Alloc` fits
    pub fits_alike : (c : ℕ) (w : What) → is_alloc w ≡ false → FitsBy shape h h' c w → FitsBy shape k k' c w
    fits_alike c (Alloc p x) e f = absurd (cc)
    fits_alike c (MapWhole p) e f = sym (map_whole_alike p) ∙ f
    fits_alike c (UnmapWhole o p r) e f = (sym (unmap_whole_alike p) ∙ f.0, gives_alike p o r f.1)
    fits_alike c (MapSub p x m) e f = sym (map_sub_alike p x m) ∙ f
    fits_alike c (UnmapSub o p x m r) e f = (sym (unmap_sub_alike p x m) ∙ f.0, gives_alike p o r f.1)
    fits_alike c (SplitPmd p) e f = sym (split_pmd_alike p) ∙ f
    fits_alike c (Pin p) e f = sym (pin_alike p) ∙ f
    fits_alike c (Unpin o p r) e f = (sym (unpin_alike p) ∙ f.0, gives_alike p o r f.1)
    fits_alike c (Write p x m) e f = sym (write_alike p x m) ∙ f
    fits_alike c (Zero p x m) e f = sym (zero_fill_alike p x m) ∙ f
    fits_alike c (Taken p) e f =
        record { oldest = ap (λ q. slice_get q 0) (sym (a.queue shape)) ∙ f.oldest; may_take = sym (or _ _ _ _ (ap no_pages (flight_alike c)) (a.taking c)) ∙ f.may_take } where
          or : (b b' d d' : Bool) → b ≡ b' → d ≡ d' → (b || d) ≡ (b' || d')
          or b b' d d' e f = cc
    fits_alike c (Split p r) e f = record { in_flight = ap (λ q. has_page p q) (sym (flight_alike c)) ∙ f.in_flight; worth = sym (worth_alike p) ∙ f.worth; unpinned = sym (a.pins p) ∙ f.unpinned; set_is = f.set_is ∙ released_alike p }
    fits_alike c (Pinned p) e f = (ap (λ q. has_page p q) (sym (flight_alike c)) ∙ f.0, up _ _ (a.pins p) f.1, sym (worth_alike p) ∙ f.2) where
      up : (m m' : ℕ) → m ≡ m' → 0 < m → 0 < m'
      up m m' e f = omega arith
    fits_alike c (Used p) e f = (ap (λ q. has_page p q) (sym (flight_alike c)) ∙ f.0, sym (worth_alike p) ∙ f.1)
    fits_alike c (Back p) e f = (ap (λ q. slice_get q 0) (sym (flight_alike c)) ∙ f.0, sym a.closed ∙ f.1, sym (a.partly shape p) ∙ f.2)
    fits_alike c (Dropped p) e f = (ap (λ q. slice_get q 0) (sym (flight_alike c)) ∙ f.0, sym (dropped_alike p) ∙ f.1)
    fits_alike c Close e f = sym close_alike ∙ f
