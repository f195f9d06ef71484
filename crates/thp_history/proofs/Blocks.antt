-- Which blocks are in use, and by which pages.
use Rattle.std.proofs.Common.{◌≡◌, ℕ, ◌<◌, Bool, true, false, cond, not, ◌&&◌, ◌||◌, List, [], ◌∷◌, ◌++◌, map, refl, ap, sym, ◌∙◌, subst, arith, nat_eq, eq-eqb, ne_eqb, eqb-true}
use Rattle.std.specs.Cmp.{IsEquivalence}
use Rattle.std.specs.List.{fold, filter, list_any, IsDistinct, AllByRecursion}
use Rattle.std.proofs.lemmas.Bool.Decides.{eqb_tells}
use Rattle.std.proofs.lemmas.List.{map-append}
use Rattle.std.proofs.lemmas.List.Elements.{filter-append}
use Rattle.std.proofs.lemmas.List.Folds.{list_any-append}
use Rattle.std.proofs.lemmas.List.Sums.{fold_push}
use Rattle.std.proofs.lemmas.Map.Keys.{IsDistinct-push}
use Rattle.thp_history.specs.Prelude.{Event, Outcome, Freed, What, Shape, History, some_event, by, allocates, frees, is_live, is_freed, block_in_use, is_block_held, keeps_block, IsLegal, Fits, FitsBy}
use Rattle.thp_history.specs.declared.events.What.TheVariants.{Alloc, UnmapWhole, UnmapSub, Unpin}
use Rattle.thp_history.proofs.Alive.{Grown, grown_push, grown_none}
use Rattle.thp_history.proofs.Bools.{or_none, or-false}
use Rattle.thp_history.proofs.LegalSteps.{legal_all}
use Rattle.thp_history.proofs.Numbers.{Numbered, Fresh}
use Rattle.thp_history.proofs.Pushes.{some_event_push, some_same, live_stays}

-- each page allocated, with its block
abbrev put : List (ℕ × ℕ) → What → List (ℕ × ℕ)
put bs (Alloc p b) = bs ++ (b, p) ∷ []
put bs w = bs

-- the allocations, each as its block and its page
unfoldable pub allocs : History → List (ℕ × ℕ)
allocs h = fold (λ bs (e : Event). put bs e.what) [] h

-- the allocations after one more event
allocs_push : (h : History) (e : Event) → allocs (h ++ e ∷ []) ≡ put (allocs h) e.what
unfolding allocs
allocs_push h e = fold_push (λ bs (x : Event). put bs x.what) [] h e

-- the blocks in use, each with its page: an allocated page has its block until it is freed
abbrev pub occupied_by : List (ℕ × ℕ) → ℕ → Outcome → List (ℕ × ℕ)
occupied_by bs p Freed = filter (λ (f : ℕ × ℕ). not (nat_eq f.1 p)) bs
occupied_by bs p _ = bs

-- the blocks in use after an event
abbrev pub occupied_after : List (ℕ × ℕ) → What → List (ℕ × ℕ)
occupied_after bs (Alloc p b) = bs ++ (b, p) ∷ []
occupied_after bs (UnmapWhole o p r) = occupied_by bs p o
occupied_after bs (UnmapSub o p f n r) = occupied_by bs p o
occupied_after bs (Unpin o p r) = occupied_by bs p o
occupied_after bs _ = bs

-- the blocks in use, each with its page, in the order of allocation
unfoldable pub occupied : History → List (ℕ × ℕ)
occupied h = fold (λ bs (e : Event). occupied_after bs e.what) [] h

-- the blocks alone
abbrev pub blocks_in_use : History → List ℕ
blocks_in_use h = map (λ (f : ℕ × ℕ). f.0) (occupied h)

-- the blocks in use after one more event
pub occupied_push : (h : History) (e : Event) → occupied (h ++ e ∷ []) ≡ occupied_after (occupied h) e.what
unfolding occupied
occupied_push h e = fold_push (λ bs (x : Event). occupied_after bs x.what) [] h e

-- a test of the allocations by their page and block
abbrev pub on_alloc : (ℕ × ℕ → Bool) → What → Bool
on_alloc g (Alloc p b) = g (b, p)
on_alloc g w = false

-- a test of the allocations after an event
any_put : (g : ℕ × ℕ → Bool) (bs : List (ℕ × ℕ)) (w : What) → list_any g (put bs w) ≡ (list_any g bs || on_alloc g w)
any_put g bs x = grind (arith, list_any-append, or-false)

-- a test of the allocations from a history on
any_from : (g : ℕ × ℕ → Bool) (bs : List (ℕ × ℕ)) (h : History) →
    list_any g (fold (λ bs (e : Event). put bs e.what) bs h) ≡ (list_any g bs || list_any (λ (e : Event). on_alloc g e.what) h)
any_from g bs [] = sym (or-false (list_any g bs))
any_from g bs (e ∷ h) = any_from g (put bs e.what) h ∙ ap (λ b. b || list_any (λ (e : Event). on_alloc g e.what) h) (any_put g bs e.what) ∙ assoc (list_any g bs) (on_alloc g e.what) _ where
  assoc : (a b c : Bool) → ((a || b) || c) ≡ (a || (b || c))
  assoc true b c = refl
  assoc false b c = refl

-- some allocation passes a test exactly where some event does
pub any_allocs : (g : ℕ × ℕ → Bool) (h : History) → list_any g (allocs h) ≡ some_event (on_alloc g) h
unfolding allocs some_event
any_allocs g h = any_from g [] h

-- tests of events that agree
pub some_event-ext : (t u : What → Bool) → ((w : What) → t w ≡ u w) → (h : History) → some_event t h ≡ some_event u h
unfolding some_event
some_event-ext t u s [] = refl
some_event-ext t u s (e ∷ h) = ap (λ b. b || some_event t h) (s e.what) ∙ ap (λ b. u e.what || b) (some_event-ext t u s h)

-- tests that agree
any-ext : {X : Type 0} (t u : X → Bool) → ((x : X) → t x ≡ u x) → (xs : List X) → list_any t xs ≡ list_any u xs
any-ext t u s [] = refl
any-ext t u s (x ∷ xs) = ap (λ b. b || list_any t xs) (s x) ∙ ap (λ b. u x || b) (any-ext t u s xs)

-- filters
pub filter-ext : {X : Type 0} (s t u : X → Bool) (xs : List X) → list_any s xs ≡ false → ((x : X) → s x ≡ false → t x ≡ u x) → filter t xs ≡ filter u xs
filter-ext s t u [] e f = refl
filter-ext {X = X} s t u (x ∷ xs) e f =
    let parts : (s x ≡ false) × (list_any s xs ≡ false) = or_none _ _ e in
    go (t x) (u x) _ _ (f x parts.0) (filter-ext s t u xs parts.1 f) where
      go : (a b : Bool) (ys zs : List X) → a ≡ b → ys ≡ zs → cond a (x ∷ ys) ys ≡ cond b (x ∷ zs) zs
      go a b ys zs e f = cc

-- a test that nothing passes
any_never : {X : Type 0} (xs : List X) → list_any (λ x. false) xs ≡ false
any_never [] = refl
any_never (x ∷ xs) = any_never xs

-- one filter after another
pub filter-filter : {X : Type 0} (t u : X → Bool) (xs : List X) → filter t (filter u xs) ≡ filter (λ x. u x && t x) xs
filter-filter t u [] = refl
filter-filter t u (x ∷ xs) = one (u x) ∙ ap (λ ys. cond (u x && t x) (x ∷ ys) ys) (filter-filter t u xs) where
  one : (b : Bool) → filter t (cond b (x ∷ filter u xs) (filter u xs)) ≡ cond (b && t x) (x ∷ filter t (filter u xs)) (filter t (filter u xs))
  one true = refl
  one false = refl

-- a test of what a filter keeps
pub any-filter : {X : Type 0} (t u : X → Bool) (xs : List X) → list_any t (filter u xs) ≡ list_any (λ x. u x && t x) xs
any-filter t u [] = refl
any-filter t u (x ∷ xs) = one (u x) ∙ ap (λ b. (u x && t x) || b) (any-filter t u xs) where
  one : (b : Bool) → list_any t (cond b (x ∷ filter u xs) (filter u xs)) ≡ ((b && t x) || list_any t (filter u xs))
  one true = refl
  one false = refl

-- a test of what is made of each element
any-map : {X Y : Type 0} (t : Y → Bool) (f : X → Y) (xs : List X) → list_any t (map f xs) ≡ list_any (λ x. t (f x)) xs
any-map t f [] = refl
any-map t f (x ∷ xs) = ap (λ b. t (f x) || b) (any-map t f xs)

-- a page of the list has block b, and none of the events to come frees the page
keeps_on : ℕ → History → ℕ × ℕ → Bool
keeps_on b later f = nat_eq b f.0 && not (some_event (frees f.1) later)

-- after an outcome a page keeps its block where the outcome leaves it on the list
keeps_by : (b : ℕ) (later : History) (bs : List (ℕ × ℕ)) (p : ℕ) (o : Outcome) →
    list_any (keeps_on b later) (occupied_by bs p o) ≡ list_any (λ (f : ℕ × ℕ). nat_eq b f.0 && not ((nat_eq f.1 p && is_freed o) || some_event (frees f.1) later)) bs
unfolding keeps_on
keeps_by b later bs p Freed =
    any-filter (keeps_on b later) (λ (f : ℕ × ℕ). not (nat_eq f.1 p)) bs ∙ any-ext _ _ (λ (f : ℕ × ℕ). one (nat_eq f.1 p) (nat_eq b f.0) (some_event (frees f.1) later)) bs where
      one : (x y z : Bool) → (not x && (y && not z)) ≡ (y && not ((x && true) || z))
      one true true z = refl
      one true false z = refl
      one false y z = refl
keeps_by b later bs p o = any-ext _ _ (λ (f : ℕ × ℕ). one (nat_eq f.1 p) (nat_eq b f.0) (some_event (frees f.1) later)) bs where
  one : (x y z : Bool) → (y && not z) ≡ (y && not ((x && false) || z))
  one true y z = refl
  one false y z = refl

-- the same after an event, which may add a page
keeps_after : (b : ℕ) (later : History) (bs : List (ℕ × ℕ)) (w : What) →
    list_any (keeps_on b later) (occupied_after bs w) ≡ (list_any (λ (f : ℕ × ℕ). nat_eq b f.0 && not (frees f.1 w || some_event (frees f.1) later)) bs || keeps_block b w later)
unfolding keeps_on
keeps_after b later bs (Alloc p c) = list_any-append (keeps_on b later) bs ((c, p) ∷ []) ∙ ap (λ v. list_any (keeps_on b later) bs || v) (or-false (keeps_on b later (c, p)))
keeps_after b later bs (UnmapWhole o p r) = keeps_by b later bs p o ∙ sym (or-false _)
keeps_after b later bs (UnmapSub o p f n r) = keeps_by b later bs p o ∙ sym (or-false _)
keeps_after b later bs (Unpin o p r) = keeps_by b later bs p o ∙ sym (or-false _)
keeps_after b later bs w = sym (or-false _)

-- a block is held from some pages on
held_from : (b : ℕ) (bs : List (ℕ × ℕ)) (h : History) →
    list_any (λ (f : ℕ × ℕ). nat_eq b f.0) (fold (λ bs (e : Event). occupied_after bs e.what) bs h) ≡ (list_any (keeps_on b h) bs || is_block_held h b)
unfolding keeps_on is_block_held some_event
held_from b bs [] = any-ext _ _ (λ (f : ℕ × ℕ). sym (and_true (nat_eq b f.0))) bs ∙ sym (or-false _) where
  and_true : (x : Bool) → (x && true) ≡ x
  and_true true = refl
  and_true false = refl
held_from b bs (e ∷ h) =
    held_from b (occupied_after bs e.what) h
    ∙ ap (λ v. v || is_block_held h b) (keeps_after b h bs e.what)
    ∙ assoc _ (keeps_block b e.what h) (is_block_held h b) where
      assoc : (x y z : Bool) → ((x || y) || z) ≡ (x || (y || z))
      assoc true y z = refl
      assoc false y z = refl

-- a block is held where it is one of these, in any list of events
pub held_is : (h : History) (b : ℕ) → is_block_held h b ≡ list_any (nat_eq b) (blocks_in_use h)
unfolding occupied
held_is h b = sym (any-map (nat_eq b) (λ (f : ℕ × ℕ). f.0) (occupied h) ∙ held_from b [] h)

-- the allocations of pages that live
abbrev pub living : History → List (ℕ × ℕ)
living h = filter (λ (f : ℕ × ℕ). is_live h f.1) (allocs h)

-- the blocks of a legal history
pub record Blocked (shape : Shape) (h : History) : Type 0 where
  pub as_live : occupied h ≡ living h
  pub apart : IsDistinct nat_eq (blocks_in_use h)
  pub in_range : (b : ℕ) → list_any (nat_eq b) (blocks_in_use h) ≡ true → b < shape.blocks

-- equality of numbers is an equivalence
pub eqb_laws : IsEquivalence nat_eq
eqb_laws = grind (arith, eq-eqb, eqb_tells, ne_eqb, nat_eq, eqb-true)

-- a block is in use where it is one of these
pub in_use_is : (shape : Shape) (h : History) (b : ℕ) → Blocked shape h → block_in_use h b ≡ list_any (nat_eq b) (blocks_in_use h)
in_use_is shape h b s = grind (arith, some_event-ext, nat_eq, any_allocs, any-ext, any-filter, any-map)

-- one more event
live_of_alloc : (h : History) (e : Event) (p : ℕ) → Fresh h p → allocates p e.what ≡ true → frees p e.what ≡ false → is_live (h ++ e ∷ []) p ≡ true
live_of_alloc h e p s a f = grind (arith, some_event_push, some_same)

-- an event that leaves who lives
living_same : (h : History) (e : Event) → put (allocs h) e.what ≡ allocs h → occupied_after (occupied h) e.what ≡ occupied h → ((q : ℕ) → allocates q e.what ≡ false) → ((q : ℕ) → frees q e.what ≡ false) → occupied h ≡ living h →
    occupied (h ++ e ∷ []) ≡ living (h ++ e ∷ [])
living_same h e p q a f s =
    occupied_push h e ∙ q ∙ s ∙ filter-ext (λ x. false) _ _ (allocs h) (any_never (allocs h)) (λ x y. sym (live_stays h e x.1 (a x.1) (f x.1)))
    ∙ ap (λ bs. filter (λ (f : ℕ × ℕ). is_live (h ++ e ∷ []) f.1) bs) (sym (allocs_push h e ∙ p))

-- an event that may free page p takes it out of both lists
living_by : (h : History) (e : Event) (p : ℕ) (o : Outcome) → put (allocs h) e.what ≡ allocs h → occupied_after (occupied h) e.what ≡ occupied_by (occupied h) p o →
    ((q : ℕ) → allocates q e.what ≡ false) → ((q : ℕ) → frees q e.what ≡ (nat_eq q p && is_freed o)) → occupied h ≡ living h → occupied (h ++ e ∷ []) ≡ living (h ++ e ∷ [])
living_by h e p Freed m q a f s =
    occupied_push h e ∙ q ∙ ap (λ bs. filter (λ (f : ℕ × ℕ). not (nat_eq f.1 p)) bs) s ∙ filter-filter (λ (f : ℕ × ℕ). not (nat_eq f.1 p)) (λ (f : ℕ × ℕ). is_live h f.1) (allocs h)
    ∙ filter-ext (λ x. false) _ _ (allocs h) (any_never (allocs h)) (λ x y. sym (now x.1))
    ∙ ap (λ bs. filter (λ (f : ℕ × ℕ). is_live (h ++ e ∷ []) f.1) bs) (sym (allocs_push h e ∙ m)) where
      now : (q : ℕ) → is_live (h ++ e ∷ []) q ≡ (is_live h q && not (nat_eq q p))
      now q = go _ _ _ _ _ _ (some_same (allocates q) h e (a q)) (some_event_push (frees q) h e) (f q) where
        go : (a a' f f' g x : Bool) → a' ≡ a → f' ≡ (f || g) → g ≡ (x && true) → (a' && not f') ≡ ((a && not f) && not x)
        go true a' true f' g x e i j = rw (e, i) refl
        go true a' false f' g true e i j = rw (e, i, j) refl
        go true a' false f' g false e i j = rw (e, i, j) refl
        go false a' f f' g x e i j = rw e refl
living_by h e p o m q a f s = living_same h e m q a (λ x. f x ∙ and_no (nat_eq x p)) s where
  and_no : (b : Bool) → (b && false) ≡ false
  and_no true = refl
  and_no false = refl

-- one more event that fits keeps the two lists the same
as_live_step : (shape : Shape) (h : History) (c : ℕ) (w : What) → Numbered h → FitsBy shape h (h ++ by c w ∷ []) c w → occupied h ≡ living h →
    occupied (h ++ by c w ∷ []) ≡ living (h ++ by c w ∷ [])
as_live_step shape h c (Alloc p b) t f s =
    let e : Event = by c (Alloc p b) in
    let fresh : Fresh h p = t.fresh p (omega (arith, f.number)) in
    let none : list_any (λ (f : ℕ × ℕ). nat_eq p f.1) (allocs h) ≡ false =
    any_allocs (λ (f : ℕ × ℕ). nat_eq p f.1) h ∙ some_event-ext (on_alloc (λ (f : ℕ × ℕ). nat_eq p f.1)) (allocates p) same h ∙ fresh.never in
    occupied_push h e ∙ ap (λ bs. bs ++ (b, p) ∷ []) s
    ∙ ap (λ bs. bs ++ (b, p) ∷ []) (filter-ext (λ (f : ℕ × ℕ). nat_eq p f.1) _ _ (allocs h) none (λ x y. sym (live_stays h e x.1 (eqb_laws.symm x.1 p ∙ y) refl)))
    ∙ last (is_live (h ++ e ∷ []) p) (live_of_alloc h e p fresh (eq-eqb p p refl) refl) _
    ∙ sym (filter-append (λ (f : ℕ × ℕ). is_live (h ++ e ∷ []) f.1) (allocs h) ((b, p) ∷ []))
    ∙ ap (λ bs. filter (λ (f : ℕ × ℕ). is_live (h ++ e ∷ []) f.1) bs) (sym (allocs_push h e)) where
      same : (w : What) → on_alloc (λ (f : ℕ × ℕ). nat_eq p f.1) w ≡ allocates p w
      same (Alloc q b) = refl
      same w = refl

      last : (x : Bool) → x ≡ true → (bs : List (ℕ × ℕ)) → bs ++ (b, p) ∷ [] ≡ bs ++ cond x ((b, p) ∷ []) []
      last true e bs = refl
      last false e bs = absurd (cc)
as_live_step shape h c (UnmapWhole o p r) t f s = living_by h (by c (UnmapWhole o p r)) p o refl refl (λ q. refl) (λ q. refl) s
as_live_step shape h c (UnmapSub o p x m r) t f s = living_by h (by c (UnmapSub o p x m r)) p o refl refl (λ q. refl) (λ q. refl) s
as_live_step shape h c (Unpin o p r) t f s = living_by h (by c (Unpin o p r)) p o refl refl (λ q. refl) (λ q. refl) s
as_live_step shape h c w t f s = living_same h (by c w) refl refl (λ q. refl) (λ q. refl) s

-- blocks taken out stay apart
all_filter : (P : ℕ → Type 0) (t : ℕ × ℕ → Bool) (bs : List (ℕ × ℕ)) → AllByRecursion P (map (λ (f : ℕ × ℕ). f.0) bs) → AllByRecursion P (map (λ (f : ℕ × ℕ). f.0) (filter t bs))
all_filter P t [] a = a
all_filter P t (f ∷ bs) a = go (t f) (filter t bs) (all_filter P t bs a.1) where
  go : (b : Bool) (gs : List (ℕ × ℕ)) → AllByRecursion P (map (λ (f : ℕ × ℕ). f.0) gs) → AllByRecursion P (map (λ (f : ℕ × ℕ). f.0) (cond b (f ∷ gs) gs))
  go true gs h = (a.0, h)
  go false gs h = h

-- what a filter keeps stays apart
apart_filter : (t : ℕ × ℕ → Bool) (bs : List (ℕ × ℕ)) → IsDistinct nat_eq (map (λ (f : ℕ × ℕ). f.0) bs) → IsDistinct nat_eq (map (λ (f : ℕ × ℕ). f.0) (filter t bs))
unfolding IsDistinct
apart_filter t [] a = a
apart_filter t (f ∷ bs) a = go (t f) (filter t bs) (all_filter (λ y. nat_eq f.0 y ≡ false) t bs a.0) (apart_filter t bs a.1) where
  go : (b : Bool) (gs : List (ℕ × ℕ)) → AllByRecursion (λ y. nat_eq f.0 y ≡ false) (map (λ (f : ℕ × ℕ). f.0) gs) → IsDistinct nat_eq (map (λ (f : ℕ × ℕ). f.0) gs) → IsDistinct nat_eq (map (λ (f : ℕ × ℕ). f.0) (cond b (f ∷ gs) gs))
  go true gs h k = (h, k)
  go false gs h k = k

-- what a filter keeps was there
in_filter : (b : ℕ) (t : ℕ × ℕ → Bool) (bs : List (ℕ × ℕ)) → list_any (nat_eq b) (map (λ (f : ℕ × ℕ). f.0) (filter t bs)) ≡ true → list_any (nat_eq b) (map (λ (f : ℕ × ℕ). f.0) bs) ≡ true
in_filter b t [] e = e
in_filter b t (f ∷ bs) e = go (t f) (nat_eq b f.0) _ refl (in_filter b t bs) e where
  go : (x y : Bool) (z : Bool) → nat_eq b f.0 ≡ y → (list_any (nat_eq b) (map (λ (f : ℕ × ℕ). f.0) (filter t bs)) ≡ true → z ≡ true) →
      list_any (nat_eq b) (map (λ (f : ℕ × ℕ). f.0) (cond x (f ∷ filter t bs) (filter t bs))) ≡ true → (nat_eq b f.0 || z) ≡ true
  go x true z i k e = rw i refl
  go true false z i k e = rw i (k (sym (ap (λ v. v || list_any (nat_eq b) (map (λ (f : ℕ × ℕ). f.0) (filter t bs))) i) ∙ e))
  go false false z i k e = rw i (k e)

-- the blocks after an event
record Good (blocks : ℕ) (bs : List (ℕ × ℕ)) : Type 0 where
  apart : IsDistinct nat_eq (map (λ (f : ℕ × ℕ). f.0) bs)
  in_range : (b : ℕ) → list_any (nat_eq b) (map (λ (f : ℕ × ℕ). f.0) bs) ≡ true → b < blocks

-- blocks in use after an outcome stay apart and below the limit
good_by : (blocks : ℕ) (bs : List (ℕ × ℕ)) (p : ℕ) (o : Outcome) → Good blocks bs → Good blocks (occupied_by bs p o)
good_by blocks bs p x g = grind (arith, apart_filter, nat_eq, in_filter)

-- the same after any event that fits
good_step : (shape : Shape) (h k : History) (c : ℕ) (w : What) → ((b : ℕ) → block_in_use h b ≡ list_any (nat_eq b) (blocks_in_use h)) → FitsBy shape h k c w → Good shape.blocks (occupied h) → Good shape.blocks (occupied_after (occupied h) w)
good_step shape h k c (Alloc p b) is f g =
    let keys : map (λ (f : ℕ × ℕ). f.0) (occupied h ++ (b, p) ∷ []) ≡ blocks_in_use h ++ b ∷ [] = map-append (λ (f : ℕ × ℕ). f.0) (occupied h) ((b, p) ∷ []) in
    let D : List ℕ → Type 0 = λ ks. IsDistinct nat_eq ks in
    record {
      apart = subst D (sym keys) (IsDistinct-push eqb_laws (blocks_in_use h) b g.apart (sym (is b) ∙ f.free));
      in_range = λ d e. go d _ refl (sym (list_any-append (nat_eq d) (blocks_in_use h) (b ∷ [])) ∙ sym (ap (λ ks. list_any (nat_eq d) ks) keys) ∙ e);
    } where
      go : (d : ℕ) (x : Bool) → list_any (nat_eq d) (blocks_in_use h) ≡ x → (list_any (nat_eq d) (blocks_in_use h) || (nat_eq d b || false)) ≡ true → d < shape.blocks
      go d true i e = g.in_range d i
      go d false i e = let y : nat_eq d b ≡ true = sym (or-false (nat_eq d b)) ∙ sym (ap (λ v. v || (nat_eq d b || false)) i) ∙ e in let z : d ≡ b = eqb-true d b y in omega (arith, f.inside)
good_step shape h k c (UnmapWhole o p r) is f g = good_by shape.blocks (occupied h) p o g
good_step shape h k c (UnmapSub o p x m r) is f g = good_by shape.blocks (occupied h) p o g
good_step shape h k c (Unpin o p r) is f g = good_by shape.blocks (occupied h) p o g
good_step shape h k c w is f g = g

-- what holds of the blocks of a legal history
pub record Placed (shape : Shape) (h : History) : Type 0 where
  pub grown : Grown shape h
  pub blocked : Blocked shape h

-- one more event that fits keeps it
pub placed_push : (shape : Shape) (h : History) (e : Event) → Placed shape h → Fits shape h e → Placed shape (h ++ e ∷ [])
placed_push shape h e s f =
    let next : Good shape.blocks (occupied_after (occupied h) e.what) =
    good_step shape h (h ++ e ∷ []) e.caller e.what (λ b. in_use_is shape h b s.blocked) f (record { apart = s.blocked.apart; in_range = s.blocked.in_range }) in
    let G : List (ℕ × ℕ) → Type 0 = λ bs. Good shape.blocks bs in
    let good : Good shape.blocks (occupied (h ++ e ∷ [])) = subst G (sym (occupied_push h e)) next in
    record {
      grown = grown_push shape h e s.grown f;
      blocked = record { as_live = as_live_step shape h e.caller e.what s.grown.numbered f s.blocked.as_live; apart = good.apart; in_range = good.in_range };
    }

-- it holds of the empty history
pub placed_none : (shape : Shape) → Placed shape []
unfolding occupied allocs IsDistinct
placed_none shape = record { grown = grown_none shape; blocked = record { as_live = refl; apart = tt; in_range = λ b e. absurd (cc) } }

-- and of every legal history
pub legal_placed : (shape : Shape) (h : History) → IsLegal shape h → Placed shape h
legal_placed shape h l = legal_all shape (Placed shape) (placed_none shape) (λ k e g f. placed_push shape k e g f) h l

-- in a legal history the blocks held are those in use
pub held_in_use : (shape : Shape) (h : History) → IsLegal shape h → (b : ℕ) → is_block_held h b ≡ block_in_use h b
held_in_use shape h l b = held_is h b ∙ sym (in_use_is shape h b (legal_placed shape h l).blocked)
