-- No page stands twice in the queue and the flights joined, and each that stands there is live and not split.
use Rattle.std.proofs.Common.{◌≡◌, ℕ, suc, zero, ◌+◌, ◌<◌, ◌≤◌, Bool, true, false, cond, not, ◌&&◌, ◌||◌, List, [], ◌∷◌, ◌++◌, Some, drop, map, refl, ap, sym, ◌∙◌, subst, arith, eq-eqb, ne_eqb, inl, inr, slice_get, count_by, nat_eq, nat_lt}
use Rattle.std.specs.List.{filter, list_any}
use Rattle.std.proofs.lemmas.List.Sums.{sum_by_push, sum_by-cons, sum_by-append}
use Rattle.std.proofs.lemmas.List.Folds.{list_any-append}
use Rattle.std.proofs.lemmas.Bool.Decides.{eqb_tells}
use Rattle.thp_history.specs.Prelude.{Event, Outcome, Freed, Queued, Stays, What, Shape, History, by, total, is_closed, is_freed, is_live, is_split, frees, splits, allocates, is_alloc, allocations, standing, stands, queue, flights, queue_after, flights_after, queue_by, flights_by, without, leaves, has_page, flight, IsLegal, Fits, FitsBy, outcome, some_below, subpages, shrinks_underused, is_about}
use Rattle.thp_history.specs.declared.events.What.TheVariants.{Alloc, MapWhole, UnmapWhole, MapSub, UnmapSub, SplitPmd, Pin, Unpin, Write, Zero, Taken, Split, Used, Back, Dropped, Close}
use Rattle.thp_history.specs.declared.events.What.TheVariants.{Pinned}
use Rattle.thp_history.proofs.Allowed.{allowed_map_whole, allowed_unmap_whole, allowed_map_sub, allowed_unmap_sub, allowed_split_pmd, allowed_pin, allowed_unpin, allowed_write, allowed_zero}
use Rattle.thp_history.proofs.Bools.{or_none, and-false, one_if, none_if}
use Rattle.thp_history.proofs.Counting.{count-filter, count-le, count_any, count-cons}
use Rattle.thp_history.proofs.LegalSteps.{legal_all}
use Rattle.thp_history.proofs.Numbers.{Fresh, Numbered, live_below, beyond, fresh_push, numbered_none}
use Rattle.thp_history.proofs.Pushes.{queue_push, flights_push, some_event_push, some_same, count_of_push, count_same, count_more}
use Rattle.thp_history.proofs.Untouched.{untouched}

-- how often page p stands in the queue, and in the flights
unfoldable pub times : ℕ → List ℕ → ℕ
times p ps = count_by (λ q. nat_eq q p) ps

-- how often page p stands in the flights
unfoldable pub flying : ℕ → List (ℕ × ℕ) → ℕ
flying p fs = count_by (λ (f : ℕ × ℕ). nat_eq f.1 p) fs

-- one more page at the queue's end
pub times_push : (p q : ℕ) (ps : List ℕ) → times p (ps ++ q ∷ []) ≡ times p ps + cond (nat_eq q p) 1 0
unfolding times
times_push p q ps = sum_by_push (λ x. cond (nat_eq x p) 1 0) ps q

-- one more entry at the flights' end
pub flying_push : (p q c : ℕ) (fs : List (ℕ × ℕ)) → flying p (fs ++ (c, q) ∷ []) ≡ flying p fs + cond (nat_eq q p) 1 0
unfolding flying
flying_push p q c fs = sum_by_push (λ (f : ℕ × ℕ). cond (nat_eq f.1 p) 1 0) fs (c, q)

-- one more page in front
pub times-cons : (p q : ℕ) (ps : List ℕ) → times p (q ∷ ps) ≡ cond (nat_eq q p) 1 0 + times p ps
unfolding times
times-cons p q ps = sum_by-cons (λ x. cond (nat_eq x p) 1 0) q ps

-- one more entry in front
pub flying-cons : (p c q : ℕ) (fs : List (ℕ × ℕ)) → flying p ((c, q) ∷ fs) ≡ cond (nat_eq q p) 1 0 + flying p fs
unfolding flying
flying-cons p c q fs = sum_by-cons (λ (f : ℕ × ℕ). cond (nat_eq f.1 p) 1 0) (c, q) fs

-- a filter keeps no more
pub times-filter : (test : ℕ → Bool) (p : ℕ) (ps : List ℕ) → times p (filter test ps) ≤ times p ps
unfolding times
times-filter test p ps = omega (arith, count-filter (λ q. nat_eq q p) test ps)

-- the same of the flights
pub flying-filter : (test : ℕ × ℕ → Bool) (p : ℕ) (fs : List (ℕ × ℕ)) → flying p (filter test fs) ≤ flying p fs
unfolding flying
flying-filter test p fs = omega (arith, count-filter (λ (f : ℕ × ℕ). nat_eq f.1 p) test fs)

-- a truth and not its opposite
both : (b : Bool) → b ≡ true → (b && not (not b)) ≡ true
both x e = grind arith

-- a list without page p has it no more
pub times-without : (p : ℕ) (ps : List ℕ) → times p (without p ps) ≡ 0
unfolding times
times-without p ps = grind (arith, count-filter, nat_eq, count-le, both)

-- the same of the flights
pub flying-without : (p : ℕ) (fs : List (ℕ × ℕ)) → flying p (filter (λ (f : ℕ × ℕ). not (nat_eq f.1 p)) fs) ≡ 0
unfolding flying
flying-without p fs = grind (arith, count-filter, nat_eq, count-le, both)

-- a page in the flight of c
abbrev pub pages : List (ℕ × ℕ) → List ℕ
pages fs = map (λ (f : ℕ × ℕ). f.1) fs

-- one more entry of a flight
in_step : (a b : Bool) (f : ℕ × ℕ) (p : ℕ) (fs : List (ℕ × ℕ)) (n : ℕ) → nat_eq f.1 p ≡ b → (has_page p (pages fs) ≡ true → 0 < n) →
    has_page p (pages (cond a (f ∷ fs) fs)) ≡ true → 0 < cond (a && b) 1 0 + n
in_step x y f p fs n e g h = grind arith

-- a page of the flight of c stands in the flights, by c
pub in_flight : (p c : ℕ) (fs : List (ℕ × ℕ)) → has_page p (pages (filter (λ (f : ℕ × ℕ). nat_eq f.0 c) fs)) ≡ true →
    0 < count_by (λ (f : ℕ × ℕ). nat_eq f.0 c && nat_eq f.1 p) fs
in_flight p c [] h = absurd (cc)
in_flight p c (f ∷ fs) h =
    rw (count-cons (λ (f : ℕ × ℕ). nat_eq f.0 c && nat_eq f.1 p) f fs)
    (in_step (nat_eq f.0 c) (nat_eq f.1 p) f p (filter (λ (f : ℕ × ℕ). nat_eq f.0 c) fs) _ refl (in_flight p c fs) h)

-- a conjunction the other way round
swap_and : (a b : Bool) → (a && b) ≡ true → (b && not (not (a && b))) ≡ true
swap_and x y e = grind arith

-- a page that leaves the flight of c stands in the flights once less
pub flying-leaves : (p c : ℕ) (fs : List (ℕ × ℕ)) → has_page p (pages (filter (λ (f : ℕ × ℕ). nat_eq f.0 c) fs)) ≡ true →
    flying p (leaves c p fs) + 1 ≤ flying p fs
unfolding flying
flying-leaves p c fs h = grind (arith, in_flight, count-filter, nat_eq, count-le, swap_and)

-- the first page of a list is in it
pub first_has : (p : ℕ) (qs : List ℕ) → slice_get qs 0 ≡ Some p → has_page p qs ≡ true
first_has p [] e = absurd (cc)
first_has p (q ∷ qs) e = let same : q ≡ p = cc in rw same (ap (λ v. v || has_page p qs) (eq-eqb p p refl))

-- the first of the queue, taken out
pub times-drop : (p q : ℕ) (qs : List ℕ) → slice_get qs 0 ≡ Some p → times q qs ≡ cond (nat_eq p q) 1 0 + times q (drop 1 qs)
times-drop p q x e = grind (arith, times-cons)

-- how often a page stands
abbrev pub stand : Shape → History → ℕ → ℕ
stand shape h p = times p (queue shape h) + flying p (flights h)

-- no page stands twice, and each that stands is live and not split
pub record Sound (shape : Shape) (h : History) : Type 0 where
  pub once : (p : ℕ) → stand shape h p ≤ 1
  pub live : (p : ℕ) → 0 < stand shape h p → is_live h p ≡ true
  pub whole_page : (p : ℕ) → 0 < stand shape h p → is_split h p ≡ false

-- a page of some flight
pub any-pages : (p : ℕ) (fs : List (ℕ × ℕ)) → has_page p (pages fs) ≡ list_any (λ (f : ℕ × ℕ). nat_eq f.1 p) fs
any-pages p [] = refl
any-pages p (f ∷ fs) = ap (λ b. nat_eq f.1 p || b) (any-pages p fs)

-- a page that stands nowhere is counted nowhere
pub stands_not : (shape : Shape) (h : History) (p : ℕ) → has_page p (queue shape h ++ pages (flights h)) ≡ false → stand shape h p ≡ 0
unfolding times flying
stands_not shape h p e = grind (arith, list_any-append, nat_eq, or_none, count_any, any-pages)

-- a page lives on through an event that doesn't free it
pub live_push : (h : History) (e : Event) (p : ℕ) → is_live h p ≡ true → frees p e.what ≡ false → is_live (h ++ e ∷ []) p ≡ true
live_push h e p l f = grind (arith, some_event_push)

-- a page stays whole through an event that doesn't split it
pub split_push : (h : History) (e : Event) (p : ℕ) → is_split h p ≡ false → splits p e.what ≡ false → is_split (h ++ e ∷ []) p ≡ false
split_push h e p l f = rw (some_event_push (splits p) h e, l, f)

-- what an outcome of `Queued` says
queued_is : (a s x y k t : Bool) → Queued ≡ cond a Freed (cond (not s && (x && (y && (not k && not t)))) Queued Stays) → (s ≡ false) × (t ≡ false) × (k ≡ false) × (y ≡ true)
queued_is a s x y k t e = grind arith

-- page q stands n times after an event
record Next (h : History) (q n : ℕ) (freed parted : Bool) : Type 0 where
  few : n ≤ 1
  good : 0 < n → (is_live h q ≡ true) × (is_split h q ≡ false) × (freed ≡ false) × (parted ≡ false)

-- a page that stands no more often than before
less : (shape : Shape) (h : History) (q n : ℕ) (a b : Bool) → Sound shape h → n ≤ stand shape h q → a ≡ false → b ≡ false → Next h q n a b
less shape h q n a b s le f g = record { few = omega (arith, s.once q); good = λ up. (s.live q (omega arith), s.whole_page q (omega arith), f, g) }

-- a page that stands nowhere any more
gone : (h : History) (q n : ℕ) (a b : Bool) → n ≡ 0 → Next h q n a b
gone h q n a b e = record { few = omega arith; good = λ up. absurd (omega arith) }

-- a page that joined, and stood nowhere
entered : (shape : Shape) (h : History) (p q n : ℕ) (a b : Bool) → Sound shape h → is_live h p ≡ true → is_split h p ≡ false → stand shape h p ≡ 0 →
    n ≡ stand shape h q + cond (nat_eq p q) 1 0 → a ≡ false → b ≡ false → Next h q n a b
entered shape h p q n a b s l w none e f g = grind (arith, eqb_tells, nat_eq, one_if, none_if, less)

-- a page that is p, or isn't
unless_same : (shape : Shape) (h : History) (p q n : ℕ) (a b : Bool) → Sound shape h → n ≤ stand shape h q → (q ≡ p → n ≡ 0) →
    (nat_eq q p ≡ false → (a ≡ false) × (b ≡ false)) → Next h q n a b
unless_same shape h p q n a b s le f g = grind (arith, eqb_tells, gone, less)

-- what holds at p
at : (q p : ℕ) (f : ℕ → ℕ) → f p ≡ 0 → q ≡ p → f q ≡ 0
at q p f e y = ap f y ∙ e

-- a page is queued only where it isn't split, stands nowhere, the node is open and some subpage is in use
pub outcome_queued : (shape : Shape) (h k : History) (p : ℕ) → Queued ≡ outcome shape h k p →
    (is_split h p ≡ false) × (stands shape h p ≡ false) × (is_closed h ≡ false) × (some_below (subpages shape) (λ i. nat_lt 0 (total k p i)) ≡ true)
outcome_queued shape h k p e = grind (arith, queued_is, nat_lt, nat_eq)

-- an outcome of a live page keeps this
by_outcome : (shape : Shape) (h k : History) (p q : ℕ) (o : Outcome) → Sound shape h → is_live h p ≡ true → o ≡ outcome shape h k p →
    Next h q (times q (queue_by (queue shape h) p o) + flying q (flights_by (flights h) p o)) (nat_eq q p && is_freed o) false
by_outcome shape h k p q Stays s l e = less shape h q _ _ _ s (omega arith) (and-false (nat_eq q p)) refl
by_outcome shape h k p q Queued s l e =
    let why : (is_split h p ≡ false) × (stands shape h p ≡ false) × (is_closed h ≡ false) × (some_below (subpages shape) (λ i. nat_lt 0 (total k p i)) ≡ true) = outcome_queued shape h k p e in
    entered shape h p q _ _ _ s l why.0 (stands_not shape h p why.1) (omega (arith, times_push q p (queue shape h))) (and-false (nat_eq q p)) refl
by_outcome shape h k p q Freed s l e =
    unless_same shape h p q _ _ _ s (omega (arith, times-filter (λ x. not (nat_eq x p)) q (queue shape h), flying-filter (λ (f : ℕ × ℕ). not (nat_eq f.1 p)) q (flights h)))
    (λ y. at q p (λ x. times x (without p (queue shape h)) + flying x (filter (λ (f : ℕ × ℕ). not (nat_eq f.1 p)) (flights h))) (omega (arith, times-without p (queue shape h), flying-without p (flights h))) y)
    (λ y. (ap (λ b. b && true) y, refl))

-- a page that leaves the flight of c makes room for one entry
pub moves : (p q c : ℕ) (fs : List (ℕ × ℕ)) → has_page p (pages (filter (λ (f : ℕ × ℕ). nat_eq f.0 c) fs)) ≡ true →
    cond (nat_eq p q) 1 0 + flying q (leaves c p fs) ≤ flying q fs
moves p q c fs h = grind (arith, eqb_tells, nat_eq, one_if, flying-leaves, none_if, flying-filter)

-- an event that fits keeps this
step : (shape : Shape) (h k : History) (c : ℕ) (w : What) (q : ℕ) → is_alloc w ≡ false → Sound shape h → FitsBy shape h k c w →
    Next h q (times q (queue_after shape (queue shape h) w) + flying q (flights_after (flights h) c w)) (frees q w) (splits q w)
step shape h k c (Alloc p b) q un s f = absurd (cc)
step shape h k c (UnmapWhole o p r) q un s f = by_outcome shape h k p q o s (allowed_unmap_whole shape h p f.0).0 f.1.outcome_is
step shape h k c (UnmapSub o p a m r) q un s f = by_outcome shape h k p q o s (allowed_unmap_sub shape h p a m f.0).0 f.1.outcome_is
step shape h k c (Unpin o p r) q un s f = by_outcome shape h k p q o s (allowed_unpin shape h p f.0).0 f.1.outcome_is
step shape h k c (Taken p) q un s f =
    less shape h q _ _ _ s (omega (arith, times-drop p q (queue shape h) f.oldest, flying_push q p c (flights h))) refl refl
step shape h k c (Split p r) q un s f =
    unless_same shape h p q _ _ _ s (omega (arith, flying-filter (λ (x : ℕ × ℕ). not (nat_eq x.0 c && nat_eq x.1 p)) q (flights h)))
    (λ y. at q p (λ x. times x (queue shape h) + flying x (leaves c p (flights h))) (omega (arith, flying-leaves p c (flights h) f.in_flight, s.once p)) y)
    (λ y. (refl, y))
step shape h k c (Back p) q un s f =
    less shape h q _ _ _ s (omega (arith, times_push q p (queue shape h), moves p q c (flights h) (first_has p (flight h c) f.0))) refl refl
step shape h k c (Used p) q un s f =
    less shape h q _ _ _ s (omega (arith, flying-filter (λ (x : ℕ × ℕ). not (nat_eq x.0 c && nat_eq x.1 p)) q (flights h))) refl refl
step shape h k c (Dropped p) q un s f =
    less shape h q _ _ _ s (omega (arith, flying-filter (λ (x : ℕ × ℕ). not (nat_eq x.0 c && nat_eq x.1 p)) q (flights h))) refl refl
step shape h k c w q un s f = less shape h q _ _ _ s (omega arith) refl refl

-- an event that fits isn't about a page that is still to be allocated after it
about_step : (shape : Shape) (h : History) (c : ℕ) (w : What) (q : ℕ) → Sound shape h → Numbered h → FitsBy shape h (h ++ by c w ∷ []) c w →
    allocations (h ++ by c w ∷ []) ≤ q → is_about q w ≡ false
about_step shape h c (Alloc p b) q s t f g =
    let more : allocations (h ++ by c (Alloc p b) ∷ []) ≡ allocations h + 1 = count_more is_alloc h _ refl in
    ne_eqb q p (λ z. omega (arith, z, f.number))
about_step shape h c (MapWhole p) q s t f g = beyond h p q _ t (allowed_map_whole shape h p f).0 (count_same is_alloc h (by c (MapWhole p)) refl) g
about_step shape h c (UnmapWhole o p r) q s t f g = beyond h p q _ t (allowed_unmap_whole shape h p f.0).0 (count_same is_alloc h (by c (UnmapWhole o p r)) refl) g
about_step shape h c (MapSub p a d) q s t f g = beyond h p q _ t (allowed_map_sub shape h p a d f).0 (count_same is_alloc h (by c (MapSub p a d)) refl) g
about_step shape h c (UnmapSub o p a d r) q s t f g = beyond h p q _ t (allowed_unmap_sub shape h p a d f.0).0 (count_same is_alloc h (by c (UnmapSub o p a d r)) refl) g
about_step shape h c (SplitPmd p) q s t f g = beyond h p q _ t (allowed_split_pmd shape h p f).0 (count_same is_alloc h (by c (SplitPmd p)) refl) g
about_step shape h c (Pin p) q s t f g = beyond h p q _ t (allowed_pin shape h p f).0 (count_same is_alloc h (by c (Pin p)) refl) g
about_step shape h c (Unpin o p r) q s t f g = beyond h p q _ t (allowed_unpin shape h p f.0).0 (count_same is_alloc h (by c (Unpin o p r)) refl) g
about_step shape h c (Split p r) q s t f g =
    let up : 0 < stand shape h p = omega (arith, flying-leaves p c (flights h) f.in_flight) in
    beyond h p q _ t (s.live p up) (count_same is_alloc h (by c (Split p r)) refl) g
about_step shape h c (Write p a d) q s t f g = beyond h p q _ t (allowed_write shape h p a d f).0 (count_same is_alloc h (by c (Write p a d)) refl) g
about_step shape h c (Zero p a d) q s t f g = beyond h p q _ t (allowed_zero shape h p a d f).0 (count_same is_alloc h (by c (Zero p a d)) refl) g
about_step shape h c (Taken p) q s t f g = refl
about_step shape h c (Pinned p) q s t f g = refl
about_step shape h c (Used p) q s t f g = refl
about_step shape h c (Back p) q s t f g = refl
about_step shape h c (Dropped p) q s t f g = refl
about_step shape h c Close q s t f g = refl

-- a page that joins where a test holds
new_stands : (b : Bool) (q p : ℕ) (ps : List ℕ) → times q (cond b (ps ++ p ∷ []) ps) ≡ times q ps + cond (b && nat_eq p q) 1 0
new_stands x q p ps = grind (arith, times_push)

-- a new page stands in the queue where the switch is on, and nowhere else
sound_alloc : (shape : Shape) (h : History) (c p b : ℕ) → Sound shape h → Numbered h → p ≡ allocations h → Sound shape (h ++ by c (Alloc p b) ∷ [])
sound_alloc shape h c p b s t is =
    let e : Event = by c (Alloc p b) in
    let k : History = h ++ e ∷ [] in
    let on : Bool = shrinks_underused shape in
    let fresh : Fresh h p = t.fresh p (omega (arith, is)) in
    let more : (q : ℕ) → stand shape k q ≡ stand shape h q + cond (on && nat_eq p q) 1 0 =
    λ q. ap (λ ps. times q ps + flying q (flights k)) (queue_push shape h e) ∙ ap (λ fs. times q (queue_after shape (queue shape h) (Alloc p b)) + flying q fs) (flights_push h e)
    ∙ omega (arith, new_stands on q p (queue shape h)) in
    let none : stand shape h p ≡ 0 = nothing (stand shape h p) (λ up. let l : p < allocations h = live_below h p t (s.live p up) in omega (arith, is)) in
    let was : (q : ℕ) → nat_eq p q ≡ false → 0 < stand shape k q → 0 < stand shape h q = λ q y up. up_or (on && nat_eq p q) _ _ (more q) up (and_none on _ y) in
    record {
      once = λ q. elim (eqb_tells p q) [
        | inl y ↦ at_most (on && nat_eq p q) _ _ (more q) (ap (stand shape h) (sym y.1) ∙ none)
        | inr y ↦ omega (arith, more q, s.once q, none_if (on && nat_eq p q) (and_none on _ y.0))
      ];
      live = λ q up. elim (eqb_tells p q) [
        | inl y ↦ let P : ℕ → Type 0 = λ x. is_live k x ≡ true in subst P y.1 (live_new _ _ _ _ (some_event_push (allocates p) h e) (eq-eqb p p refl) (some_same (frees p) h e refl ∙ fresh.not_freed))
        | inr y ↦ live_push h e q (s.live q (was q y.0 up)) refl
      ];
      whole_page = λ q up. elim (eqb_tells p q) [
        | inl y ↦ let P : ℕ → Type 0 = λ x. is_split k x ≡ false in subst P y.1 (split_push h e p fresh.not_split refl)
        | inr y ↦ split_push h e q (s.whole_page q (was q y.0 up)) refl
      ];
    } where
      nothing : (m : ℕ) → (0 < m → ⊥) → m ≡ 0
      nothing zero f = refl
      nothing (suc m) f = absurd (f (omega arith))

      and_none : (a b : Bool) → b ≡ false → (a && b) ≡ false
      and_none true b e = e
      and_none false b e = refl

      at_most : (b : Bool) (m n : ℕ) → n ≡ m + cond b 1 0 → m ≡ 0 → n ≤ 1
      at_most true m n e f = omega arith
      at_most false m n e f = omega arith

      up_or : (b : Bool) (m n : ℕ) → n ≡ m + cond b 1 0 → 0 < n → b ≡ false → 0 < m
      up_or true m n e u f = absurd (cc)
      up_or false m n e u f = omega arith

      live_new : (a a' f b : Bool) → a' ≡ (a || b) → b ≡ true → f ≡ false → (a' && not f) ≡ true
      live_new a true true b e g h = absurd (cc)
      live_new a true false b e g h = refl
      live_new true false f b e g h = absurd (cc)
      live_new false false f b e g h = absurd (cc)

-- an event that is no allocation
sound_other : (shape : Shape) (h : History) (e : Event) → is_alloc e.what ≡ false → Sound shape h → Fits shape h e → Sound shape (h ++ e ∷ [])
sound_other shape h e un s f = grind (arith, queue_push, flights_push, step, at, live_push, split_push)

-- what a caller does
sound_by : (shape : Shape) (h : History) (c : ℕ) (w : What) → Sound shape h → Numbered h → FitsBy shape h (h ++ by c w ∷ []) c w → Sound shape (h ++ by c w ∷ [])
sound_by shape h c x s t f = grind (arith, sound_alloc, sound_other)

-- one more event that fits
pub sound_push : (shape : Shape) (h : History) (e : Event) → Sound shape h → Numbered h → Fits shape h e → Sound shape (h ++ e ∷ [])
sound_push shape h e s t f = sound_by shape h e.caller e.what s t f

-- one more event that fits keeps the numbers
pub numbered_push : (shape : Shape) (h : History) (e : Event) → Sound shape h → Numbered h → Fits shape h e → Numbered (h ++ e ∷ [])
numbered_push shape h e s t f = record {
  fresh = λ q above.
      fresh_push h e q (untouched q e.what (about_step shape h e.caller e.what q s t f above))
      (t.fresh q (omega (arith, count_of_push is_alloc h e)));
}

-- the empty history
pub sound_none : (shape : Shape) → Sound shape []
unfolding times flying queue flights
sound_none shape = record { once = λ p. omega arith; live = λ p up. absurd (omega arith); whole_page = λ p up. absurd (omega arith) }

-- what holds of each legal history on the way
record SoundSoFar (shape : Shape) (h : History) : Type 0 where
  sound : Sound shape h
  numbered : Numbered h

-- so it holds of every legal history
pub legal_sound : (shape : Shape) (h : History) → IsLegal shape h → Sound shape h
legal_sound shape h l =
    (legal_all shape (SoundSoFar shape) (record { sound = sound_none shape; numbered = numbered_none })
    (λ k e a f. record { sound = sound_push shape k e a.sound a.numbered f; numbered = numbered_push shape k e a.sound a.numbered f }) h l).sound

-- the pages of the flights, counted as a list
flying_as : (p : ℕ) (fs : List (ℕ × ℕ)) → times p (pages fs) ≡ flying p fs
unfolding times flying
flying_as p [] = refl
flying_as p (f ∷ fs) = times-cons p f.1 (pages fs) ∙ ap (λ n. cond (nat_eq f.1 p) 1 0 + n) (flying_as p fs) ∙ sym (flying-cons p f.0 f.1 fs)

-- in a legal history no page stands twice
pub once_of_legal : (shape : Shape) (h : History) → IsLegal shape h → (p : ℕ) → count_by (λ q. nat_eq q p) (standing shape h) ≤ 1
unfolding times
once_of_legal shape h l p =
    omega (arith, (legal_sound shape h l).once p, flying_as p (flights h), sum_by-append (λ q. cond (nat_eq q p) 1 0) (queue shape h) (pages (flights h)))
