-- Where a page stands along a history: in the queue, in one flight, or nowhere.
use Rattle.std.proofs.Common.{◌≡◌, ℕ, ◌+◌, ◌<◌, ◌≤◌, Bool, true, false, cond, not, ◌||◌, List, [], ◌∷◌, ◌++◌, Option, Some, None, drop, refl, ap, ap₂, sym, ◌∙◌, arith, nat_eq, inl, inr, eq-eqb, eqb-true, slice_get, is_some, filter}
use Rattle.std.proofs.lemmas.List.Folds.{list_any-append}
use Rattle.std.proofs.lemmas.Bool.Decides.{eqb_tells}
use Rattle.thp_history.specs.declared.events.Event.{Event}
use Rattle.thp_history.specs.declared.events.Outcome.{Outcome}
use Rattle.thp_history.specs.declared.events.What.{What}
use Rattle.thp_history.specs.declared.events.What.TheVariants.{Alloc, MapWhole, UnmapWhole, MapSub, UnmapSub, SplitPmd, Pin, Unpin, Write, Zero, Taken, Split, Pinned, Used, Back, Dropped, Close}
use Rattle.thp_history.specs.declared.shape.Shape.{Shape}
use Rattle.thp_history.specs.Prelude.{History, Fits, FitsBy, queue, flights, flight, has_page, stands, queue_after, queue_by, flights_after, flights_by, without, leaves}
use Rattle.thp_history.proofs.Bools.{by_bool, or_none, or-false}
use Rattle.thp_history.proofs.Counting.{count_any}
use Rattle.thp_history.proofs.Pushes.{queue_push, flights_push}
use Rattle.thp_history.proofs.Standing.{Sound, stand, times, flying, flying-cons, flying-leaves, pages, any-pages}
use Rattle.thp_page.specs.declared.standing.Standing.TheVariants.{Nowhere, Queued, Batch}
use Rattle.thp_live_pages.specs.Prelude.{batch_left, is_nowhere, standing_of, flier, stands_by}

-- the page that an event moves or changes
abbrev pub names : ℕ → What → Bool
names p (Alloc q block) = nat_eq p q
names p (MapWhole q) = nat_eq p q
names p (UnmapWhole outcome q set) = nat_eq p q
names p (MapSub q first count) = nat_eq p q
names p (UnmapSub outcome q first count set) = nat_eq p q
names p (SplitPmd q) = nat_eq p q
names p (Pin q) = nat_eq p q
names p (Unpin outcome q set) = nat_eq p q
names p (Write q first count) = nat_eq p q
names p (Zero q first count) = nat_eq p q
names p (Taken q) = nat_eq p q
names p (Split q set) = nat_eq p q
names p (Pinned q) = nat_eq p q
names p (Used q) = nat_eq p q
names p (Back q) = nat_eq p q
names p (Dropped q) = nat_eq p q
names p Close = false

turn : (a b : ℕ) → nat_eq a b ≡ false → nat_eq b a ≡ false
turn a b e = elim (eqb_tells b a) [ inl y ↦ absurd (let g : nat_eq a b ≡ true = eq-eqb a b (sym y.1) in cc) | inr y ↦ y.0 ]

has_push : (q p : ℕ) (ps : List ℕ) → nat_eq q p ≡ false → has_page q (ps ++ p ∷ []) ≡ has_page q ps
has_push q p ps e = list_any-append (λ x. nat_eq x q) ps (p ∷ []) ∙ ap (λ b. has_page q ps || (b || false)) (turn q p e) ∙ or-false (has_page q ps)

pub has_pushed : (p : ℕ) (ps : List ℕ) → has_page p (ps ++ p ∷ []) ≡ true
has_pushed p ps = grind (arith, list_any-append, nat_eq, eq-eqb)

has_without : (q p : ℕ) (ps : List ℕ) → nat_eq q p ≡ false → has_page q (without p ps) ≡ has_page q ps
has_without q p [] e = refl
has_without q p (x ∷ ps) e =
    elim (eqb_tells x p) [
      | inl y ↦
          ap (λ b. has_page q (cond (not b) (x ∷ without p ps) (without p ps))) y.0 ∙ has_without q p ps e
          ∙ sym (ap (λ b. b || has_page q ps) (ap (λ n. nat_eq n q) y.1 ∙ turn q p e))
      | inr y ↦ ap (λ b. has_page q (cond (not b) (x ∷ without p ps) (without p ps))) y.0 ∙ ap (λ b. nat_eq x q || b) (has_without q p ps e)
    ]

pub has_not : (p : ℕ) (ps : List ℕ) → has_page p (without p ps) ≡ false
has_not p [] = refl
has_not p (x ∷ ps) = go (nat_eq x p) refl (has_not p ps) where
  go : (b : Bool) → nat_eq x p ≡ b → has_page p (without p ps) ≡ false → has_page p (cond (not b) (x ∷ without p ps) (without p ps)) ≡ false
  go true e n = n
  go false e n = ap (λ b. b || has_page p (without p ps)) e ∙ n

-- the flier of another page, where an entry joins or entries of page p leave
flier_push : (q p c : ℕ) (fs : List (ℕ × ℕ)) → nat_eq q p ≡ false → flier q (fs ++ (c, p) ∷ []) ≡ flier q fs
flier_push q p c [] e = ap (λ b. cond b (Some c) None) (turn q p e)
flier_push q p c (f ∷ fs) e = ap (λ o. cond (nat_eq f.1 q) (Some f.0) o) (flier_push q p c fs e)

flier_filter : (q : ℕ) (t : ℕ × ℕ → Bool) (fs : List (ℕ × ℕ)) → ((f : ℕ × ℕ) → nat_eq f.1 q ≡ true → t f ≡ true) → flier q (filter t fs) ≡ flier q fs
flier_filter q t [] k = refl
flier_filter q t (f ∷ fs) k = go (t f) (nat_eq f.1 q) refl refl (flier_filter q t fs k) where
  go : (a b : Bool) → t f ≡ a → nat_eq f.1 q ≡ b → flier q (filter t fs) ≡ flier q fs →
      flier q (cond a (f ∷ filter t fs) (filter t fs)) ≡ cond b (Some f.0) (flier q fs)
  go true b e g n = ap (λ x. cond x (Some f.0) (flier q (filter t fs))) g ∙ ap (λ o. cond b (Some f.0) o) n
  go false true e g n = absurd (let y : t f ≡ true = k f g in cc)
  go false false e g n = n

apart_entry : (q p : ℕ) (f : ℕ × ℕ) → nat_eq q p ≡ false → nat_eq f.1 q ≡ true → nat_eq f.1 p ≡ false
apart_entry q p f e g = ap (λ n. nat_eq n p) (eqb-true f.1 q g) ∙ e

flier_leaves : (q p c : ℕ) (fs : List (ℕ × ℕ)) → nat_eq q p ≡ false → flier q (leaves c p fs) ≡ flier q fs
flier_leaves q p c fs e = grind (arith, flier_filter, nat_eq, apart_entry)

flier_by : (q p : ℕ) (o : Outcome) (fs : List (ℕ × ℕ)) → nat_eq q p ≡ false → flier q (flights_by fs p o) ≡ flier q fs
flier_by q p x fs e = grind (arith, flier_filter, nat_eq, apart_entry)

has_by : (q p : ℕ) (o : Outcome) (ps : List ℕ) → nat_eq q p ≡ false → has_page q (queue_by ps p o) ≡ has_page q ps
has_by q p x ps e = grind (arith, has_without, has_push)

has_rest : (q p : ℕ) (ps : List ℕ) → slice_get ps 0 ≡ Some p → nat_eq q p ≡ false → has_page q (drop 1 ps) ≡ has_page q ps
has_rest q p x f e = grind (arith, nat_eq, turn)

-- the queue and the fliers of a page that an event doesn't name
queue_other : (s : Shape) (h k : History) (c : ℕ) (w : What) (q : ℕ) → FitsBy s h k c w → names q w ≡ false → has_page q (queue_after s (queue s h) w) ≡ has_page q (queue s h)
queue_other s h k c x q f e = grind (arith, has_push, has_by, has_rest)

flier_other : (h : History) (c : ℕ) (w : What) (q : ℕ) → names q w ≡ false → flier q (flights_after (flights h) c w) ≡ flier q (flights h)
flier_other h c x q e = grind (arith, flier_by, flier_push, flier_leaves)

-- the last event changes where a page stands so
pub standing_push : (s : Shape) (h : History) (e : Event) (p : ℕ) →
    standing_of s (h ++ e ∷ []) p ≡ stands_by (has_page p (queue_after s (queue s h) e.what)) (flier p (flights_after (flights h) e.caller e.what))
unfolding standing_of
standing_push s h e p = ap₂ (λ ps fs. stands_by (has_page p ps) (flier p fs)) (queue_push s h e) (flights_push h e)

-- a page that an event doesn't name stands where it stood
pub standing_other : (s : Shape) (h : History) (e : Event) (q : ℕ) → Fits s h e → names q e.what ≡ false → standing_of s (h ++ e ∷ []) q ≡ standing_of s h q
unfolding standing_of
standing_other s h e q f n = grind (arith, standing_push, queue_other, flier_other)

-- an event that leaves the queue and the flights leaves each page where it stands
pub standing_same : (s : Shape) (h : History) (e : Event) (q : ℕ) → queue_after s (queue s h) e.what ≡ queue s h → flights_after (flights h) e.caller e.what ≡ flights h →
    standing_of s (h ++ e ∷ []) q ≡ standing_of s h q
unfolding standing_of
standing_same s h e q f g = standing_push s h e q ∙ ap₂ (λ ps fs. stands_by (has_page q ps) (flier q fs)) f g

-- a page in no flight has no flier
pub no_flier : (p : ℕ) (fs : List (ℕ × ℕ)) → has_page p (pages fs) ≡ false → flier p fs ≡ None
no_flier p [] e = refl
no_flier p (f ∷ fs) e = let w = or_none _ _ e in ap (λ b. cond b (Some f.0) (flier p fs)) w.0 ∙ no_flier p fs w.1

-- how often a page stands, by the tests
none_of : (p : ℕ) (ps : List ℕ) → times p ps ≡ 0 → has_page p ps ≡ false
unfolding times
none_of p ps e = by_bool (has_page p ps) _ (λ y. absurd (let g = (count_any (λ q. nat_eq q p) ps).1 y in omega arith)) (λ y. y)

some_of : (p : ℕ) (ps : List ℕ) → has_page p ps ≡ true → 0 < times p ps
unfolding times
some_of p ps e = (count_any (λ q. nat_eq q p) ps).1 e

no_flying : (p : ℕ) (fs : List (ℕ × ℕ)) → flying p fs ≡ 0 → flier p fs ≡ None
unfolding flying
no_flying p fs e = grind (arith, no_flier, by_bool, pages, count_any, nat_eq, any-pages)

-- the flier of a page has it in its flight
pub flier_has : (p c : ℕ) (fs : List (ℕ × ℕ)) → flier p fs ≡ Some c → has_page p (pages (filter (λ (f : ℕ × ℕ). nat_eq f.0 c) fs)) ≡ true
flier_has p c [] e = absurd (cc)
flier_has p c (f ∷ fs) e = go (nat_eq f.1 p) (nat_eq f.0 c) refl refl e (flier_has p c fs) where
  go : (a b : Bool) → nat_eq f.1 p ≡ a → nat_eq f.0 c ≡ b → cond a (Some f.0) (flier p fs) ≡ Some c → (flier p fs ≡ Some c → has_page p (pages (filter (λ (g : ℕ × ℕ). nat_eq g.0 c) fs)) ≡ true) →
      has_page p (pages (cond b (f ∷ filter (λ (g : ℕ × ℕ). nat_eq g.0 c) fs) (filter (λ (g : ℕ × ℕ). nat_eq g.0 c) fs))) ≡ true
  go true true x y z n = ap (λ b. b || has_page p (pages (filter (λ (g : ℕ × ℕ). nat_eq g.0 c) fs))) x
  go true false x y z n = absurd (let same : f.0 ≡ c = cc in let yes = eq-eqb f.0 c same in cc)
  go false true x y z n = ap (λ b. b || has_page p (pages (filter (λ (g : ℕ × ℕ). nat_eq g.0 c) fs))) x ∙ n z
  go false false x y z n = n z

-- what a flight has is in the flights
flight_flies : (p c : ℕ) (fs : List (ℕ × ℕ)) → has_page p (pages (filter (λ (f : ℕ × ℕ). nat_eq f.0 c) fs)) ≡ true → 0 < flying p fs
flight_flies p c fs e = omega (arith, flying-leaves p c fs e)

-- a page that stands once in the flights has the flier in whose flight it is
flier_once : (p c : ℕ) (fs : List (ℕ × ℕ)) → flying p fs ≤ 1 → has_page p (pages (filter (λ (f : ℕ × ℕ). nat_eq f.0 c) fs)) ≡ true → flier p fs ≡ Some c
flier_once p c [] l e = absurd (cc)
flier_once p c (f ∷ fs) l e = go (nat_eq f.1 p) (nat_eq f.0 c) refl refl (omega (arith, flying-cons p f.0 f.1 fs, l)) e (flight_flies p c fs) (flier_once p c fs) where
  inside : (b : Bool) → b ≡ true → 1 ≤ cond {A = ℕ} b 1 0
  inside true x = omega arith
  inside false x = absurd (cc)

  go : (a b : Bool) → nat_eq f.1 p ≡ a → nat_eq f.0 c ≡ b → cond (nat_eq f.1 p) 1 0 + flying p fs ≤ 1 →
      has_page p (pages (cond b (f ∷ filter (λ (g : ℕ × ℕ). nat_eq g.0 c) fs) (filter (λ (g : ℕ × ℕ). nat_eq g.0 c) fs))) ≡ true →
      (has_page p (pages (filter (λ (g : ℕ × ℕ). nat_eq g.0 c) fs)) ≡ true → 0 < flying p fs) →
      (flying p fs ≤ 1 → has_page p (pages (filter (λ (g : ℕ × ℕ). nat_eq g.0 c) fs)) ≡ true → flier p fs ≡ Some c) → cond a (Some f.0) (flier p fs) ≡ Some c
  go true true x y m z u n = ap (λ n. Some n) (eqb-true f.0 c y)
  go true false x y m z u n = absurd (omega (arith, m, u z, inside (nat_eq f.1 p) x))
  go false true x y m z u n = n (omega (arith, m)) (sym (ap (λ b. b || has_page p (pages (filter (λ (g : ℕ × ℕ). nat_eq g.0 c) fs))) x) ∙ z)
  go false false x y m z u n = n (omega (arith, m)) z

-- where a page of the queue, of a flight, and of neither stands
pub standing_queued : (s : Shape) (h : History) (p : ℕ) → has_page p (queue s h) ≡ true → standing_of s h p ≡ Queued
unfolding standing_of
standing_queued s h p e = ap (λ b. stands_by b (flier p (flights h))) e

pub standing_flying : (s : Shape) (h : History) (p c : ℕ) → Sound s h → has_page p (flight h c) ≡ true → standing_of s h p ≡ Batch c
unfolding standing_of
standing_flying s h p c sound e =
    let up : 0 < flying p (flights h) = flight_flies p c (flights h) e in
    ap₂ stands_by (none_of p (queue s h) (omega (arith, sound.once p))) (flier_once p c (flights h) (omega (arith, sound.once p)) e)

pub standing_none : (s : Shape) (h : History) (p : ℕ) → stand s h p ≡ 0 → standing_of s h p ≡ Nowhere
unfolding standing_of
standing_none s h p e = ap₂ stands_by (none_of p (queue s h) (omega arith)) (no_flying p (flights h) (omega arith))

-- the other way round: what a standing says
by_standing : (b : Bool) (o : Option ℕ) → stands_by b o ≡ Queued → b ≡ true
by_standing x o e = grind arith

pub queued_has : (s : Shape) (h : History) (p : ℕ) → standing_of s h p ≡ Queued → has_page p (queue s h) ≡ true
unfolding standing_of
queued_has s h p e = by_standing _ _ e

by_batch : (b : Bool) (o : Option ℕ) (c : ℕ) → stands_by b o ≡ Batch c → (b ≡ false) × (o ≡ Some c)
by_batch x o c e = grind arith

-- a page that stands in the batch of a caller is in its flight, and not in the queue
pub batch_has : (s : Shape) (h : History) (p c : ℕ) → standing_of s h p ≡ Batch c → (has_page p (flight h c) ≡ true) × (flier p (flights h) ≡ Some c) × (has_page p (queue s h) ≡ false)
unfolding standing_of
batch_has s h p c e = let w = by_batch _ _ c e in (flier_has p c (flights h) w.1, w.1, w.0)

-- the flier of a page is determined by where the page stands
pub batch_is : (s : Shape) (h : History) (p : ℕ) → Sound s h → batch_left (standing_of s h p) ≡ flier p (flights h)
unfolding standing_of
batch_is s h p sound = grind (arith, no_flying, some_of)

has_pages : (p : ℕ) (fs : List (ℕ × ℕ)) → has_page p (pages fs) ≡ is_some (flier p fs)
has_pages p [] = refl
has_pages p (f ∷ fs) = go (nat_eq f.1 p) (has_pages p fs) where
  go : (b : Bool) → has_page p (pages fs) ≡ is_some (flier p fs) → (b || has_page p (pages fs)) ≡ is_some (cond b (Some f.0) (flier p fs))
  go true n = refl
  go false n = n

-- whether a page stands in the queue or a flight is determined by where it stands
pub stands_is : (s : Shape) (h : History) (p : ℕ) → stands s h p ≡ not (is_nowhere (standing_of s h p))
unfolding standing_of
stands_is s h p = grind (arith, list_any-append, nat_eq, pages, has_pages, is_some)
