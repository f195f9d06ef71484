-- Who stands, what enters, what is left alone, and what others do to a flight.
use Rattle.std.proofs.Common.{◌≡◌, ℕ, suc, ◌<◌, Bool, true, false, cond, not, ◌&&◌, ◌||◌, List, [], ◌∷◌, ◌++◌, Some, length, take, drop, refl, ap, sym, ◌∙◌, subst, arith, nat_eq, eq-eqb, eqb-true, append_assoc, slice_get, filter}
use Rattle.std.proofs.lemmas.List.Elements.{filter-append}
use Rattle.std.proofs.lemmas.List.Folds.{list_any-append}
use Rattle.thp_history.specs.Prelude.{Event, Outcome, Freed, What, Shape, History, by, some_event, is_live, is_split, is_closed, is_queued, is_freed, allocates, frees, flight_after, flight_by, outcome, IsLegal, FitsBy, enters, takes_of, is_others, acts_on, queue, flight, flights, has_page, stands, still_flying}
use Rattle.thp_history.specs.declared.events.What.TheVariants.{Alloc, MapWhole, UnmapWhole, MapSub, UnmapSub, SplitPmd, Pin, Unpin, Write, Zero, Taken, Split, Used, Back, Dropped, Close}
use Rattle.thp_history.specs.declared.events.What.TheVariants.{Pinned}
use Rattle.thp_history.proofs.Alive.{legal_grown}
use Rattle.thp_history.proofs.Allowed.{allowed_alloc, allowed_map_whole, allowed_unmap_whole, allowed_map_sub, allowed_unmap_sub, allowed_split_pmd, allowed_pin, allowed_unpin, allowed_write, allowed_zero}
use Rattle.thp_history.proofs.Blocks.{filter-filter}
use Rattle.thp_history.proofs.Bools.{by_bool, or_first, and_both, and-true, and-false, not_true}
use Rattle.thp_history.proofs.Counting.{count_any}
use Rattle.thp_history.proofs.Flights.{flight_push}
use Rattle.thp_history.proofs.LegalSteps.{legal_at, legal_take}
use Rattle.thp_history.proofs.ListPlaces.{append_none}
use Rattle.thp_history.proofs.OnePlace.{filter_in, flies_live}
use Rattle.thp_history.proofs.Pushes.{queue_push}
use Rattle.thp_history.proofs.Standing.{Sound, legal_sound, stand, times, flying, outcome_queued, any-pages, pages, first_has}

-- a page that stands is live and not split
pub up_by : (shape : Shape) (h : History) (p : ℕ) → stands shape h p ≡ true → 0 < stand shape h p
unfolding times flying
up_by shape h p e = grind (arith, by_bool, count_any, nat_eq, any-pages, list_any-append, pages)

-- a page that stands is live and not split
pub stands_whole : (shape : Shape) (h : History) → IsLegal shape h → (p : ℕ) → stands shape h p ≡ true → (is_live h p ≡ true) × (is_split h p ≡ false)
stands_whole shape h l p e = let s : Sound shape h = legal_sound shape h l in (s.live p (up_by shape h p e), s.whole_page p (up_by shape h p e))

-- nothing enters after a close
not_queued : (shape : Shape) (h k : History) (p : ℕ) (o : Outcome) → is_closed h ≡ true → o ≡ outcome shape h k p → is_queued o ≡ false
not_queued shape h k p x c e = grind (arith, outcome_queued)

-- an event that fits a closed node puts no page in
no_enter : (shape : Shape) (h k : History) (c : ℕ) (w : What) → is_closed h ≡ true → FitsBy shape h k c w → enters w ≡ false
no_enter shape h k c (Alloc p b) y f = absurd (let g : is_closed h ≡ false = (allowed_alloc shape h f.allowed).0 in cc)
no_enter shape h k c (UnmapWhole o p r) y f = not_queued shape h k p o y f.1.outcome_is
no_enter shape h k c (UnmapSub o p a m r) y f = not_queued shape h k p o y f.1.outcome_is
no_enter shape h k c (Unpin o p r) y f = not_queued shape h k p o y f.1.outcome_is
no_enter shape h k c (Back p) y f = absurd (let g : is_closed h ≡ false = f.1 in cc)
no_enter shape h k c w y f = refl

-- after a close nothing enters
pub none_enters : (shape : Shape) (h : History) → IsLegal shape h → (k : ℕ) (e : Event) → slice_get h k ≡ Some e → is_closed (take k h) ≡ true → enters e.what ≡ false
none_enters shape h l k e g y = no_enter shape (take k h) (take k h ++ e ∷ []) e.caller e.what y (l.each k e g)

-- a run of takes takes the queue's first pages
pub oldest : (shape : Shape) (h : History) (c : ℕ) (ps : List ℕ) → IsLegal shape (h ++ takes_of c ps) → ps ≡ take (length ps) (queue shape h)
oldest shape h c [] l = refl
oldest shape h c (p ∷ ps) l =
    let e : Event = by c (Taken p) in
    let L : History → Type 0 = λ x. IsLegal shape x in
    let more : IsLegal shape ((h ++ e ∷ []) ++ takes_of c ps) = subst L (sym (append_assoc h (e ∷ []) (takes_of c ps))) l in
    let first : slice_get (queue shape h) 0 ≡ Some p = (legal_at shape h e (takes_of c ps) l).oldest in
    go (queue shape h) ps p first (oldest shape (h ++ e ∷ []) c ps more ∙ ap (λ q. take (length ps) q) (queue_push shape h e)) where
      go : (q ps : List ℕ) (p : ℕ) → slice_get q 0 ≡ Some p → ps ≡ take (length ps) (drop 1 q) → p ∷ ps ≡ take (suc (length ps)) q
      go [] ps p e f = absurd (cc)
      go (x ∷ q) ps p e f = let s : x ≡ p = cc in cc

-- others' events only take freed pages out of a flight
filter_all : (ps : List ℕ) → filter (λ p. true) ps ≡ ps
filter_all [] = refl
filter_all (p ∷ ps) = ap (λ qs. p ∷ qs) (filter_all ps)

-- filters by tests that agree
filter_same : (t u : ℕ → Bool) (ps : List ℕ) → ((p : ℕ) → t p ≡ u p) → filter t ps ≡ filter u ps
filter_same t u [] f = refl
filter_same t u (p ∷ ps) f = ap (λ b. cond b (p ∷ filter t ps) (filter t ps)) (f p) ∙ ap (λ qs. cond (u p) (p ∷ qs) qs) (filter_same t u ps f)

-- a flight after an outcome is without the page if that freed it
by_free : (ps : List ℕ) (q : ℕ) (o : Outcome) → flight_by ps q o ≡ filter (λ p. not (nat_eq p q && is_freed o)) ps
by_free ps q Freed = filter_same (λ p. not (nat_eq p q)) (λ p. not (nat_eq p q && true)) ps (λ p. ap not (sym (and-true (nat_eq p q))))
by_free ps q o = sym (filter_same (λ p. not (nat_eq p q && false)) (λ p. true) ps (λ p. ap not (and-false (nat_eq p q))) ∙ filter_all ps)

-- a choice not taken
skip : (b : Bool) (qs ps : List ℕ) → b ≡ false → cond b qs ps ≡ ps
skip x qs ps e = grind arith

-- another caller's event takes out what it frees
after_other : (c d : ℕ) (ps : List ℕ) (w : What) → nat_eq d c ≡ false → flight_after c ps d w ≡ filter (λ p. not (frees p w)) ps
after_other c d ps (UnmapWhole o p r) e = by_free ps p o
after_other c d ps (UnmapSub o p f n r) e = by_free ps p o
after_other c d ps (Unpin o p r) e = by_free ps p o
after_other c d ps (Taken p) e = skip _ _ _ e ∙ sym (filter_all ps)
after_other c d ps (Split p r) e = skip _ _ _ e ∙ sym (filter_all ps)
after_other c d ps (Used p) e = skip _ _ _ e ∙ sym (filter_all ps)
after_other c d ps (Back p) e = skip _ _ _ e ∙ sym (filter_all ps)
after_other c d ps (Dropped p) e = skip _ _ _ e ∙ sym (filter_all ps)
after_other c d ps w e = sym (filter_all ps)

-- whatever the history
pub others_free : (h es : History) (c : ℕ) → is_others c es ≡ true → flight (h ++ es) c ≡ filter (λ p. not (some_event (frees p) es)) (flight h c)
unfolding some_event
others_free h [] c e = ap (λ x. flight x c) (append_none h) ∙ sym (filter_all (flight h c))
others_free h (e ∷ es) c o =
    let both : (not (nat_eq e.caller c) ≡ true) × (is_others c es ≡ true) = and_both _ _ o in
    ap (λ x. flight x c) (sym (append_assoc h (e ∷ []) es))
    ∙ others_free (h ++ e ∷ []) es c both.1
    ∙ ap (λ ps. filter (λ p. not (some_event (frees p) es)) ps) (flight_push h c e.caller e.what ∙ after_other c e.caller (flight h c) e.what (not_true _ both.0))
    ∙ filter-filter (λ p. not (some_event (frees p) es)) (λ p. not (frees p e.what)) (flight h c)
    ∙ filter_same _ _ (flight h c) (λ p. morgan (frees p e.what) (some_event (frees p) es)) where
      morgan : (a b : Bool) → (not a && not b) ≡ not (a || b)
      morgan true b = refl
      morgan false b = refl

-- a live page lives on unless an event frees it
pub still_live : (h es : History) (p : ℕ) → is_live h p ≡ true → not (some_event (frees p) es) ≡ is_live (h ++ es) p
unfolding some_event
still_live h es p l = grind (arith, list_any-append)

-- others' events leave the pages that are still live, in order
pub others_only_free : (shape : Shape) (h es : History) (c : ℕ) → IsLegal shape h → is_others c es ≡ true → flight (h ++ es) c ≡ filter (is_live (h ++ es)) (flight h c)
others_only_free shape h es c l o =
    others_free h es c o ∙ filter_in _ _ (flight h c) (λ p e. still_live h es p (flies_live shape h c p l e).0)

-- a front of a flight stays in front, without the pages that were freed
pub fronts_stay : (shape : Shape) (h es : History) (c : ℕ) (ps qs : List ℕ) → IsLegal shape h → is_others c es ≡ true → flight h c ≡ ps ++ qs →
    flight (h ++ es) c ≡ filter (is_live (h ++ es)) ps ++ filter (is_live (h ++ es)) qs
fronts_stay shape h es c ps qs l o e = grind (arith, others_only_free, filter-append)

-- a page is among those a filter keeps where it was there and passes
in_filter : (t : ℕ → Bool) (p : ℕ) (ps : List ℕ) → has_page p (filter t ps) ≡ (has_page p ps && t p)
in_filter t p [] = refl
in_filter t p (q ∷ ps) = one (t q) (nat_eq q p) refl refl (in_filter t p ps) where
  one : (a b : Bool) → t q ≡ a → nat_eq q p ≡ b → has_page p (filter t ps) ≡ (has_page p ps && t p) → has_page p (cond a (q ∷ filter t ps) (filter t ps)) ≡ ((b || has_page p ps) && t p)
  one true true e f g = ap (λ v. v || has_page p (filter t ps)) f ∙ sym (ap t (sym (eqb-true q p f)) ∙ e)
  one true false e f g = ap (λ v. v || has_page p (filter t ps)) f ∙ g
  one false true e f g = g ∙ none (has_page p ps) (t p) (ap t (sym (eqb-true q p f)) ∙ e) where
    none : (x y : Bool) → y ≡ false → (x && y) ≡ y
    none true y e = refl
    none false y e = sym e
  one false false e f g = g

-- what is left of a batch stays in front of its flight
pub batch_in_front : (shape : Shape) (h es : History) (c : ℕ) (ps qs : List ℕ) → IsLegal shape h → is_others c es ≡ true → flight h c ≡ still_flying h c ps ++ qs →
    flight (h ++ es) c ≡ still_flying (h ++ es) c ps ++ filter (is_live (h ++ es)) qs
batch_in_front shape h es c ps qs l o e = grind (arith, others_only_free, filter-append, filter-filter, filter_same, in_filter)

-- the page of an event that fits is live
acts_live : (shape : Shape) (h k : History) (c : ℕ) (w : What) (p : ℕ) → IsLegal shape h → FitsBy shape h k c w → acts_on p w ≡ true → is_live h p ≡ true
acts_live shape h k c (Alloc q b) p l f y = absurd (cc)
acts_live shape h k c (MapWhole q) p l f y = ap (is_live h) (eqb-true p q y) ∙ (allowed_map_whole shape h q f).0
acts_live shape h k c (UnmapWhole o q r) p l f y = ap (is_live h) (eqb-true p q y) ∙ (allowed_unmap_whole shape h q f.0).0
acts_live shape h k c (MapSub q a d) p l f y = ap (is_live h) (eqb-true p q y) ∙ (allowed_map_sub shape h q a d f).0
acts_live shape h k c (UnmapSub o q a d r) p l f y = ap (is_live h) (eqb-true p q y) ∙ (allowed_unmap_sub shape h q a d f.0).0
acts_live shape h k c (SplitPmd q) p l f y = ap (is_live h) (eqb-true p q y) ∙ (allowed_split_pmd shape h q f).0
acts_live shape h k c (Pin q) p l f y = ap (is_live h) (eqb-true p q y) ∙ (allowed_pin shape h q f).0
acts_live shape h k c (Unpin o q r) p l f y = ap (is_live h) (eqb-true p q y) ∙ (allowed_unpin shape h q f.0).0
acts_live shape h k c (Write q a d) p l f y = ap (is_live h) (eqb-true p q y) ∙ (allowed_write shape h q a d f).0
acts_live shape h k c (Zero q a d) p l f y = ap (is_live h) (eqb-true p q y) ∙ (allowed_zero shape h q a d f).0
acts_live shape h k c (Taken q) p l f y = ap (is_live h) (eqb-true p q y) ∙ (stands_whole shape h l q (first_stands (queue shape h) (pages (flights h)) q f.oldest)).0 where
  first_stands : (xs ys : List ℕ) (q : ℕ) → slice_get xs 0 ≡ Some q → has_page q (xs ++ ys) ≡ true
  first_stands [] ys q e = absurd (cc)
  first_stands (x ∷ xs) ys q e = let same : x ≡ q = cc in or_first _ _ (eq-eqb x q same)
acts_live shape h k c (Split q r) p l f y = ap (is_live h) (eqb-true p q y) ∙ (flies_live shape h c q l f.in_flight).0
acts_live shape h k c (Pinned q) p l f y = ap (is_live h) (eqb-true p q y) ∙ (flies_live shape h c q l f.0).0
acts_live shape h k c (Used q) p l f y = ap (is_live h) (eqb-true p q y) ∙ (flies_live shape h c q l f.0).0
acts_live shape h k c (Back q) p l f y = ap (is_live h) (eqb-true p q y) ∙ (flies_live shape h c q l (first_has q (flight h c) f.0)).0
acts_live shape h k c (Dropped q) p l f y = ap (is_live h) (eqb-true p q y) ∙ (flies_live shape h c q l (first_has q (flight h c) f.0)).0
acts_live shape h k c Close p l f y = absurd (cc)

-- at each event about a page the page is live
pub left_alone : (shape : Shape) (h : History) → IsLegal shape h → (k : ℕ) (e : Event) (p : ℕ) → slice_get h k ≡ Some e → acts_on p e.what ≡ true → is_live (take k h) p ≡ true
left_alone shape h l k e p g y = acts_live shape (take k h) (take k h ++ e ∷ []) e.caller e.what p (legal_take shape h k l) (l.each k e g) y

-- an allocation that fits is of a page that wasn't allocated
alloc_new : (shape : Shape) (h k : History) (c : ℕ) (w : What) (p : ℕ) → IsLegal shape h → FitsBy shape h k c w → allocates p w ≡ true → some_event (allocates p) h ≡ false
alloc_new shape h k c (Alloc q b) p l f y = ((legal_grown shape h l).numbered.fresh p (let z : p ≡ q = eqb-true p q y in omega (arith, f.number))).never
alloc_new shape h k c (MapWhole q) p l f y = absurd (cc)
alloc_new shape h k c (UnmapWhole o q r) p l f y = absurd (cc)
alloc_new shape h k c (MapSub q a d) p l f y = absurd (cc)
alloc_new shape h k c (UnmapSub o q a d r) p l f y = absurd (cc)
alloc_new shape h k c (SplitPmd q) p l f y = absurd (cc)
alloc_new shape h k c (Pin q) p l f y = absurd (cc)
alloc_new shape h k c (Unpin o q r) p l f y = absurd (cc)
alloc_new shape h k c (Write q a d) p l f y = absurd (cc)
alloc_new shape h k c (Zero q a d) p l f y = absurd (cc)
alloc_new shape h k c (Taken q) p l f y = absurd (cc)
alloc_new shape h k c (Split q r) p l f y = absurd (cc)
alloc_new shape h k c (Pinned q) p l f y = absurd (cc)
alloc_new shape h k c (Used q) p l f y = absurd (cc)
alloc_new shape h k c (Back q) p l f y = absurd (cc)
alloc_new shape h k c (Dropped q) p l f y = absurd (cc)
alloc_new shape h k c Close p l f y = absurd (cc)

-- a page is allocated once
pub new_once : (shape : Shape) (h : History) → IsLegal shape h → (k : ℕ) (e : Event) (p : ℕ) → slice_get h k ≡ Some e → allocates p e.what ≡ true →
    some_event (allocates p) (take k h) ≡ false
new_once shape h l k e p g y = alloc_new shape (take k h) (take k h ++ e ∷ []) e.caller e.what p (legal_take shape h k l) (l.each k e g) y

-- a flight starts empty
pub flight_none : (c : ℕ) → flight [] c ≡ []
unfolding flights
flight_none c = refl

-- the queue starts empty
pub queue_none : (shape : Shape) → queue shape [] ≡ []
unfolding queue
queue_none shape = refl
