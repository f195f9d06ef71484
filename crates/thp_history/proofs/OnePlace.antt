-- A page that stands in one place stands in no other: flights and the queue without a page.
use Rattle.std.proofs.Common.{◌≡◌, ℕ, ◌+◌, ◌<◌, ◌≤◌, Bool, true, false, cond, not, ◌&&◌, List, [], ◌∷◌, ◌++◌, map, refl, ap, ◌∙◌, arith, nat_eq, eq-eqb, count_by, filter}
use Rattle.std.proofs.lemmas.List.Sums.{sum_by-append}
use Rattle.std.proofs.lemmas.Bool.Decides.{nat_tests}
use Rattle.thp_history.specs.Prelude.{Shape, History, is_live, is_split, IsLegal, queue, flights, flight, has_page, without}
use Rattle.thp_history.proofs.Bools.{by_bool, and_both, or_first, or_second}
use Rattle.thp_history.proofs.Counting.{count_any, count-le}
use Rattle.thp_history.proofs.Standing.{Sound, legal_sound, stand, times, flying, times-cons, flying-cons, in_flight}

-- a page stands in the flight of c as often as in all flights at most
least : (p : ℕ) → times p [] ≤ flying p []
unfolding times flying
least p = omega arith

-- the flight of c is part of all flights
pub times_flight : (p c : ℕ) (fs : List (ℕ × ℕ)) → times p (map (λ (f : ℕ × ℕ). f.1) (filter (λ (f : ℕ × ℕ). nat_eq f.0 c) fs)) ≤ flying p fs
times_flight p c [] = least p
times_flight p c (f ∷ fs) = rw (flying-cons p f.0 f.1 fs) (go (nat_eq f.0 c) (times_flight p c fs)) where
  go : (b : Bool) → times p (map (λ (f : ℕ × ℕ). f.1) (filter (λ (f : ℕ × ℕ). nat_eq f.0 c) fs)) ≤ flying p fs →
      times p (map (λ (f : ℕ × ℕ). f.1) (cond b (f ∷ filter (λ (f : ℕ × ℕ). nat_eq f.0 c) fs) (filter (λ (f : ℕ × ℕ). nat_eq f.0 c) fs))) ≤ cond (nat_eq f.1 p) 1 0 + flying p fs
  go true l = omega (arith, times-cons p f.1 (map (λ (f : ℕ × ℕ). f.1) (filter (λ (f : ℕ × ℕ). nat_eq f.0 c) fs)), l)
  go false l = omega (arith, l)

-- in a legal history no page is twice in a flight, nor in the queue
pub once_flies : (shape : Shape) (h : History) (c p : ℕ) → IsLegal shape h → times p (flight h c) ≤ 1
once_flies shape h c p l = omega (arith, times_flight p c (flights h), (legal_sound shape h l).once p)

-- nor in the queue
pub once_queued : (shape : Shape) (h : History) (p : ℕ) → IsLegal shape h → times p (queue shape h) ≤ 1
once_queued shape h p l = omega (arith, (legal_sound shape h l).once p)

-- a page of a flight stands
pub flies_stands : (shape : Shape) (h : History) (c p : ℕ) → has_page p (flight h c) ≡ true → 0 < stand shape h p
unfolding flying
flies_stands shape h c p e = omega (arith, in_flight p c (flights h) e, less) where
  less : count_by (λ (f : ℕ × ℕ). nat_eq f.0 c && nat_eq f.1 p) (flights h) ≤ count_by (λ (f : ℕ × ℕ). nat_eq f.1 p) (flights h)
  less = count-le _ _ (flights h) (λ f y. (and_both (nat_eq f.0 c) (nat_eq f.1 p) y).1)

-- in a legal history a page of a flight is live and not split
pub flies_live : (shape : Shape) (h : History) (c p : ℕ) → IsLegal shape h → has_page p (flight h c) ≡ true → (is_live h p ≡ true) × (is_split h p ≡ false)
flies_live shape h c p l e =
    let s : Sound shape h = legal_sound shape h l in (s.live p (flies_stands shape h c p e), s.whole_page p (flies_stands shape h c p e))

-- a list has a page that stands in it, and none that doesn't
pub has_times : (p : ℕ) (ps : List ℕ) → has_page p ps ≡ true → 0 < times p ps
unfolding times
has_times p ps e = (count_any (λ q. nat_eq q p) ps).1 e

-- a page that stands in no place of a list isn't in it
pub hasnt_times : (p : ℕ) (ps : List ℕ) → times p ps ≡ 0 → has_page p ps ≡ false
unfolding times
hasnt_times p ps e = by_bool (has_page p ps) _ (λ y. absurd (let g = (count_any (λ q. nat_eq q p) ps).1 y in omega arith)) (λ y. y)

-- and the other way round
pub times_hasnt : (p : ℕ) (ps : List ℕ) → has_page p ps ≡ false → times p ps ≡ 0
unfolding times
times_hasnt p ps e = (count_any (λ q. nat_eq q p) ps).0 e

-- a page stands in two lists joined as often as in both
pub times-append : (p : ℕ) (ps qs : List ℕ) → times p (ps ++ qs) ≡ times p ps + times p qs
unfolding times
times-append p ps qs = sum_by-append (λ q. cond (nat_eq q p) 1 0) ps qs

-- a list without a page that isn't in it
pub without_none : (p : ℕ) (ps : List ℕ) → times p ps ≡ 0 → without p ps ≡ ps
without_none p [] e = refl
without_none p (q ∷ ps) e = go (nat_eq q p) refl (without_none p ps) where
  go : (b : Bool) → nat_eq q p ≡ b → (times p ps ≡ 0 → without p ps ≡ ps) → cond (not b) (q ∷ without p ps) (without p ps) ≡ q ∷ ps
  go true y f = absurd (omega (arith, e, times-cons p q ps, ap (λ b. cond {A = ℕ} b 1 0) y))
  go false y f = ap (λ x. q ∷ x) (f (omega (arith, e, times-cons p q ps)))

-- a list without its first page, which stands in it once
pub without_first : (p : ℕ) (ps : List ℕ) → times p (p ∷ ps) ≤ 1 → without p (p ∷ ps) ≡ ps
without_first p ps l = grind (arith, eq-eqb, without_none, times-cons)

-- the same behind a front that hasn't the page
pub without_middle : (p : ℕ) (ps qs : List ℕ) → times p (ps ++ p ∷ qs) ≤ 1 → without p (ps ++ p ∷ qs) ≡ ps ++ qs
without_middle p [] qs l = without_first p qs l
without_middle p (x ∷ ps) qs l =
    let one : cond {A = ℕ} (nat_eq p p) 1 0 ≡ 1 = ap (λ b. cond {A = ℕ} b 1 0) (eq-eqb p p refl) in
    go (nat_eq x p) refl (without_middle p ps qs (omega (arith, l, times-cons p x (ps ++ p ∷ qs)))) where
      go : (b : Bool) → nat_eq x p ≡ b → without p (ps ++ p ∷ qs) ≡ ps ++ qs → cond (not b) (x ∷ without p (ps ++ p ∷ qs)) (without p (ps ++ p ∷ qs)) ≡ x ∷ (ps ++ qs)
      go true y e = absurd (omega (arith, l, times-cons p x (ps ++ p ∷ qs), ap (λ b. cond {A = ℕ} b 1 0) y, times-append p ps (p ∷ qs), times-cons p p qs, ap (λ b. cond {A = ℕ} b 1 0) (eq-eqb p p refl)))
      go false y e = ap (λ zs. x ∷ zs) e

-- filters by tests that agree on the pages of the list
pub filter_in : (t u : ℕ → Bool) (ps : List ℕ) → ((p : ℕ) → has_page p ps ≡ true → t p ≡ u p) → filter t ps ≡ filter u ps
filter_in t u [] f = refl
filter_in t u (p ∷ ps) f =
    ap (λ b. cond b (p ∷ filter t ps) (filter t ps)) (f p (or_first (nat_eq p p) _ (eq-eqb p p refl)))
    ∙ ap (λ qs. cond (u p) (p ∷ qs) qs) (filter_in t u ps (λ q e. f q (or_second (nat_eq p q) _ e)))

-- a test of two pages the other way round
pub turned : (p q : ℕ) → nat_eq p q ≡ false → nat_eq q p ≡ false
turned p q e = grind (arith, nat_tests)

-- a page that stands once isn't in front of itself
pub not_before : (p : ℕ) (xs ys : List ℕ) → times p (xs ++ p ∷ ys) ≤ 1 → has_page p xs ≡ false
not_before p xs ys l = grind (arith, hasnt_times, times-append, times-cons, eq-eqb)
