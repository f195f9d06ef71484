-- Definitions and tests of one event more, and of one number more.
use Rattle.std.proofs.Common.{◌≡◌, ℕ, suc, ◌+◌, ◌<◌, Bool, true, false, cond, not, ◌&&◌, ◌||◌, nat_eq, nat_lt, List, map, [], ◌∷◌, ◌++◌, take, drop, length, get_or, set, Option, Some, None, refl, ap, sym, ◌∙◌, arith, inl, inr, ◌≢◌, eq-eqb, lt-ltb, add-one, le-ltb, filter, is_some}
use Rattle.std.proofs.lemmas.Bool.Decides.{eqb_tells}
use Rattle.std.proofs.lemmas.Bool.{cases_lt}
use Rattle.std.proofs.Math.Seq.{drop-cons}
use Rattle.std.proofs.lemmas.List.{map-append}
use Rattle.std.proofs.lemmas.List.Elements.{filter-append}
use Rattle.thp_history.specs.Prelude.{Event, What, Refusal, Shape, History, count_of, some_event, is_mapped, loses_use, queue, queue_after, flights, flights_after, is_taking, takes_by, first_of, set_of, some_below, each_below, is_partly_mapped, unmaps_some, get_or-set_of, length-set_of}
use Rattle.thp_history.proofs.Bools.{and-false}
use Rattle.thp_history.proofs.WordLemmas.{set_set_of, set_of-ext}
use Rattle.thp_history.proofs.ListPlaces.{step_of}
use Rattle.thp_history.proofs.Pushes.{count_of_push, some_event_push, queue_push, flights_push, is_taking_push, is_partly_mapped_push}
use Rattle.thp_history.proofs.Below.{each-not, each_below-ext}

-- a count of one event more
pub count_next : (t : What → Bool) (h : History) (k : ℕ) (e : Event) → k < length h → e ≡ get_or h k e →
    count_of t (take (k + 1) h) ≡ count_of t (take k h) + cond (t e.what) 1 0
count_next t h k e below is = ap (count_of t) (step_of h k e below is) ∙ count_of_push t (take k h) e

-- whether some event of one more passes
pub some_next : (t : What → Bool) (h : History) (k : ℕ) (e : Event) → k < length h → e ≡ get_or h k e →
    some_event t (take (k + 1) h) ≡ (some_event t (take k h) || t e.what)
some_next t h k e below is = ap (some_event t) (step_of h k e below is) ∙ some_event_push t (take k h) e

-- the queue and the flights after one event more
pub queue_next : (s : Shape) (h : History) (k : ℕ) (e : Event) → k < length h → e ≡ get_or h k e →
    queue s (take (k + 1) h) ≡ queue_after s (queue s (take k h)) e.what
queue_next s h k e below is = ap (queue s) (step_of h k e below is) ∙ queue_push s (take k h) e

pub flights_next : (h : History) (k : ℕ) (e : Event) → k < length h → e ≡ get_or h k e →
    flights (take (k + 1) h) ≡ flights_after (flights (take k h)) e.caller e.what
flights_next h k e below is = ap flights (step_of h k e below is) ∙ flights_push (take k h) e

-- whether a page is partly mapped after one event more
pub partly_next : (s : Shape) (h : History) (k : ℕ) (e : Event) (p : ℕ) (before after : History) → k < length h → e ≡ get_or h k e →
    before ≡ take k h → after ≡ take (k + 1) h →
    is_partly_mapped s (take (k + 1) h) p ≡ (is_partly_mapped s (take k h) p || (unmaps_some p e.what && (loses_use s before after p && is_mapped s after p)))
partly_next s h k e p before after below is was now =
    let step = step_of h k e below is in
    let next : after ≡ take k h ++ e ∷ [] = now ∙ step in
    ap (λ l. is_partly_mapped s l p) step ∙ is_partly_mapped_push s (take k h) e p
    ∙ rw (was, next) refl

-- a part of a conjunction that is known
pub and_then : (x a b : Bool) → x ≡ a → x ≡ true → b ≡ (a && b)
and_then x y b e t = grind arith

pub and_else : (x a b : Bool) → x ≡ a → x ≡ false → false ≡ (a && b)
and_else x y b e t = grind arith

-- numbers that aren't i are below i where they are below the next
below_same : (i k : ℕ) → (k ≢ i) → nat_lt k i ≡ nat_lt k (i + 1)
below_same i k f = elim (cases_lt k i) [ inl y ↦ lt-ltb k i y ∙ sym (lt-ltb k (i + 1) (omega arith)) | inr y ↦ le-ltb k i y ∙ sym (le-ltb k (i + 1) (omega arith)) ]

-- the numbers below i that pass, and i where it passes
below_step : (t : ℕ → Bool) (i k : ℕ) → t i ≡ true → (nat_eq k i || (nat_lt k i && t k)) ≡ (nat_lt k (i + 1) && t k)
below_step t i k e = grind (arith, eqb_tells, eq-eqb, lt-ltb, below_same)

-- the numbers below i that pass, where i doesn't
below_stay : (t : ℕ → Bool) (i k : ℕ) → t i ≡ false → (nat_lt k i && t k) ≡ (nat_lt k (i + 1) && t k)
below_stay t i k e = grind (arith, eqb_tells, and-false, nat_lt, below_same)

-- a set of the numbers below i that pass, and i
pub set_more : (t : ℕ → Bool) (i : ℕ) → i < 512 → t i ≡ true → set (set_of (λ j. nat_lt j i && t j)) i true ≡ set_of (λ j. nat_lt j (i + 1) && t j)
set_more t i below e =
    set_set_of (set_of (λ j. nat_lt j i && t j)) i (length-set_of (λ j. nat_lt j i && t j)) below
    ∙ set_of-ext _ _ (λ k h. ap (λ b. nat_eq k i || b) (get_or-set_of (λ j. nat_lt j i && t j) k h) ∙ below_step t i k e)

pub set_same : (t : ℕ → Bool) (i : ℕ) → t i ≡ false → set_of (λ j. nat_lt j i && t j) ≡ set_of (λ j. nat_lt j (i + 1) && t j)
set_same t i e = set_of-ext _ _ (λ k h. below_stay t i k e)

-- all numbers of a set are below 512
pub set_all : (t : ℕ → Bool) → set_of (λ j. nat_lt j 512 && t j) ≡ set_of t
set_all t = set_of-ext _ _ (λ k h. ap (λ b. b && t k) (lt-ltb k 512 h))

-- a reason that holds is the first of those from it on
pub first_yes : (rs : List (Bool × Refusal)) (k : ℕ) (d : Bool × Refusal) → k < length rs → (get_or rs k d).0 ≡ true →
    first_of (drop k rs) ≡ Some (get_or rs k d).1
first_yes rs k d below e = ap first_of (drop-cons rs k d below) ∙ ap (λ b. cond b (Some (get_or rs k d).1) (first_of (drop (suc k) rs))) e

-- one that doesn't hold isn't
pub first_no : (rs : List (Bool × Refusal)) (k : ℕ) (d : Bool × Refusal) → k < length rs → (get_or rs k d).0 ≡ false →
    first_of (drop k rs) ≡ first_of (drop (k + 1) rs)
first_no rs k d below e =
    ap first_of (drop-cons rs k d below) ∙ ap (λ b. cond b (Some (get_or rs k d).1) (first_of (drop (suc k) rs))) e
    ∙ ap (λ n. first_of (drop n rs)) (sym (add-one k))

-- whether the last event is a take, after one more
pub taking_next : (h : History) (c k : ℕ) (e : Event) → k < length h → e ≡ get_or h k e →
    is_taking (take (k + 1) h) c ≡ takes_by c e.caller e.what
taking_next h c k e below is = ap (λ l. is_taking l c) (step_of h k e below is) ∙ is_taking_push (take k h) c e

-- the pages of one flight more
pub pages_next : (fs : List (ℕ × ℕ)) (k : ℕ) (f : ℕ × ℕ) → k < length fs → f ≡ get_or fs k f →
    map (λ (x : ℕ × ℕ). x.1) (take (k + 1) fs) ≡ map (λ (x : ℕ × ℕ). x.1) (take k fs) ++ f.1 ∷ []
pages_next fs k f below is = ap (map (λ (x : ℕ × ℕ). x.1)) (step_of fs k f below is) ∙ map-append (λ (x : ℕ × ℕ). x.1) (take k fs) (f ∷ [])

-- the pages of caller c
abbrev pub pages_by : ℕ → List (ℕ × ℕ) → List ℕ
pages_by c fs = map (λ (x : ℕ × ℕ). x.1) (filter (λ (x : ℕ × ℕ). nat_eq x.0 c) fs)

-- those of one flight more
pub flight_next : (fs : List (ℕ × ℕ)) (c k : ℕ) (f : ℕ × ℕ) → k < length fs → f ≡ get_or fs k f →
    pages_by c (take (k + 1) fs) ≡ pages_by c (take k fs) ++ cond (nat_eq f.0 c) (f.1 ∷ []) []
flight_next fs c k f below is =
    ap (pages_by c) (step_of fs k f below is)
    ∙ ap (map (λ (x : ℕ × ℕ). x.1)) (filter-append (λ (x : ℕ × ℕ). nat_eq x.0 c) (take k fs) (f ∷ []))
    ∙ map-append (λ (x : ℕ × ℕ). x.1) (filter (λ (x : ℕ × ℕ). nat_eq x.0 c) (take k fs)) (filter (λ (x : ℕ × ℕ). nat_eq x.0 c) (f ∷ []))
    ∙ ap (λ l. pages_by c (take k fs) ++ l) (go (nat_eq f.0 c)) where
      go : (b : Bool) → map (λ (x : ℕ × ℕ). x.1) (cond b (f ∷ []) []) ≡ cond b (f.1 ∷ []) []
      go true = refl
      go false = refl

-- an alternative whose first part is known
pub or_then : (x y b : Bool) → x ≡ (y || b) → y ≡ true → x ≡ true
or_then x y b e f = grind arith

pub or_else : (x y b : Bool) → x ≡ (y || b) → y ≡ false → x ≡ b
or_else x y b e f = grind arith

-- each number passes where none fails
pub each_where : (n : ℕ) (f : ℕ → Bool) → not (some_below n (λ i. not (f i))) ≡ each_below n f
each_where n f = sym (each-not n (λ i. not (f i))) ∙ each_below-ext n (λ i. not (not (f i))) f (λ i below. twice (f i)) where
  twice : (b : Bool) → not (not b) ≡ b
  twice true = refl
  twice false = refl

-- no refusal, by the test that says so
pub none_is : (r : Option Refusal) (b : Bool) → is_some r ≡ not b → b ≡ true → r ≡ None
none_is x b e t = grind arith

pub some_is : (r : Option Refusal) (b : Bool) → is_some r ≡ not b → b ≡ false → r ≡ None → ⊥
some_is x y e t n = grind arith
