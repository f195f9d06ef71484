-- Steps of a caller, one after another, in histories that go on.
use Rattle.std.proofs.Common.{◌≡◌, ◌∙◌, None, ◌++◌, ◌+◌, ◌<◌, ◌≤◌, ◌==◌, ap, ℕ, Bool, true, false, List, [], ◌∷◌, length, take, drop, get_or, Option, refl, sym, subst, ◌⊎◌, inl, inr, arith, ◌-◌, append_assoc, length-append, All, AllPairs, nat_eq, filter}
use Rattle.std.proofs.Math.Seq.{take-append_seam, drop-append_seam, take-length}
use Rattle.std.proofs.lemmas.Bool.{eqb-true, eqb-false, eq-eqb, ne_eqb, cases_lt}
use Rattle.std.proofs.lemmas.Grind.{flat_map-append}
use Rattle.std.proofs.lemmas.List.{append-nil, take-append-le, drop-append-le, length-drop, get_or_append_left, get_or-append_right}
use Rattle.std.proofs.lemmas.List.Elements.{filter-append, All-nil, All-cons, All-append, All-head, All-tail, All-weaker}
use Rattle.thp_history.specs.declared.events.Event.{Event}
use Rattle.thp_history.specs.declared.shape.Shape.{Shape}
use Rattle.thp_history.specs.Prelude.{History, events_of, IsLegal}
use Rattle.thp_worker.specs.Prelude.{Step, PutBack, Open, Reaction, Does, StepAnswer, Fronts, HoldsCaller, IsOfOthers, SameHolding, Moves, Answered, Goes, Grows, Made, IsMade, ComesBefore, own_events, with_batch, batches_after, Carries, Steps, step_results}

-- ---- events by callers

events_of-append : (c : ℕ) (h k : History) → events_of c (h ++ k) ≡ events_of c h ++ events_of c k
unfolding events_of
events_of-append c h k = filter-append (λ (e : Event). nat_eq e.caller c) h k

all_own : (c : ℕ) (es : List Event) → All (λ (e : Event). e.caller ≡ c) es → events_of c es ≡ es
unfolding events_of
all_own c [] all = refl
all_own c (e ∷ es) all =
    let rest : filter (λ (x : Event). nat_eq x.caller c) es ≡ es = all_own c es (All-tail (λ (x : Event). x.caller ≡ c) e es all) in
    rw (eq-eqb e.caller c (all 0 e (omega arith)), rest) refl

none_own : (c : ℕ) (es : List Event) → All (λ (e : Event). e.caller ≡ c → ⊥) es → events_of c es ≡ []
unfolding events_of
none_own c [] all = refl
none_own c (e ∷ es) all =
    let rest : filter (λ (x : Event). nat_eq x.caller c) es ≡ [] = none_own c es (All-tail (λ (x : Event). x.caller ≡ c → ⊥) e es all) in
    rw (ne_eqb e.caller c (all 0 e (omega arith)), rest) refl

-- an event of somebody else isn't by a caller of the holder
not_other : (f : Fronts) (d : ℕ) (es : List Event) → HoldsCaller f d → All (IsOfOthers f) es → events_of d es ≡ []
not_other f d es has all = none_own d es (λ k e lt same. let other = all k e lt in let high = other (omega (arith, has.low, same)) in absurd (omega (arith, has.high, high, same)))

-- ---- holders that go on

pub same_refl : (f : Fronts) → SameHolding f f
same_refl f = record { cells = refl; nodes = refl; shape = refl; callers = refl; first = refl; end = refl }

pub goes_refl : (c : ℕ) (f : Fronts) → Goes c f f
goes_refl c f = grind (arith, same_refl, append-nil)

pub same_trans : (f g h : Fronts) → SameHolding f g → SameHolding g h → SameHolding f h
same_trans f g h a b = record { cells = b.cells ∙ a.cells; nodes = b.nodes ∙ a.nodes; shape = b.shape ∙ a.shape; callers = b.callers ∙ a.callers; first = b.first ∙ a.first; end = b.end ∙ a.end }

pub has_later : (f g : Fronts) (d : ℕ) → SameHolding f g → HoldsCaller f d → HoldsCaller g d
has_later f g d same has = record { low = rw same.first has.low; high = rw same.end has.high }

pub goes_trans : (c : ℕ) (f g h : Fronts) → Goes c f g → Goes c g h → Goes c f h
goes_trans c f g h a b = record {
  same = same_trans f g h a.same b.same;
  grown = λ n. (
    (a.grown n).0 ++ (b.grown n).0,
    (b.grown n).1 ∙ ap (λ h. h ++ (b.grown n).0) (a.grown n).1 ∙ append_assoc (f.front n) (a.grown n).0 (b.grown n).0,
  );
  others = λ d n has other. b.others d n (has_later f g d a.same has) other ∙ a.others d n has other;
  others_batches = λ d n other. b.others_batches d n other ∙ a.others_batches d n other;
  legal = λ n legal. let then = b.legal n in rw a.same.shape at then (a.legal n legal);
}

-- a step of caller c on node n
module _ (c n : ℕ) (old new : Fronts) (others own : List Event) (after : Option Open) (m : Moves c n old new others own after) where
  goes_on : (k : ℕ) → (more : History) × (new.front k ≡ old.front k ++ more)
  goes_on k = by_cases (k == n) refl
    where
      by_cases : (b : Bool) → (k == n) ≡ b → (more : History) × (new.front k ≡ old.front k ++ more)
      by_cases true e =
          let same : k ≡ n = eqb-true k n e in
          (others ++ own, rw same (m.front ∙ append_assoc (old.front n) others own))
      by_cases false e = ([], m.elsewhere k (eqb-false k n e) ∙ sym (append-nil (old.front k)))

  others_stay : (d k : ℕ) → HoldsCaller old d → (d ≡ c → ⊥) → events_of d (new.front k) ≡ events_of d (old.front k)
  others_stay d k has other = grind (arith, eqb-true, not_other, none_own, events_of-append, append-nil, eqb-false)

  legal_stays : (k : ℕ) → IsLegal (old.shape k) (old.front k) → IsLegal (old.shape k) (new.front k)
  legal_stays k legal = grind (arith, eqb-true, eqb-false)

  pub moves_goes : Goes c old new
  moves_goes = grind (arith, goes_on, others_stay, legal_stays)

-- ---- steps in histories that go on

pub is_made_stays : (shape : ℕ → Shape) (h k : ℕ → History) (c : ℕ) → ((n : ℕ) → (more : History) × (k n ≡ h n ++ more)) → (made : Made) → IsMade shape h c made → IsMade shape k c made
is_made_stays shape h k c on made s =
    let now = h made.node in
    let more = (on made.node).0 in
    let is : k made.node ≡ now ++ more = (on made.node).1 in
    let before : made.before ≤ length now = omega (arith, s.within) in
    let room : length made.own ≤ length (drop made.before now) = omega (arith, s.within, length-drop made.before now) in
    let same-before : take made.before (k made.node) ≡ take made.before now = rw is (take-append-le made.before now more before) in
    let behind : drop made.before (k made.node) ≡ drop made.before now ++ more = rw is (drop-append-le made.before now more before) in
    record {
      within = rw is (omega (arith, s.within, length-append now more));
      stands = rw (behind, take-append-le (length made.own) (drop made.before now) more room) s.stands;
      does = rw same-before s.does;
    }

own_events-append : (n : ℕ) (xs ys : List Made) → own_events n (xs ++ ys) ≡ own_events n xs ++ own_events n ys
own_events-append n xs ys = grind (arith, filter-append, nat_eq, flat_map-append)

pub batches_after-append : (bs : ℕ → Option Open) (xs ys : List Made) → batches_after bs (xs ++ ys) ≡ batches_after (batches_after bs xs) ys
unfolding batches_after
batches_after-append bs [] ys = refl
batches_after-append bs (x ∷ xs) ys = batches_after-append (with_batch bs x.node x.after) xs ys

carries-append : (bs : ℕ → Option Open) (xs ys : List Made) → Carries bs xs → Carries (batches_after bs xs) ys → Carries bs (xs ++ ys)
unfolding Carries batches_after
carries-append bs [] ys a b = b
carries-append bs (x ∷ xs) ys a b = (a.0, carries-append (with_batch bs x.node x.after) xs ys a.1 b)

pairs-append : (xs ys : List Made) (len : ℕ → ℕ) → AllPairs ComesBefore xs → AllPairs ComesBefore ys → All (λ (m : Made). m.before + length m.own ≤ len m.node) xs → All (λ (m : Made). len m.node ≤ m.before) ys → AllPairs ComesBefore (xs ++ ys)
pairs-append xs ys len a b ends begins i j d lt within = by_cases (nat_lt_or i (length xs)) (nat_lt_or j (length xs))
  where
    nat_lt_or : (p q : ℕ) → (p < q) ⊎ (q ≤ p)
    nat_lt_or p q = cases_lt p q

    by_cases : (i < length xs) ⊎ (length xs ≤ i) → (j < length xs) ⊎ (length xs ≤ j) → ComesBefore (get_or (xs ++ ys) i d) (get_or (xs ++ ys) j d)
    by_cases (inl p) (inl q) = rw (get_or_append_left xs ys d i p, get_or_append_left xs ys d j q) (a i j d lt q)
    by_cases (inl p) (inr q) =
        let room : j - length xs < length ys = omega (arith, length-append xs ys, q, within) in
        let x = get_or xs i d in
        let y = get_or ys (j - length xs) d in
        let ended = ends i d p in
        let begun = begins (j - length xs) d room in
        rw (get_or_append_left xs ys d i p, get_or-append_right xs ys (length xs) j d refl q)
        (λ same. let e : len x.node ≡ len y.node = ap len same in omega (arith, ended, begun, e))
    by_cases (inr p) (inl q) = absurd (omega (arith, lt, p, q))
    by_cases (inr p) (inr q) =
        let room : j - length xs < length ys = omega (arith, length-append xs ys, q, within) in
        rw (get_or-append_right xs ys (length xs) i d refl p, get_or-append_right xs ys (length xs) j d refl q)
        (b (i - length xs) (j - length xs) d (omega (arith, lt, p, q)) room)

pub goes_grows : (c : ℕ) (f g : Fronts) → Goes c f g → Grows f g
goes_grows c f g a = grind arith

pub grows_refl : (f : Fronts) → Grows f f
grows_refl f = grind (arith, append-nil)

pub grows_trans : (f g h : Fronts) → Grows f g → Grows g h → Grows f h
grows_trans f g h a b = record {
  same = record { cells = b.same.cells ∙ a.same.cells; nodes = b.same.nodes ∙ a.same.nodes; shape = b.same.shape ∙ a.same.shape; callers = b.same.callers ∙ a.same.callers };
  grown = λ n. (
    (a.grown n).0 ++ (b.grown n).0,
    (b.grown n).1 ∙ ap (λ h. h ++ (b.grown n).0) (a.grown n).1 ∙ append_assoc (f.front n) (a.grown n).0 (b.grown n).0,
  );
}

-- steps, and then more of them
pub steps_then : (c : ℕ) (old mid new : Fronts) (xs ys : List Made) → Grows old mid → Grows mid new → Steps c old mid xs → Steps c mid new ys → Steps c old new (xs ++ ys)
steps_then c old mid new xs ys g k a b = record {
  each = All-append (IsMade old.shape new.front c) xs ys
      (All-weaker (IsMade old.shape mid.front c) (IsMade old.shape new.front c) (is_made_stays old.shape mid.front new.front c k.grown) xs a.each)
      (rw g.same.shape at b.each);
  in_order = pairs-append xs ys (λ n. length (mid.front n)) a.in_order b.in_order
      (All-weaker (IsMade old.shape mid.front c) (λ (m : Made). m.before + length m.own ≤ length (mid.front m.node)) (λ m is. is.within) xs a.each) b.behind;
  behind = All-append (λ (m : Made). length (old.front m.node) ≤ m.before) xs ys a.behind
      (All-weaker (λ (m : Made). length (mid.front m.node) ≤ m.before) (λ (m : Made). length (old.front m.node) ≤ m.before) (λ m le. farther m.node m.before le) ys b.behind);
  own = λ n. rw (b.own n, a.own n, own_events-append n xs ys) (append_assoc (events_of c (old.front n)) (own_events n xs) (own_events n ys));
  carries = carries-append (old.batches c) xs ys a.carries (subst (λ bs. Carries bs ys) batches_are b.carries);
  batches = λ n. b.batches n ∙ ap (λ bs. batches_after bs ys n) batches_are ∙ ap (λ f. f n) (sym (batches_after-append (old.batches c) xs ys));
}
  where
    batches_are : mid.batches c ≡ batches_after (old.batches c) xs
    batches_are = λ i n. a.batches n i

    farther : (n before : ℕ) → length (mid.front n) ≤ before → length (old.front n) ≤ before
    farther n before le =
        let more = g.grown n in
        let grown : length (mid.front n) ≡ length (old.front n ++ more.0) = ap length more.1 in
        omega (arith, grown, length-append (old.front n) more.0, le)

-- no step
pub steps_none : (c : ℕ) (f : Fronts) → Steps c f f []
unfolding batches_after Carries
steps_none c f = grind (arith, All-nil, append-nil)

-- the step of caller c on node n that was answered
abbrev pub made_by : (c n : ℕ) (step : Step) (old new : Fronts) (answer : Reaction) → Answered c n step old new answer → Made
made_by c n step old new answer a = record {
  node = n;
  before = length (old.front n ++ a.others);
  batch = old.batches c n;
  own = a.own;
  reported = record { step = step; answer = answer };
  after = a.after;
}

module _ (c n : ℕ) (step : Step) (old new : Fronts) (answer : Reaction) (a : Answered c n step old new answer) (has : HoldsCaller old c) where
  is_made : IsMade old.shape new.front c (made_by c n step old new answer a)
  is_made = grind (arith, length-append, drop-append_seam, take-length, take-append_seam)

  own_grows : (k : ℕ) → events_of c (new.front k) ≡ events_of c (old.front k) ++ own_events k (made_by c n step old new answer a ∷ [])
  own_grows k = by_cases (k == n) refl
    where
      by_cases : (b : Bool) → (k == n) ≡ b → events_of c (new.front k) ≡ events_of c (old.front k) ++ own_events k (made_by c n step old new answer a ∷ [])
      by_cases true e =
          let same : k ≡ n = eqb-true k n e in
          let by-others : events_of c a.others ≡ [] = not_other old c a.others has a.moves.by_others in
          rw (eq-eqb n k (sym same), append-nil a.own, same, a.moves.front, events_of-append c (old.front n ++ a.others) a.own, events_of-append c (old.front n) a.others, by-others, all_own c a.own a.moves.by_caller, append-nil (events_of c (old.front n))) refl
      by_cases false e =
          let other : (k ≡ n → ⊥) = eqb-false k n e in
          rw (ne_eqb n k (λ same. other (sym same)), append-nil (events_of c (old.front k)), a.moves.elsewhere k other) refl

  batches_are_after : (k : ℕ) → new.batches c k ≡ with_batch (old.batches c) n a.after k
  batches_are_after k = grind (arith, eqb-true, eqb-false)

  -- one step
  pub steps_one : Steps c old new (made_by c n step old new answer a ∷ [])
  unfolding batches_after Carries
  steps_one = grind (arith, All-cons, is_made, All-nil, length-append, own_grows, batches_are_after)

-- what was made stays where the histories go on by others
pub steps_stay : (c : ℕ) (old new later : Fronts) (ms : List Made) → Steps c old new ms → ((n : ℕ) → (more : History) × (later.front n ≡ new.front n ++ more)) → ((n : ℕ) → events_of c (later.front n) ≡ events_of c (new.front n))
    → ((n : ℕ) → later.batches c n ≡ new.batches c n) → Steps c old later ms
steps_stay c old new later ms s grown part batches = record {
  each = All-weaker (IsMade old.shape new.front c) (IsMade old.shape later.front c) (is_made_stays old.shape new.front later.front c grown) ms s.each;
  in_order = s.in_order;
  behind = s.behind;
  own = λ n. part n ∙ s.own n;
  carries = s.carries;
  batches = λ n. batches n ∙ s.batches n;
}

-- steps on one node leave the open batches on the others
pub batches_elsewhere : (bs : ℕ → Option Open) (n k : ℕ) (ms : List Made) → All (λ (m : Made). m.node ≡ n) ms → (k ≡ n → ⊥) → batches_after bs ms k ≡ bs k
unfolding batches_after
batches_elsewhere bs n k [] on other = refl
batches_elsewhere bs n k (m ∷ ms) on other =
    let here : m.node ≡ n = All-head (λ (x : Made). x.node ≡ n) m ms on in
    let rest = batches_elsewhere (with_batch bs m.node m.after) n k ms (All-tail (λ (x : Made). x.node ≡ n) m ms on) other in
    rest ∙ rw (ne_eqb k m.node (λ e. other (e ∙ here))) refl

-- a put-back leaves no open batch
pub after_put_back : (s : Shape) (h : History) (c : ℕ) (batch : Option Open) (own : List Event) (answer : Reaction) (after : Option Open) → Does s h c batch PutBack own answer after → after ≡ None
unfolding Does
after_put_back s h c x own answer after d = grind arith

pub closed_by : (c n : ℕ) (old new : Fronts) (answer : Reaction) (ms : List Made) → Steps c old new ms → All (λ (m : Made). m.node ≡ n) ms → step_results ms ≡ record { step = PutBack; answer = answer } ∷ [] → new.batches c n ≡ None
unfolding batches_after
closed_by c n old new answer [] s on reported = absurd (cc)
closed_by c n old new answer (m ∷ []) s on reported =
    let here : m.node ≡ n = All-head (λ (x : Made). x.node ≡ n) m [] on in
    let is : m.reported ≡ record { step = PutBack; answer = answer } = cc in
    let does = (All-head (IsMade old.shape new.front c) m [] s.each).does in
    let put : Does (old.shape m.node) (take m.before (new.front m.node)) c m.batch PutBack m.own answer m.after = subst (λ (t : StepAnswer). Does (old.shape m.node) (take m.before (new.front m.node)) c m.batch t.step m.own t.answer m.after) is does in
    s.batches n ∙ rw (eq-eqb n m.node (sym here)) (after_put_back _ _ c m.batch m.own answer m.after put)
closed_by c n old new answer (m ∷ l ∷ ms) s on reported = absurd (cc)
