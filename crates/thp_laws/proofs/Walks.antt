-- The steps of one caller, one behind another: where nobody else does anything between them, each stands right behind those
-- before it.
use Rattle.std.proofs.Common.{◌≡◌, ◌≤◌, ◌+◌, ℕ, Bool, true, false, cond, nat_eq, List, [], ◌∷◌, ◌++◌, drop, take, length, length-append, Option, refl, ap, ap₂, sym, subst, ◌∙◌, arith, eq-eqb, eqb-true, take-append-drop}
use Rattle.std.specs.Prelude.{⊤}
use Rattle.std.specs.List.{AllByRecursion, filter, flat_map}
use Rattle.std.proofs.Math.Seq.{take-append-add}
use Rattle.thp_history.specs.declared.shape.Shape.{Shape}
use Rattle.thp_history.specs.Prelude.{History, IsLegal}
use Rattle.thp_history.proofs.LegalSteps.{legal_take}
use Rattle.thp_worker.specs.Prelude.{Does, Open, Carries, ComesBefore, IsMade, Made, own_events, with_batch}

-- what holds of each holds of each by what follows
each_wider : (P Q : Made → Type 0) → ((m : Made) → P m → Q m) → (ms : List Made) → AllByRecursion P ms → AllByRecursion Q ms
each_wider P Q f [] h = tt
each_wider P Q f (m ∷ ms) h = (f m h.0, each_wider P Q f ms h.1)

-- the same of two facts
each_both : (P Q R : Made → Type 0) → ((m : Made) → P m → Q m → R m) → (ms : List Made) → AllByRecursion P ms → AllByRecursion Q ms → AllByRecursion R ms
each_both P Q R f [] h k = tt
each_both P Q R f (m ∷ ms) h k = (f m h.0 k.0, each_both P Q R f ms h.1 k.1)

-- each step comes before those behind it
unfoldable pub Ordered : List Made → Type 0
Ordered [] = ⊤
Ordered (m ∷ ms) = AllByRecursion (ComesBefore m) ms × Ordered ms

-- a step behind what stands on its node
abbrev pub IsAbove : (ℕ → History) → Made → Type 0
IsAbove front m = length (front m.node) ≤ m.before

-- and no further than this
abbrev pub IsWithin : (ℕ → ℕ) → Made → Type 0
IsWithin limit m = m.before + length m.own ≤ limit m.node

-- what stands on the nodes behind one more step
abbrev pub front_after : (ℕ → History) → Made → ℕ → History
front_after front m n = cond (nat_eq m.node n) (front n ++ m.own) (front n)

-- These steps are still to come, behind what stands on the nodes; with them each node is full.
pub record Walk (shape : ℕ → Shape) (history : ℕ → History) (c : ℕ) (limit : ℕ → ℕ) (front : ℕ → History) (batches : ℕ → Option Open) (ms : List Made) : Type 0 where
  pub legal : (n : ℕ) → IsLegal (shape n) (history n)
  pub each : AllByRecursion (IsMade shape history c) ms
  pub order : Ordered ms
  pub carries : Carries batches ms
  pub above : AllByRecursion (IsAbove front) ms
  pub within : AllByRecursion (IsWithin limit) ms
  pub full : (n : ℕ) → length (front n) + length (own_events n ms) ≡ limit n
  pub stands : (n : ℕ) → take (length (front n)) (history n) ≡ front n

-- the events of a step on its node
own_here : (n : ℕ) (m : Made) (ms : List Made) → nat_eq m.node n ≡ true → own_events n (m ∷ ms) ≡ m.own ++ own_events n ms
own_here n m ms e = ap (λ b. flat_map (λ (x : Made). x.own) (cond b (m ∷ filter (λ (x : Made). nat_eq x.node n) ms) (filter (λ (x : Made). nat_eq x.node n) ms))) e

-- and on others
pub own_else : (n : ℕ) (m : Made) (ms : List Made) → nat_eq m.node n ≡ false → own_events n (m ∷ ms) ≡ own_events n ms
own_else n m ms e = ap (λ b. flat_map (λ (x : Made). x.own) (cond b (m ∷ filter (λ (x : Made). nat_eq x.node n) ms) (filter (λ (x : Made). nat_eq x.node n) ms))) e

-- on node n: not before `bound`, and not beyond `limit`
StartsFrom : ℕ → ℕ → Made → Type 0
StartsFrom n bound m = m.node ≡ n → bound ≤ m.before

-- and not beyond this
EndsBy : ℕ → ℕ → Made → Type 0
EndsBy n limit m = m.node ≡ n → m.before + length m.own ≤ limit

-- steps in order have room for all their events
room : (n bound limit : ℕ) (ms : List Made) → Ordered ms → AllByRecursion (StartsFrom n bound) ms → AllByRecursion (EndsBy n limit) ms → bound ≤ limit → bound + length (own_events n ms) ≤ limit
unfolding Ordered StartsFrom EndsBy
room n bound limit [] order low high le = omega arith
room n bound limit (m ∷ ms) order low high le = go (nat_eq m.node n) refl (λ from starts under. room n from limit ms order.1 starts high.1 under) where
  go : (b : Bool) → nat_eq m.node n ≡ b → ((from : ℕ) → AllByRecursion (StartsFrom n from) ms → from ≤ limit → from + length (own_events n ms) ≤ limit) → bound + length (own_events n (m ∷ ms)) ≤ limit
  go true e others =
      let here : m.node ≡ n = eqb-true m.node n e in
      let start : bound ≤ m.before = low.0 here in
      let end : m.before + length m.own ≤ limit = high.0 here in
      let rest : m.before + length m.own + length (own_events n ms) ≤ limit =
      others (m.before + length m.own) (each_wider (ComesBefore m) (StartsFrom n (m.before + length m.own)) (λ x before at. before (here ∙ sym at)) ms order.0) end in
      let both : length (own_events n (m ∷ ms)) ≡ length m.own + length (own_events n ms) = ap length (own_here n m ms e) ∙ length-append m.own (own_events n ms) in
      omega arith
  go false e others =
      let same : length (own_events n (m ∷ ms)) ≡ length (own_events n ms) = ap length (own_else n m ms e) in
      let rest : bound + length (own_events n ms) ≤ limit = others bound low.1 le in
      omega arith

-- a front of a list, and what follows it
take_more : (a b : ℕ) (xs f g : History) → take a xs ≡ f → a ≡ length f → take b (drop a xs) ≡ g → take (a + b) xs ≡ f ++ g
take_more a b xs f g e l h =
    let whole : f ++ drop a xs ≡ xs = ap (λ ys. ys ++ drop a xs) (sym e) ∙ take-append-drop a xs in
    ap₂ (λ n ys. take (n + b) ys) l (sym whole) ∙ take-append-add f (drop a xs) b ∙ ap (λ ys. f ++ ys) h

module _ (shape : ℕ → Shape) (history : ℕ → History) (c : ℕ) (limit : ℕ → ℕ) (front : ℕ → History) (batches : ℕ → Option Open) (m : Made) (ms : List Made) (w : Walk shape history c limit front batches (m ∷ ms)) where
  -- the first of the steps stands right behind what stood there
  stands_next : m.before ≡ length (front m.node)
  unfolding Ordered StartsFrom EndsBy
  stands_next =
      let low : length (front m.node) ≤ m.before = w.above.0 in
      let end : m.before + length m.own ≤ limit m.node = w.within.0 in
      let fits : m.before + length m.own + length (own_events m.node ms) ≤ limit m.node =
      room m.node (m.before + length m.own) (limit m.node) ms w.order.1 (each_wider (ComesBefore m) (StartsFrom m.node (m.before + length m.own)) (λ x before at. before (sym at)) ms w.order.0)
      (each_wider (IsWithin limit) (EndsBy m.node (limit m.node)) (λ x inside at. subst (λ k. x.before + length x.own ≤ limit k) at inside) ms w.within.1) end in
      let both : length (own_events m.node (m ∷ ms)) ≡ length m.own + length (own_events m.node ms) = ap length (own_here m.node m ms (eq-eqb m.node m.node refl)) ∙ length-append m.own (own_events m.node ms) in
      let full : length (front m.node) + length (own_events m.node (m ∷ ms)) ≡ limit m.node = w.full m.node in
      omega arith

  -- so its history is what stood there
  pub history_before : take m.before (history m.node) ≡ front m.node
  history_before = ap (λ i. take i (history m.node)) stands_next ∙ w.stands m.node

  -- and then its events stand there
  stands_after : take (length (front m.node) + length m.own) (history m.node) ≡ front m.node ++ m.own
  stands_after = take_more (length (front m.node)) (length m.own) (history m.node) (front m.node) m.own (w.stands m.node) refl (ap (λ i. take (length m.own) (drop i (history m.node))) (sym stands_next) ∙ w.each.0.stands)

  -- which is legal
  pub legal_after : IsLegal (shape m.node) (front m.node ++ m.own)
  legal_after = subst (IsLegal (shape m.node)) stands_after (legal_take (shape m.node) (history m.node) (length (front m.node) + length m.own) (w.legal m.node))

  -- what it does
  pub does_next : Does (shape m.node) (front m.node) c (batches m.node) m.reported.step m.own m.reported.answer m.after
  unfolding Carries
  does_next = grind (arith, history_before)

  -- the others are still to come behind it
  pub walk_on : Walk shape history c limit (front_after front m) (with_batch batches m.node m.after) ms
  unfolding Ordered Carries
  walk_on = grind (arith, each_both, nat_eq, eqb-true, length-append, stands_next, own_here, own_else, stands_after)
