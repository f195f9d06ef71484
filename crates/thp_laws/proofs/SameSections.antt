-- A caller's section in two runs, side by side: where the nodes were the same before it, the same is done and answered.
use Rattle.std.proofs.Common.{◌≡◌, ◌+◌, ℕ, suc, Bool, true, false, cond, nat_eq, List, [], ◌∷◌, ◌++◌, map, take, length, Option, refl, ap, sym, subst, ◌∙◌, arith, All, AllPairs, filter, eqb-true, ne_eqb, append-nil}
use Rattle.std.specs.List.{AllByRecursion}
use Rattle.std.proofs.lemmas.Grind.{flat_map-append}
use Rattle.std.proofs.lemmas.List.Elements.{recursion_from_All}
use Rattle.thp_history.specs.declared.shape.Shape.{Shape}
use Rattle.thp_history.specs.Prelude.{SameButBlocks, History, events_of, IsLegal}
use Rattle.thp_script.specs.declared.script.Command.{Command}
use Rattle.thp_worker.specs.declared.reply.Answer.{Answer}
use Rattle.thp_worker.specs.Prelude.{Open, is_open, ComesBefore, IsMade, IsTurn, Made, Turn, answers_from, batches_after, closing, turn_command, own_events, put_back_on, steps_of, with_batch}
use Rattle.thp_run.specs.Runs.{IsSection, no_batches}
use Rattle.thp_laws.proofs.SameTurns.{turns_twice}
use Rattle.thp_laws.proofs.SideBySide.{Pair}
use Rattle.thp_laws.proofs.Walks.{IsAbove, IsWithin, Ordered, Walk, own_else}

-- each step comes before those behind it
ordered : (ms : List Made) → AllPairs ComesBefore ms → Ordered ms
unfolding Ordered
ordered [] pairs = tt
ordered (m ∷ ms) pairs = (
  recursion_from_All (ComesBefore m) ms (λ j d lt. pairs 0 (suc j) d (omega arith) (omega (arith, lt))),
  ordered ms (λ i j d lt within. pairs (suc i) (suc j) d (omega (arith, lt)) (omega (arith, within))),
)

-- the steps of more turns
pub steps_of-append : (ts us : List Turn) → steps_of (ts ++ us) ≡ steps_of ts ++ steps_of us
steps_of-append ts us = flat_map-append (λ (t : Turn). t.steps) ts us

-- A section whose steps stand behind these fronts and fill the nodes up to these limits is a walk.
pub section_walk : (nodes : ℕ) (shape : ℕ → Shape) (history : ℕ → History) (c : ℕ) (commands : List Command) (answers : List Answer) (s : IsSection nodes shape history c commands answers) (limit : ℕ → ℕ) (front : ℕ → History) →
    ((n : ℕ) → IsLegal (shape n) (history n)) → All (IsAbove front) (steps_of (s.turns ++ s.closed)) → All (IsWithin limit) (steps_of (s.turns ++ s.closed)) →
    ((n : ℕ) → length (front n) + length (events_of c (history n)) ≡ limit n) → ((n : ℕ) → take (length (front n)) (history n) ≡ front n) →
    Walk shape history c limit front no_batches (steps_of (s.turns ++ s.closed))
section_walk nodes shape history c commands answers s limit front legal above within full stands = record {
  legal = legal;
  each = recursion_from_All (IsMade shape history c) (steps_of (s.turns ++ s.closed)) s.stand;
  order = ordered (steps_of (s.turns ++ s.closed)) s.in_order;
  carries = s.carries;
  above = recursion_from_All (IsAbove front) (steps_of (s.turns ++ s.closed)) above;
  within = recursion_from_All (IsWithin limit) (steps_of (s.turns ++ s.closed)) within;
  full = λ n. ap (λ es. length (front n) + length es) (sym (s.whole n)) ∙ full n;
  stands = stands;
}

-- a front of all turns
all_front : (P : Turn → Type 0) (ts us : List Turn) → AllByRecursion P (ts ++ us) → AllByRecursion P ts
all_front P [] us all = tt
all_front P (t ∷ ts) us all = (all.0, all_front P ts us all.1)

-- and the others
all_rest : (P : Turn → Type 0) (ts us : List Turn) → AllByRecursion P (ts ++ us) → AllByRecursion P us
all_rest P [] us all = all
all_rest P (t ∷ ts) us all = all_rest P ts us all.1

-- where nothing is to come any more, the nodes stand at their limits
module _ (shape : ℕ → Shape) (h k : ℕ → History) (c : ℕ) (limit bound : ℕ → ℕ) (bs os : ℕ → Option Open) (p : Pair shape h k c limit bound bs os [] []) where
  ours_end : (n : ℕ) → take (limit n) (h n) ≡ p.front n
  ours_end n = ap (λ i. take i (h n)) (let full = p.ours.full n in omega arith) ∙ p.ours.stands n

  theirs_end : (n : ℕ) → take (bound n) (k n) ≡ p.other n
  theirs_end n = ap (λ i. take i (k n)) (let full = p.theirs.full n in omega arith) ∙ p.theirs.stands n

  same_end : (n : ℕ) → SameButBlocks (take (limit n) (h n)) (take (bound n) (k n))
  same_end n = subst (λ x. SameButBlocks x (take (bound n) (k n))) (sym (ours_end n)) (subst (SameButBlocks (p.front n)) (sym (theirs_end n)) (p.same n))

module _ (nodes : ℕ) (shape : ℕ → Shape) (h k : ℕ → History) (c : ℕ) (limit bound : ℕ → ℕ) (commands : List Command) (answers others : List Answer) (s : IsSection nodes shape h c commands answers) (t : IsSection nodes shape k c commands others)
    (p : Pair shape h k c limit bound no_batches no_batches (steps_of (s.turns ++ s.closed)) (steps_of (t.turns ++ t.closed))) where
  -- the steps of the commands come first
  first : Pair shape h k c limit bound no_batches no_batches (steps_of s.turns ++ steps_of s.closed) (steps_of t.turns ++ steps_of t.closed)
  first = subst (λ ms. Pair shape h k c limit bound no_batches no_batches ms (steps_of t.turns ++ steps_of t.closed)) (steps_of-append s.turns s.closed) (subst (Pair shape h k c limit bound no_batches no_batches (steps_of (s.turns ++ s.closed))) (steps_of-append t.turns t.closed) p)

  -- the commands are done alike
  done : (answers_from 0 s.turns ≡ answers_from 0 t.turns) × Pair shape h k c limit bound (batches_after no_batches (steps_of s.turns)) (batches_after no_batches (steps_of t.turns)) (steps_of s.closed) (steps_of t.closed)
  done = turns_twice shape h k c limit bound 0 s.turns t.turns no_batches no_batches (steps_of s.closed) (steps_of t.closed)
      (all_front IsTurn s.turns s.closed (recursion_from_All IsTurn (s.turns ++ s.closed) s.each)) (all_front IsTurn t.turns t.closed (recursion_from_All IsTurn (t.turns ++ t.closed) t.each)) (s.done ∙ sym t.done) first

  -- and answered alike
  pub same_answers : answers ≡ others
  same_answers = s.answered ∙ done.0 ∙ sym t.answered

  -- the same batches are left open
  same_open : batches_after no_batches (steps_of s.turns) ≡ batches_after no_batches (steps_of t.turns)
  same_open = λ i n. done.1.opens n i

  -- so the same put-backs close both
  closed : Pair shape h k c limit bound (batches_after (batches_after no_batches (steps_of s.turns)) (steps_of s.closed)) (batches_after (batches_after no_batches (steps_of t.turns)) (steps_of t.closed)) [] []
  closed =
      let rest : Pair shape h k c limit bound (batches_after no_batches (steps_of s.turns)) (batches_after no_batches (steps_of t.turns)) (steps_of s.closed ++ []) (steps_of t.closed ++ []) =
      subst (λ ms. Pair shape h k c limit bound (batches_after no_batches (steps_of s.turns)) (batches_after no_batches (steps_of t.turns)) ms (steps_of t.closed ++ [])) (sym (append-nil (steps_of s.closed)))
      (subst (λ ms. Pair shape h k c limit bound (batches_after no_batches (steps_of s.turns)) (batches_after no_batches (steps_of t.turns)) (steps_of s.closed) ms) (sym (append-nil (steps_of t.closed))) done.1) in
      (turns_twice shape h k c limit bound 0 s.closed t.closed (batches_after no_batches (steps_of s.turns)) (batches_after no_batches (steps_of t.turns)) [] []
      (all_rest IsTurn s.turns s.closed (recursion_from_All IsTurn (s.turns ++ s.closed) s.each)) (all_rest IsTurn t.turns t.closed (recursion_from_All IsTurn (t.turns ++ t.closed) t.each))
      (s.closes ∙ ap (closing nodes) same_open ∙ sym t.closes) rest).1

  -- and both end with nodes that are the same but for blocks
  pub same_nodes : (n : ℕ) → SameButBlocks (take (limit n) (h n)) (take (bound n) (k n))
  same_nodes n = same_end shape h k c limit bound _ _ closed n

-- ---- on which nodes a section acts

module _ (P : ℕ → Type 0) where
  -- such steps, and more of them
  among_append : (ms ks : List Made) → AllByRecursion (λ (m : Made). P m.node) ms → AllByRecursion (λ (m : Made). P m.node) ks → AllByRecursion (λ (m : Made). P m.node) (ms ++ ks)
  among_append [] ks a b = b
  among_append (m ∷ ms) ks a b = (a.0, among_append ms ks a.1 b)

  -- the steps of a turn on such a node
  turn_among : (node : ℕ) (ms : List Made) → AllByRecursion (λ (m : Made). m.node ≡ node) ms → P node → AllByRecursion (λ (m : Made). P m.node) ms
  turn_among node [] on p = tt
  turn_among node (m ∷ ms) on p = (subst P (sym on.0) p, turn_among node ms on.1 p)

  -- and of turns whose commands are on such nodes
  turns_among : (ts : List Turn) → AllByRecursion IsTurn ts → AllByRecursion (λ (command : Command). P command.node) (map turn_command ts) → AllByRecursion (λ (m : Made). P m.node) (steps_of ts)
  turns_among [] each on = tt
  turns_among (t ∷ ts) each on = among_append t.steps (steps_of ts) (turn_among t.command.node t.steps (recursion_from_All _ t.steps each.0.on_node) on.0) (turns_among ts each.1 on.1)

  -- a batch that such steps leave open is on such a node
  open_among : (bs : ℕ → Option Open) (ms : List Made) → ((n : ℕ) → is_open (bs n) ≡ true → P n) → AllByRecursion (λ (m : Made). P m.node) ms → (n : ℕ) → is_open (batches_after bs ms n) ≡ true → P n
  unfolding batches_after
  open_among bs [] opens on n is = opens n is
  open_among bs (m ∷ ms) opens on n is = open_among (with_batch bs m.node m.after) ms (λ i there. go i (nat_eq i m.node) refl there) on.1 n is where
    go : (i : ℕ) (b : Bool) → nat_eq i m.node ≡ b → is_open (cond b m.after (bs i)) ≡ true → P i
    go i true e there = subst P (sym (eqb-true i m.node e)) on.0
    go i false e there = opens i there

  -- so are the put-backs of such batches
  back_among : (bs : ℕ → Option Open) → ((n : ℕ) → is_open (bs n) ≡ true → P n) → (ns : List ℕ) → AllByRecursion (λ (command : Command). P command.node) (map put_back_on (filter (λ n. is_open (bs n)) ns))
  back_among bs opens [] = tt
  back_among bs opens (n ∷ ns) = go (is_open (bs n)) refl (back_among bs opens ns) where
    go : (b : Bool) → is_open (bs n) ≡ b → AllByRecursion (λ (command : Command). P command.node) (map put_back_on (filter (λ i. is_open (bs i)) ns)) →
        AllByRecursion (λ (command : Command). P command.node) (map put_back_on (cond b (n ∷ filter (λ i. is_open (bs i)) ns) (filter (λ i. is_open (bs i)) ns)))
    go true e others = (opens n e, others)
    go false e others = others

  -- no batch is open before a section
  none_open : (n : ℕ) → is_open (no_batches n) ≡ true → P n
  none_open n is = absurd cc

  -- a section whose commands are on such nodes makes no step on others
  pub section_among : (nodes : ℕ) (shape : ℕ → Shape) (history : ℕ → History) (c : ℕ) (commands : List Command) (answers : List Answer) (s : IsSection nodes shape history c commands answers) →
      AllByRecursion (λ (command : Command). P command.node) commands → AllByRecursion (λ (m : Made). P m.node) (steps_of (s.turns ++ s.closed))
  section_among nodes shape history c commands answers s on = grind (arith, closed, recursion_from_All, first, turns_among, all_front, done, back_among, open_among, none_open, steps_of-append, among_append, all_rest)

  -- steps on such nodes have no events on another
  pub none_elsewhere : (n : ℕ) (ms : List Made) → AllByRecursion (λ (m : Made). P m.node) ms → (P n → ⊥) → own_events n ms ≡ []
  none_elsewhere n [] on no_such = refl
  none_elsewhere n (m ∷ ms) on no_such = own_else n m ms (ne_eqb m.node n (λ same. no_such (subst P same on.0))) ∙ none_elsewhere n ms on.1 no_such
