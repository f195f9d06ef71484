-- Workers that come together.
use Rattle.std.proofs.Common.{◌≡◌, ◌∙◌, ◌++◌, ◌+◌, ◌<◌, ◌≤◌, ap, ℕ, Bool, List, [], ◌∷◌, get_or, length, sym, subst, inl, inr, arith, append_assoc, length-append, Option, Some, None, slice_get}
use Rattle.thp_history.specs.Prelude.{History, events_of, IsLegal}
use Rattle.thp_script.specs.declared.script.Command.{Command}
use Rattle.thp_worker.specs.Prelude.{Answer, Rest, SectionOutcome, CommandProgress, Fronts, HoldsCaller, Goes, Grows, SameNodes, Made, Steps, Works, WorksTo, Begins, Ends, IsNext, batches_after, progress_of, steps_of, KnowsOf, AreFrontsSplit, CanJoin, AreFrontsJoined, AllWork, CanRun, RangeDone}
use Rattle.thp_worker.proofs.OpenLaws.{known_as}
use Rattle.thp_worker.proofs.StepLaws.{steps_stay}

-- the same steps, seen from other fronts that say the same of the nodes
steps_from : (c : ℕ) (old old' new : Fronts) (ms : List Made) → old'.shape ≡ old.shape → old'.front ≡ old.front → old'.batches c ≡ old.batches c → Steps c old new ms → Steps c old' new ms
steps_from c old old' new ms shape front batches s = grind arith

pub same_nodes_trans : (f g h : Fronts) → SameNodes f g → SameNodes g h → SameNodes f h
same_nodes_trans f g h a b = record { cells = b.cells ∙ a.cells; nodes = b.nodes ∙ a.nodes; shape = b.shape ∙ a.shape; callers = b.callers ∙ a.callers }

pub same_nodes_sym : (f g : Fronts) → SameNodes f g → SameNodes g f
same_nodes_sym f g a = record { cells = sym a.cells; nodes = sym a.nodes; shape = sym a.shape; callers = sym a.callers }

pub works_from : (c : ℕ) (old old' new new' : Fronts) (commands : List Command) (w : SectionOutcome) → SameNodes old old' → ((n : ℕ) → old'.front n ≡ old.front n) → ((n : ℕ) → old'.batches c n ≡ old.batches c n)
    → SameNodes new new' → ((n : ℕ) → (more : History) × (new'.front n ≡ new.front n ++ more)) → KnowsOf c new new' → Works c old new commands w → Works c old' new' commands w
works_from c old old' new new' commands w same front batches later grown knows works = record { to = to_from w.rest works.to; room = works.room }
  where
    batches_are : new'.batches c ≡ new.batches c
    batches_are = λ i n. knows.batches n i

    moved : (ms : List Made) → Steps c old new ms → Steps c old' new' ms
    moved ms st = steps_from c old old' new' ms same.shape (λ i n. front n i) (λ i n. batches n i) (steps_stay c old new new' ms st grown knows.part knows.batches)

    grows : Grows old new → Grows old' new'
    grows g = record {
      same = same_nodes_trans old' old new' (same_nodes_sym old old' same) (same_nodes_trans old new new' g.same later);
      grown = λ n. (
        (g.grown n).0 ++ (grown n).0,
        (grown n).1 ∙ ap (λ h. h ++ (grown n).0) ((g.grown n).1 ∙ ap (λ h. h ++ (g.grown n).0) (sym (front n))) ∙ append_assoc (old'.front n) (g.grown n).0 (grown n).0,
      );
    }

    begins : (answers : List Answer) (opened : List Bool) (b : CommandProgress) → Begins c old new commands answers opened b → Begins c old' new' commands answers opened b
    begins answers opened b x = record {
      turns = x.turns;
      made = x.made;
      grows = grows x.grows;
      steps = moved (steps_of x.turns ++ x.made) x.steps;
      each = x.each;
      done = x.done;
      answered = x.answered;
      next = subst (λ bs. IsNext bs (slice_get commands (length x.turns)) x.made b) (sym batches_are) x.next;
      known = known_as old.nodes old'.nodes opened (batches_after (old.batches c) (steps_of x.turns)) (batches_after (old'.batches c) (steps_of x.turns)) same.nodes (ap (λ bs. batches_after bs (steps_of x.turns)) (λ i n. batches n i)) x.known;
    }

    ends : (answers : List Answer) (opened : List Bool) (k : ℕ) → Ends c old new commands answers opened k → Ends c old' new' commands answers opened k
    ends answers opened k x =
        let bs : old'.batches c ≡ old.batches c = λ i n. batches n i in
        record {
          turns = x.turns;
          closed = x.closed;
          grows = grows x.grows;
          steps = moved (steps_of x.turns ++ steps_of x.closed) x.steps;
          each = x.each;
          each_closed = x.each_closed;
          done = x.done;
          answered = x.answered;
          closes = rw (same.nodes, bs, batches_are) x.closes;
          count = x.count;
          known = known_as old.nodes old'.nodes opened (new.batches c) (new'.batches c) same.nodes batches_are x.known;
        }

    to_from : (rest : Option Rest) → WorksTo c old new commands w.answers.items w.opened.items rest → WorksTo c old' new' commands w.answers.items w.opened.items rest
    to_from None t = (t.0, ends w.answers.items w.opened.items t.0 t.1, rw (same.nodes, batches_are) t.2)
    to_from (Some r) t = (
      t.0,
      elim t.1 [
        | inl b ↦ inl (b.0, begins w.answers.items w.opened.items (progress_of r) b.1)
        | inr e ↦ inr (e.0, ends w.answers.items w.opened.items r.steps e.1)
      ],
    )

pub all_work_as : (vs : List (List Command)) (ws : List SectionOutcome) (c : ℕ) (old old' new new' : Fronts) → ((k : ℕ) → c ≤ k → k < c + length vs → (commands : List Command) (w : SectionOutcome) → Works k old new commands w → Works k old' new' commands w)
    → AllWork c old new vs ws → AllWork c old' new' vs ws
unfolding AllWork
all_work_as [] [] c old old' new new' moved a = tt
all_work_as [] (w ∷ ws) c old old' new new' moved a = absurd a
all_work_as (v ∷ vs) [] c old old' new new' moved a = absurd a
all_work_as (v ∷ vs) (w ∷ ws) c old old' new new' moved a = (
  moved c (omega arith) (omega arith) v w a.0,
  all_work_as vs ws (c + 1) old old' new new' (λ k lo hi. moved k (omega (arith, lo)) (omega (arith, hi))) a.1,
)

all_work_append : (vs us : List (List Command)) (ws xs : List SectionOutcome) (c d : ℕ) (old new : Fronts) → d ≡ c + length vs → AllWork c old new vs ws → AllWork d old new us xs → AllWork c old new (vs ++ us) (ws ++ xs)
unfolding AllWork
all_work_append [] us [] xs c d old new e a b = let same : d ≡ c = omega (arith, e) in rw (← same) b
all_work_append [] us (w ∷ ws) xs c d old new e a b = absurd a
all_work_append (v ∷ vs) us [] xs c d old new e a b = absurd a
all_work_append (v ∷ vs) us (w ∷ ws) xs c d old new e a b = (a.0, all_work_append vs us ws xs (c + 1) d old new (omega (arith, e)) a.1 b)

-- one worker alone
pub only_one : (vs : List (List Command)) (v : List Command) → length vs ≡ 1 → v ≡ get_or vs 0 v → vs ≡ v ∷ []
only_one [] v one is = absurd (omega (arith, one))
only_one (w ∷ []) v one is = ap (λ (x : List Command). x ∷ []) (sym is)
only_one (w ∷ x ∷ ws) v one is = absurd (omega (arith, one))

pub ran_one : (c : ℕ) (old new : Fronts) (v : List Command) (ws : List SectionOutcome) (w : SectionOutcome) → CanRun old c (v ∷ []) → Goes c old new → Works c old new v w → ws ≡ w ∷ [] → RangeDone c old new (v ∷ []) ws
unfolding AllWork
ran_one c old new v ws w can goes works is = grind arith

-- the halves may run
module _ (f l r : Fronts) (at first : ℕ) (low high : List (List Command)) (can : CanRun f first (low ++ high)) (split : AreFrontsSplit at f l r) (is : at ≡ first + length low) where
  module _ (l' r' : Fronts) (ws xs : List SectionOutcome) (a : RangeDone first l l' low ws) (b : RangeDone at r r' high xs) where
    pub can_join : CanJoin l' r'
    can_join = grind (arith, same_nodes_trans, same_nodes_sym)

    module _ (j : Fronts) (joined : AreFrontsJoined l' r' j) where
      knows_other : (c : ℕ) → HoldsCaller f c → c < first → KnowsOf c f j
      knows_other c has lt =
          let has-l : HoldsCaller l c = record { low = omega (arith, has.low, split.first); high = omega (arith, lt, split.middle.0, is) } in
          let has-l' : HoldsCaller l' c = record { low = omega (arith, has-l.low, a.first); high = omega (arith, has-l.high, a.end) } in
          let worked = a.others c has-l lt in
          let later = joined.left.own c has-l' in
          record {
            part = λ n. later.part n ∙ worked.part n ∙ ap (events_of c) (split.left.front n);
            batches = λ n. later.batches n ∙ worked.batches n ∙ split.left.batches c n has-l;
          }

      left_works : (k : ℕ) → first ≤ k → k < first + length low → (commands : List Command) (w : SectionOutcome) → Works k l l' commands w → Works k f j commands w
      left_works k lo hi commands w works =
          let has-l : HoldsCaller l k = record { low = omega (arith, lo, can.low, split.first); high = omega (arith, hi, split.middle.0, is) } in
          let has-l' : HoldsCaller l' k = record { low = omega (arith, has-l.low, a.first); high = omega (arith, has-l.high, a.end) } in
          works_from k l f l' j commands w (same_nodes_sym f l split.left.same) (λ n. sym (split.left.front n)) (λ n. sym (split.left.batches k n has-l)) joined.same joined.left.grown (joined.left.own k has-l') works

      right_works : (k : ℕ) → at ≤ k → k < at + length high → (commands : List Command) (w : SectionOutcome) → Works k r r' commands w → Works k f j commands w
      right_works k lo hi commands w works =
          let has-r : HoldsCaller r k = record { low = omega (arith, lo, split.middle.1); high = omega (arith, hi, split.end, can.high, is, length-append low high) } in
          let has-r' : HoldsCaller r' k = record { low = omega (arith, has-r.low, b.first); high = omega (arith, has-r.high, b.end) } in
          works_from k r f r' j commands w (same_nodes_sym f r split.right.same) (λ n. sym (split.right.front n)) (λ n. sym (split.right.batches k n has-r)) (same_nodes_trans r' l' j (same_nodes_sym l' r' can_join.same) joined.same) joined.right.grown (joined.right.own k has-r') works

      legal_both : (n : ℕ) → IsLegal (f.shape n) (f.front n) → IsLegal (f.shape n) (j.front n)
      legal_both n legal = grind arith

      pub ran_both : RangeDone first f j (low ++ high) (ws ++ xs)
      ran_both = record {
        same = same_nodes_trans f l' j (same_nodes_trans f l l' split.left.same a.same) joined.same;
        first = joined.first ∙ a.first ∙ split.first;
        end = joined.end ∙ b.end ∙ split.end;
        grown = λ n. (
          (a.grown n).0 ++ (joined.left.grown n).0,
          (joined.left.grown n).1 ∙ ap (λ h. h ++ (joined.left.grown n).0) ((a.grown n).1 ∙ ap (λ h. h ++ (a.grown n).0) (split.left.front n)) ∙ append_assoc (f.front n) (a.grown n).0 (joined.left.grown n).0,
        );
        others = knows_other;
        legal = legal_both;
        work = all_work_append low high ws xs first at f j is
            (all_work_as low ws first l f l' j left_works a.work)
            (all_work_as high xs at r f r' j right_works b.work);
      }
