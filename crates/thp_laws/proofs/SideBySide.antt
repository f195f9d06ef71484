-- Two runs of one caller's steps, side by side: while their steps are the same, so are their answers.
use Rattle.std.proofs.Common.{◌≡◌, ℕ, Bool, true, false, cond, nat_eq, List, ◌∷◌, ◌++◌, Option, ap₂, sym, subst, ◌∙◌}
use Rattle.std.proofs.lemmas.List.{map-append}
use Rattle.thp_history.specs.declared.shape.Shape.{Shape}
use Rattle.thp_history.specs.Prelude.{SameButBlocks, event_with, without_blocks, History, IsLegal}
use Rattle.thp_worker.specs.declared.steps.Step.{Step}
use Rattle.thp_worker.specs.Prelude.{Does, Open, Made, with_batch}
use Rattle.thp_laws.specs.OneStep.{IsSameStep}
use Rattle.thp_laws.proofs.SameSteps.{one_step}
use Rattle.thp_laws.proofs.Walks.{Walk, does_next, front_after, legal_after, walk_on}

-- a history without its blocks, part by part
bare_append : (a b : History) → without_blocks (a ++ b) ≡ without_blocks a ++ without_blocks b
unfolding without_blocks
bare_append a b = map-append (event_with 0) a b

-- what is the same but for blocks, and then events that are
pub same_append : (a b c d : History) → SameButBlocks a b → SameButBlocks c d → SameButBlocks (a ++ c) (b ++ d)
same_append a b c d e f = bare_append a c ∙ ap₂ (λ (x y : History). x ++ y) e f ∙ sym (bare_append b d)

-- both runs stand at nodes that are the same but for blocks, with these open batches, which are the same, and these steps
-- are still to come
pub record Pair (shape : ℕ → Shape) (h k : ℕ → History) (c : ℕ) (limit bound : ℕ → ℕ) (batches others : ℕ → Option Open) (ms ks : List Made) : Type 0 where
  pub front : ℕ → History
  pub other : ℕ → History
  pub ours : Walk shape h c limit front batches ms
  pub theirs : Walk shape k c bound other others ks
  pub same : (n : ℕ) → SameButBlocks (front n) (other n)
  pub opens : (n : ℕ) → batches n ≡ others n

module _ (shape : ℕ → Shape) (h k : ℕ → History) (c : ℕ) (limit bound : ℕ → ℕ) (batches others : ℕ → Option Open) (m q : Made) (ms ks : List Made) (p : Pair shape h k c limit bound batches others (m ∷ ms) (q ∷ ks)) (at : m.node ≡ q.node) (step : m.reported.step ≡ q.reported.step) where
  -- the same step of both does and answers the same
  pub next_alike : IsSameStep m.own q.own m.reported.answer q.reported.answer m.after q.after
  next_alike =
      let does : Does (shape m.node) (p.other m.node) c (others m.node) q.reported.step q.own q.reported.answer q.after =
      subst (λ n. Does (shape n) (p.other n) c (others n) q.reported.step q.own q.reported.answer q.after) (sym at) (does_next shape k c bound p.other others q ks p.theirs) in
      let same_does : Does (shape m.node) (p.other m.node) c (batches m.node) m.reported.step q.own q.reported.answer q.after =
      subst (λ (s : Step). Does (shape m.node) (p.other m.node) c (batches m.node) s q.own q.reported.answer q.after) (sym step)
      (subst (λ (b : Option Open). Does (shape m.node) (p.other m.node) c b q.reported.step q.own q.reported.answer q.after) (sym (p.opens m.node)) does) in
      let legal : IsLegal (shape m.node) (p.other m.node ++ q.own) = subst (λ n. IsLegal (shape n) (p.other n ++ q.own)) (sym at) (legal_after shape k c bound p.other others q ks p.theirs) in
      one_step (shape m.node) (p.front m.node) (p.other m.node) c (batches m.node) m.reported.step m.own q.own m.reported.answer q.reported.answer m.after q.after (p.same m.node)
      (legal_after shape h c limit p.front batches m ms p.ours) legal (does_next shape h c limit p.front batches m ms p.ours) same_does

  -- and both go on side by side
  pub pair_on : Pair shape h k c limit bound (with_batch batches m.node m.after) (with_batch others q.node q.after) ms ks
  pair_on = record {
    front = front_after p.front m;
    other = front_after p.other q;
    ours = walk_on shape h c limit p.front batches m ms p.ours;
    theirs = walk_on shape k c bound p.other others q ks p.theirs;
    same = λ n. subst (λ i. SameButBlocks (front_after p.front m n) (cond (nat_eq i n) (p.other n ++ q.own) (p.other n))) at (fronts n (nat_eq m.node n));
    opens = λ n. subst (λ i. with_batch batches m.node m.after n ≡ cond (nat_eq n i) q.after (others n)) at (batch_of n (nat_eq n m.node));
  } where
    fronts : (n : ℕ) (b : Bool) → SameButBlocks (cond b (p.front n ++ m.own) (p.front n)) (cond b (p.other n ++ q.own) (p.other n))
    fronts n true = same_append (p.front n) (p.other n) m.own q.own (p.same n) next_alike.events
    fronts n false = p.same n

    batch_of : (n : ℕ) (b : Bool) → cond b m.after (batches n) ≡ cond b q.after (others n)
    batch_of n true = next_alike.batches
    batch_of n false = p.opens n
