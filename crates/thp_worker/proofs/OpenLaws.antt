-- On which nodes a command leaves a batch open.
use Rattle.std.proofs.Common.{◌≡◌, ◌∙◌, ◌++◌, ◌<◌, ◌==◌, ap, ℕ, zero, suc, Bool, true, false, List, [], ◌∷◌, length, refl, sym, subst, inl, inr, Option, Some, None, Ok, Err, map, set, get_or, take, All, Result, replicate}
use Rattle.std.proofs.lemmas.Bool.{eqb-true, eqb-false, eq-eqb}
use Rattle.std.proofs.lemmas.List.{length-set, length-replicate, get_or-set_same, get_or-set_other}
use Rattle.std.proofs.lemmas.List.Elements.{All-head, All-tail}
use Rattle.thp_history.specs.declared.events.Event.{Event}
use Rattle.thp_history.specs.declared.refusal.Refusal.{Refusal}
use Rattle.thp_history.specs.declared.shape.Shape.{Shape}
use Rattle.thp_history.specs.Prelude.{History, queue, refusal, take_events}
use Rattle.thp_history.specs.Refusals as call
use Rattle.thp_node.specs.declared.answers.BackReply.{BackReply}
use Rattle.thp_node.specs.declared.answers.Tried.TheVariants as tried
use Rattle.thp_script.specs.declared.script.Command.{Command}
use Rattle.thp_script.specs.declared.script.Op.{Op}
use Rattle.thp_script.specs.declared.script.Op.TheVariants as op
use Rattle.thp_worker.specs.Prelude.{Reply, Step, One, Take, SplitNext, PutBack, node_call_of, Open, Reaction, Does, DoesCall, Unless, answer_of, refusal_of_call, StepAnswer, TurnsOut, first_step, answered_put_back, is_scan, took, answered_try, is_open, leaves_open, marked, OpenOn, Made, IsMade, Carries, batches_after, step_results, with_batch}
use Rattle.thp_worker.specs.declared.reply.Reply.TheVariants as reply
use Rattle.thp_worker.proofs.StepLaws.{after_put_back, batches_elsewhere}

-- whether there is an open batch behind a step
abbrev step_opens : Step → Reaction → Bool → Bool
step_opens (Take n) (Ok r) was = true
step_opens PutBack answer was = false
step_opens s answer was = was

does_open : (s : Shape) (h : History) (c : ℕ) (batch : Option Open) (step : Step) (own : List Event) (answer : Reaction) (after : Option Open) → Does s h c batch step own answer after → is_open after ≡ step_opens step answer (is_open batch)
unfolding Does
does_open s h c batch (One o) own answer after d = by_refusal (refusal_of_call s h (node_call_of o)) d
  where
    by_refusal : (why : Option Refusal) → Unless why own answer batch after (DoesCall s h c (node_call_of o) own answer × (after ≡ batch)) → is_open after ≡ is_open batch
    by_refusal (Some w) u = ap is_open u.2
    by_refusal None u = ap is_open u.1
does_open s h c (Some b) (Take n) own answer after d = rw (d.1, d.2) refl
does_open s h c None (Take n) own answer after d = by_refusal (refusal s h (call.take c)) d
  where
    by_refusal : (why : Option Refusal) → Unless why own answer None after ((own ≡ take_events s h c n) × (answer ≡ Ok (reply.Taken (length (take n (queue s h))))) × (after ≡ Some (record { pages = take n (queue s h); left = take n (queue s h) })))
        → is_open after ≡ step_opens (Take n) answer false
    by_refusal (Some w) u = rw (u.1, u.2) refl
    by_refusal None u = rw (u.1, u.2) refl
does_open s h c None SplitNext own answer after d = ap is_open d.2
does_open s h c (Some b) SplitNext own answer after d = ap is_open d.2
does_open s h c batch PutBack own answer after d = ap is_open (after_put_back s h c batch own answer after d)

-- a take that was answered begins with no open batch
took_none : (s : Shape) (h : History) (c n t : ℕ) (batch : Option Open) (own : List Event) (after : Option Open) → Does s h c batch (Take n) own (Ok (reply.Taken t)) after → batch ≡ None
unfolding Does
took_none s h c n t None own after d = refl
took_none s h c n t (Some b) own after d = let e = d.1 in absurd (cc)

-- the one step of a command that isn't a scan
one_opens : (o : Op) (answer : Reaction) (was : Bool) → is_scan o ≡ false → step_opens (first_step o) answer was ≡ leaves_open o answer was
one_opens (op.Scan n) answer was e = absurd (cc)
one_opens (op.Take n) (Ok r) was e = refl
one_opens (op.Take n) (Err why) was e = refl
one_opens _ answer was e = refl

module _ (shape : ℕ → Shape) (history : ℕ → History) (c n : ℕ) where
  abbrev AllHere : List Made → Type 0
  AllHere ms = All (λ (m : Made). m.node ≡ n) ms

  single_opens : (bs : ℕ → Option Open) (ms : List Made) (step : Step) (answer : Reaction) → AllHere ms → All (IsMade shape history c) ms → Carries bs ms → step_results ms ≡ record { step = step; answer = answer } ∷ [] → is_open (batches_after bs ms n) ≡ step_opens step answer (is_open (bs n))
  unfolding batches_after Carries
  single_opens bs [] step answer on made carries reported = absurd (cc)
  single_opens bs (m ∷ []) step answer on made carries reported =
      let here : m.node ≡ n = All-head (λ (x : Made). x.node ≡ n) m [] on in
      let is : m.reported ≡ record { step = step; answer = answer } = cc in
      let does = (All-head (IsMade shape history c) m [] made).does in
      let opens = does_open (shape m.node) (take m.before (history m.node)) c m.batch m.reported.step m.own m.reported.answer m.after does in
      let said : is_open m.after ≡ step_opens step answer (is_open m.batch) = subst (λ (t : StepAnswer). is_open m.after ≡ step_opens t.step t.answer (is_open m.batch)) is opens in
      let batch : m.batch ≡ bs n = carries.0 ∙ ap bs here in
      rw (eq-eqb n m.node (sym here)) (said ∙ ap (λ b. step_opens step answer (is_open b)) batch)
  single_opens bs (m ∷ l ∷ ms) step answer on made carries reported = absurd (cc)

  first_shut : (bs : ℕ → Option Open) (ms : List Made) (k t : ℕ) (rest : List StepAnswer) → AllHere ms → All (IsMade shape history c) ms → Carries bs ms → step_results ms ≡ took k t ∷ rest → bs n ≡ None
  unfolding Carries
  first_shut bs [] k t rest on made carries reported = absurd (cc)
  first_shut bs (m ∷ ms) k t rest on made carries reported =
      let here : m.node ≡ n = All-head (λ (x : Made). x.node ≡ n) m ms on in
      let is : m.reported ≡ took k t = cc in
      let does = (All-head (IsMade shape history c) m ms made).does in
      let took-it : Does (shape m.node) (take m.before (history m.node)) c m.batch (Take k) m.own (Ok (reply.Taken t)) m.after = subst (λ (x : StepAnswer). Does (shape m.node) (take m.before (history m.node)) c m.batch x.step m.own x.answer m.after) is does in
      sym (carries.0 ∙ ap bs here) ∙ took_none (shape m.node) (take m.before (history m.node)) c k t m.batch m.own m.after took-it

  last_shut : (bs : ℕ → Option Open) (ms : List Made) (reported : List StepAnswer) (back : BackReply) → AllHere ms → All (IsMade shape history c) ms → step_results ms ≡ reported ++ answered_put_back back ∷ [] → batches_after bs ms n ≡ None
  unfolding batches_after
  last_shut bs [] [] back on made is = absurd (cc)
  last_shut bs [] (t ∷ reported) back on made is = absurd (cc)
  last_shut bs (m ∷ []) [] back on made is =
      let here : m.node ≡ n = All-head (λ (x : Made). x.node ≡ n) m [] on in
      let same : m.reported ≡ answered_put_back back = cc in
      let does = (All-head (IsMade shape history c) m [] made).does in
      let put : Does (shape m.node) (take m.before (history m.node)) c m.batch PutBack m.own (answered_put_back back).answer m.after = subst (λ (x : StepAnswer). Does (shape m.node) (take m.before (history m.node)) c m.batch x.step m.own x.answer m.after) same does in
      rw (eq-eqb n m.node (sym here)) (after_put_back (shape m.node) (take m.before (history m.node)) c m.batch m.own (answered_put_back back).answer m.after put)
  last_shut bs (m ∷ l ∷ ms) [] back on made is = absurd (cc)
  last_shut bs (m ∷ ms) (t ∷ reported) back on made is =
      last_shut (with_batch bs m.node m.after) ms reported back (All-tail (λ (x : Made). x.node ≡ n) m ms on) (All-tail (IsMade shape history c) m ms made) cc

  -- a command that was answered
  pub opens_by : (o : Op) (answer : Reaction) (bs : ℕ → Option Open) (ms : List Made) → AllHere ms → All (IsMade shape history c) ms → Carries bs ms → TurnsOut o (step_results ms) answer → is_open (batches_after bs ms n) ≡ leaves_open o answer (is_open (bs n))
  opens_by (op.Scan k) answer bs ms on made carries out =
      elim out [
        | inl done ↦
            let tries = map answered_try done.tries ++ answered_try tried.Done ∷ [] in
            let all : step_results ms ≡ (took k done.taken ∷ tries) ++ answered_put_back done.back ∷ [] = done.steps in
            let before : bs n ≡ None = first_shut bs ms k done.taken _ on made carries done.steps in
            let after : batches_after bs ms n ≡ None = last_shut bs ms (took k done.taken ∷ tries) done.back on made all in
            ap is_open (after ∙ sym before)
        | inr refused ↦ single_opens bs ms (Take k) (Err refused.why) on made carries refused.steps
      ]
  opens_by o answer bs ms on made carries out = single_opens bs ms (first_step o) answer on made carries out ∙ one_opens o answer (is_open (bs n)) refl

-- what is reported behind a command that was answered
module _ (nodes : ℕ) (opened : List Bool) (bs : ℕ → Option Open) (command : Command) (answer : Reaction) (ms : List Made) (known : OpenOn nodes opened bs) (lt : command.node < nodes) (on : All (λ (m : Made). m.node ≡ command.node) ms)
    (opens : is_open (batches_after bs ms command.node) ≡ leaves_open command.op answer (is_open (bs command.node))) where
  known_at : (n : ℕ) → n < nodes → (b : Bool) → (n == command.node) ≡ b → get_or (marked opened command answer) n false ≡ is_open (batches_after bs ms n)
  known_at n within true e =
      let same : n ≡ command.node = eqb-true n command.node e in
      let place : command.node < length opened = rw known.count lt in
      let was = known.each command.node lt in
      rw same (get_or-set_same opened command.node _ false place ∙ ap (leaves_open command.op answer) was ∙ sym opens)
  known_at n within false e =
      let other = eqb-false n command.node e in
      get_or-set_other opened command.node n _ false other ∙ known.each n within ∙ ap is_open (sym (batches_elsewhere bs command.node n ms on other))

  pub known_more : OpenOn nodes (marked opened command answer) (batches_after bs ms)
  known_more = record {
    count = length-set opened command.node _ ∙ known.count;
    each = λ n within. known_at n within (n == command.node) refl;
  }

-- one batch was put back
pub known_shut : (nodes : ℕ) (opened : List Bool) (bs cs : ℕ → Option Open) (n : ℕ) → OpenOn nodes opened bs → n < nodes → cs n ≡ None → ((k : ℕ) → (k ≡ n → ⊥) → cs k ≡ bs k) → OpenOn nodes (set opened n false) cs
known_shut nodes opened bs cs n known lt shut elsewhere = record {
  count = length-set opened n false ∙ known.count;
  each = λ k within. by_place k within (k == n) refl;
}
  where
    by_place : (k : ℕ) → k < nodes → (b : Bool) → (k == n) ≡ b → get_or (set opened n false) k false ≡ is_open (cs k)
    by_place k within true e =
        let same : k ≡ n = eqb-true k n e in
        let place : n < length opened = rw known.count lt in
        rw same (get_or-set_same opened n false false place ∙ ap is_open (sym shut))
    by_place k within false e =
        let other = eqb-false k n e in
        get_or-set_other opened n k false false other ∙ known.each k within ∙ ap is_open (sym (elsewhere k other))

-- nothing is open yet
pub known_none : (nodes : ℕ) (opened : List Bool) (bs : ℕ → Option Open) → opened ≡ replicate nodes false → ((n : ℕ) → bs n ≡ None) → OpenOn nodes opened bs
known_none nodes opened bs is none = rw is (record { count = length-replicate nodes false; each = λ n lt. all_false nodes n ∙ ap is_open (sym (none n)) })
  where
    all_false : (m n : ℕ) → get_or (replicate m false) n false ≡ false
    all_false zero n = refl
    all_false (suc m) zero = refl
    all_false (suc m) (suc n) = all_false m n

-- what is reported stays where the batches do
pub known_as : (nodes nodes' : ℕ) (opened : List Bool) (bs cs : ℕ → Option Open) → nodes' ≡ nodes → cs ≡ bs → OpenOn nodes opened bs → OpenOn nodes' opened cs
known_as nodes nodes' opened bs cs same is known = rw (same, is) known

-- a command is answered by what its node was called and by its reply
pub marked_alike : (opened : List Bool) (command : Command) (called : Result (Unit {0}) Refusal) (r : Reply) → marked opened command called ≡ marked opened command (answer_of called r)
marked_alike opened command called r = ap (set opened command.node) (alike command.op called (get_or opened command.node false))
  where
    alike : (o : Op) (called : Result (Unit {0}) Refusal) (was : Bool) → leaves_open o called was ≡ leaves_open o (answer_of called r) was
    alike (op.Take n) (Ok x) was = refl
    alike (op.Take n) (Err why) was = refl
    alike _ (Ok x) was = refl
    alike _ (Err why) was = refl

-- later steps begin with the batches that earlier ones left
pub carries_after : (bs : ℕ → Option Open) (xs ys : List Made) → Carries bs (xs ++ ys) → Carries (batches_after bs xs) ys
unfolding Carries batches_after
carries_after bs [] ys carries = carries
carries_after bs (x ∷ xs) ys carries = carries_after (with_batch bs x.node x.after) xs ys carries.1
