-- What is left of the workers' sections, done one after another.
use Rattle.std.proofs.Common.{◌≡◌, ◌∙◌, ◌++◌, ◌+◌, ◌<◌, ◌≤◌, ap, ℕ, zero, suc, List, [], ◌∷◌, length, drop, get_or, refl, sym, subst, arith, length-append, append_assoc, Some, All, slice_get}
use Rattle.std.proofs.lemmas.List.{append-nil, drop_all}
use Rattle.std.proofs.lemmas.Option.{slice_get_read}
use Rattle.std.proofs.lemmas.List.Elements.{All-cons, All-head, All-nil, All-push, All-tail}
use Rattle.thp_script.specs.declared.script.Command.{Command}
use Rattle.thp_script.specs.declared.script.ScriptSections.{ScriptSections}
use Rattle.thp_script.specs.Prelude.{max_workers}
use Rattle.thp_worker.specs.declared.answer_log.Answers.{Answers}
use Rattle.thp_worker.specs.declared.reply.SectionLog.{SectionLog}
use Rattle.thp_worker.specs.declared.reply.SectionOutcome.{SectionOutcome}
use Rattle.thp_worker.specs.Prelude.{Fronts, Goes, HoldsAllCallers, HoldsCaller, AllWork, CanRun, RangeDone, AnswersAre, IsDoneFor, Works}
use Rattle.thp_worker.specs.Halves as halves
use Rattle.thp_worker.proofs.HalvesLaws.{works_from, all_work_as}
use Rattle.thp_worker.proofs.StepLaws.{same_refl, same_trans, has_later}
use Rattle.thp_run.specs.Sections.{GoesFrom, InOrder, IsFitScript, IsNew, RunsTo, SectionAnswersAre, numbered}
use Rattle.thp_run.proofs.RunLaws.{all_work-length, same_nodes}

-- ---- callers that went on

goes_from_refl : (from : ℕ) (f : Fronts) → GoesFrom from f f
goes_from_refl from f = grind (arith, same_refl, append-nil)

goes_from_trans : (from : ℕ) (f g h : Fronts) → GoesFrom from f g → GoesFrom from g h → GoesFrom from f h
goes_from_trans from f g h a b = record {
  same = same_trans f g h a.same b.same;
  grown = λ n. (
    (a.grown n).0 ++ (b.grown n).0,
    (b.grown n).1 ∙ ap (λ h. h ++ (b.grown n).0) (a.grown n).1 ∙ append_assoc (f.front n) (a.grown n).0 (b.grown n).0,
  );
  others = λ c has low.
      let first = a.others c has low in
      let then = b.others c (has_later f g c a.same has) low in
      record { part = λ n. then.part n ∙ first.part n; batches = λ n. then.batches n ∙ first.batches n };
  legal = λ n legal. let then = b.legal n in rw a.same.shape at then (a.legal n legal);
}

goes_from_one : (from c : ℕ) (f g : Fronts) → from ≤ c → Goes c f g → GoesFrom from f g
goes_from_one from c f g le goes = grind arith

goes_from_ran : (from : ℕ) (f g : Fronts) (vs : List (List Command)) (ws : List SectionOutcome) → RangeDone from f g vs ws → GoesFrom from f g
goes_from_ran from f g vs ws r = grind arith

-- ---- one section more

-- the section at this place
pub work_of : (c : ℕ) (old new : Fronts) (vs : List (List Command)) (v : List Command) (done : List SectionOutcome) (w : SectionOutcome) (rest : List SectionOutcome) → AllWork c old new vs (done ++ w ∷ rest) → slice_get vs (length done) ≡ Some v → Works (c + length done) old new v w
unfolding AllWork
work_of c old new [] v [] w rest a at = absurd a
work_of c old new [] v (d ∷ done) w rest a at = absurd a
work_of c old new (x ∷ vs) v [] w rest a at =
    let is : x ≡ v = cc in
    let place : c + 0 ≡ c = omega arith in
    rw (place, ← is) a.0
work_of c old new (x ∷ vs) v (d ∷ done) w rest a at =
    let place : c + suc (length done) ≡ c + 1 + length done = omega arith in
    rw place (work_of (c + 1) old new vs v done w rest a.1 at)

-- the section at this place went on, and the others stayed as they were
put : (c : ℕ) (old f g : Fronts) (vs : List (List Command)) (v : List Command) (done : List SectionOutcome) (w w' : SectionOutcome) (rest : List SectionOutcome)
    → ((k : ℕ) → c ≤ k → k < c + length vs → (k ≡ c + length done → ⊥) → (commands : List Command) (x : SectionOutcome) → Works k old f commands x → Works k old g commands x)
    → slice_get vs (length done) ≡ Some v → Works (c + length done) old g v w' → AllWork c old f vs (done ++ w ∷ rest) → AllWork c old g vs (done ++ w' ∷ rest)
unfolding AllWork
put c old f g [] v [] w w' rest stay at works a = absurd a
put c old f g [] v (d ∷ done) w w' rest stay at works a = absurd a
put c old f g (x ∷ vs) v [] w w' rest stay at works a =
    let is : x ≡ v = cc in
    let place : c + 0 ≡ c = omega arith in
    let here : Works c old g v w' = subst (λ k. Works k old g v w') place works in
    (rw is here, all_work_as vs rest (c + 1) old old f g (λ k lo hi. stay k (omega (arith, lo)) (omega (arith, hi)) (λ e. absurd (omega (arith, lo, e)))) a.1)
put c old f g (x ∷ vs) v (d ∷ done) w w' rest stay at works a =
    let place : c + suc (length done) ≡ c + 1 + length done = omega arith in (
      stay c (omega arith) (omega arith) (λ e. absurd (omega (arith, e))) x d a.0,
      put (c + 1) old f g vs v done w w' rest (λ k lo hi other. stay k (omega (arith, lo)) (omega (arith, hi)) (λ e. other (e ∙ place))) at (subst (λ k. Works k old g v w') place works) a.1,
    )

-- the elements from a place on are the one there and those behind it
drop_one : {A : Type 0} (xs : List A) (n : ℕ) (x : A) → slice_get xs n ≡ Some x → drop n xs ≡ x ∷ drop (suc n) xs
drop_one [] n x e = absurd (cc)
drop_one (y ∷ xs) zero x e = let same : y ≡ x = cc in ap (λ z. z ∷ xs) same
drop_one (y ∷ xs) (suc n) x e = drop_one xs n x e

-- one worker more, in order
one_more : (c : ℕ) (f g h : Fronts) (all : List (List Command)) (v : List Command) (vs : List (List Command)) (w w' : SectionOutcome) (rest more : List SectionOutcome) → all ≡ v ∷ vs → Goes c f g
    → ((old : Fronts) → Works c old f v w → Works c old g v w') → InOrder (c + 1) g h vs rest more → InOrder c f h all (w ∷ rest) (w' ∷ more)
unfolding InOrder
one_more c f g h all v vs w w' rest more is goes works behind = rw is (g, goes, works, behind)

-- what was left of the first sections is done
pub record RestDone (first f : Fronts) (workers : List (List Command)) (started done rest : List SectionOutcome) : Type 0 where
  -- whatever goes on in order from here, went on in order from the first worker on
  pub order : (g : Fronts) (more : List SectionOutcome) → InOrder (1 + length done) f g (drop (length done) workers) rest more → InOrder 1 first g workers started (done ++ more)
  pub goes : GoesFrom 1 first f
  pub work : (old : Fronts) → AllWork 1 old first workers started → AllWork 1 old f workers (done ++ rest)
  pub all_done : All IsDoneFor done
  pub count : length workers ≡ length done + length rest

pub rest_first : (old f : Fronts) (workers : List (List Command)) (started done rest : List SectionOutcome) → AllWork 1 old f workers started → done ≡ [] → rest ≡ started → RestDone f f workers started done rest
rest_first old f workers started done rest a none is = rw (none, is) (record {
  order = λ g more ordered. ordered;
  goes = goes_from_refl 1 f;
  work = λ old a. a;
  all_done = All-nil IsDoneFor;
  count = let all = all_work-length 1 old f workers started a in omega (arith, all);
})

-- who holds all callers has each worker
pub has_worker : (first f : Fronts) (workers : ℕ) (k : ℕ) → GoesFrom 1 first f → HoldsAllCallers first → first.callers ≡ 1 + workers → k < 1 + workers → HoldsCaller f k
has_worker first f workers k goes all callers lt = record { low = omega (arith, all.low, goes.same.first); high = omega (arith, all.high, goes.same.end, callers, lt) }

pub has_all_later : (first f : Fronts) → GoesFrom 1 first f → HoldsAllCallers first → HoldsAllCallers f
has_all_later first f goes all = record { low = goes.same.first ∙ all.low; high = goes.same.end ∙ all.high ∙ sym goes.same.callers }

module _ (first f g : Fronts) (workers : List (List Command)) (v : List Command) (started done items : List SectionOutcome) (w : SectionOutcome) (rest : List SectionOutcome) (r : RestDone first f workers started done items) (is : items ≡ w ∷ rest) where
  pub below : length done < length workers
  below = let shorter = ap length is in omega (arith, r.count, shorter)

  listed : (old : Fronts) → AllWork 1 old first workers started → AllWork 1 old f workers (done ++ w ∷ rest)
  listed old a = subst (λ l. AllWork 1 old f workers (done ++ l)) is (r.work old a)

  pub rest_works : (old : Fronts) → AllWork 1 old first workers started → slice_get workers (length done) ≡ Some v → Works (1 + length done) old f v w
  rest_works old a at = work_of 1 old f workers v done w rest (listed old a) at

  pub rest_more : (w' : SectionOutcome) → HoldsAllCallers first → first.callers ≡ 1 + length workers → slice_get workers (length done) ≡ Some v → Goes (1 + length done) f g
      → ((old : Fronts) → Works (1 + length done) old f v w → Works (1 + length done) old g v w') → IsDoneFor w' → RestDone first g workers started (done ++ w' ∷ []) rest
  rest_more w' all callers at goes works whole = record {
    order = λ h more ordered.
        let len : length (done ++ w' ∷ []) ≡ suc (length done) = omega (arith, length-append done (w' ∷ [])) in
        let behind : InOrder (1 + length done + 1) g h (drop (suc (length done)) workers) rest more = subst (λ k. InOrder k g h (drop (suc (length done)) workers) rest more) (omega arith) (subst (λ k. InOrder (1 + k) g h (drop k workers) rest more) len ordered) in
        let here = one_more (1 + length done) f g h (drop (length done) workers) v (drop (suc (length done)) workers) w w' rest more (drop_one workers (length done) v at) goes works behind in
        subst (InOrder 1 first h workers started) (sym (append_assoc done (w' ∷ []) more)) (r.order h (w' ∷ more) (subst (λ l. InOrder (1 + length done) f h (drop (length done) workers) l (w' ∷ more)) (sym is) here));
    goes = goes_from_trans 1 first f g r.goes (goes_from_one 1 (1 + length done) f g (omega arith) goes);
    work = λ old a.
        let new = put 1 old f g workers v done w w' rest (λ k lo hi other commands x was. stays old k lo hi other commands x was) at (works old (rest_works old a at)) (listed old a) in
        subst (AllWork 1 old g workers) (sym (append_assoc done (w' ∷ []) rest)) new;
    all_done = All-push IsDoneFor done w' r.all_done whole;
    count = let shorter = ap length is in let longer = length-append done (w' ∷ []) in omega (arith, r.count, shorter, longer);
  }
    where
      stays : (old : Fronts) (k : ℕ) → 1 ≤ k → k < 1 + length workers → (k ≡ 1 + length done → ⊥) → (commands : List Command) (x : SectionOutcome) → Works k old f commands x → Works k old g commands x
      stays old k lo hi other commands x was =
          let has = has_worker first f (length workers) k r.goes all callers hi in
          works_from k old old f g commands x (record { cells = refl; nodes = refl; shape = refl; callers = refl }) (λ n. refl) (λ n. refl) (same_nodes f g goes.same) goes.grown (record { part = λ n. goes.others k n has other; batches = λ n. goes.others_batches k n other }) was

pub rest_ordered : (first f : Fronts) (workers : List (List Command)) (started done rest : List SectionOutcome) → RestDone first f workers started done rest → length rest ≡ 0 → InOrder 1 first f workers started done
unfolding InOrder
rest_ordered first f workers started done [] r none =
    let past : length workers ≤ length done = let count = r.count in omega (arith, count) in
    let here = r.order f [] (rw (drop_all (length done) workers past) refl) in
    subst (InOrder 1 first f workers started) (append-nil done) here
rest_ordered first f workers started done (w ∷ rest) r none = absurd (omega (arith, none))

-- ---- the whole

module _ (f mid : Fronts) (script : ScriptSections) (new : IsNew (length script.workers) f) (fits : IsFitScript f.nodes script) (begins : Goes 0 f mid) where
  pub workers_fit : (nodes : ℕ) → nodes ≡ f.nodes → All (halves.AreCommandsFor nodes) script.workers
  workers_fit nodes is = rw is fits.workers

  pub can_run : CanRun mid 1 script.workers
  can_run = grind (arith, workers_fit)

  module _ (ran : Fronts) (ws : List SectionOutcome) (r : RangeDone 1 mid ran script.workers ws) where
    pub ran_fit : All (halves.AreCommandsFor ran.nodes) script.workers
    ran_fit = workers_fit ran.nodes (r.same.nodes ∙ begins.same.nodes)

    pub ran_callers : ran.callers ≡ 1 + length script.workers
    ran_callers = r.same.callers ∙ begins.same.callers ∙ new.callers

    pub ran_all : HoldsAllCallers ran
    ran_all = record { low = r.first ∙ begins.same.first ∙ new.first; high = r.end ∙ begins.same.end ∙ new.end ∙ sym new.callers ∙ sym begins.same.callers ∙ sym r.same.callers }

    module _ (end : Fronts) (xs : List SectionOutcome) (goes : GoesFrom 1 ran end) (work : AllWork 1 mid end script.workers xs) (order : InOrder 1 ran end script.workers ws xs) where
      pub few_done : length xs ≤ max_workers
      few_done = let same = all_work-length 1 mid end script.workers xs work in omega (arith, same, fits.most)

      pub runs_to : (setup : SectionOutcome) (sections : List SectionLog) → Works 0 f mid script.setup setup → IsDoneFor setup → All IsDoneFor xs → sections ≡ numbered 0 (setup ∷ xs) → RunsTo f end script sections
      runs_to setup sections works setup-done done reported = record {
        between = mid;
        setup = setup;
        workers = xs;
        begins = begins;
        setup_works = works;
        setup_done = setup-done;
        postponed = ran;
        started = ws;
        side_by_side = r;
        ascending = order;
        goes = goes_from_trans 1 mid ran end (goes_from_ran 1 mid ran script.workers ws r) goes;
        workers_work = work;
        workers_done = done;
        reported = reported;
      }

-- an element by its index
pub at_index : (vs : List (List Command)) (v : List Command) (i n : ℕ) → i ≡ n → n < length vs → v ≡ get_or vs i v → slice_get vs n ≡ Some v
at_index vs v i n e lt is = subst (λ k. slice_get vs k ≡ Some v) e (slice_get_read vs (length vs) i v refl (omega (arith, e, lt)) is)

-- what became of the answers is the same by section as by worker
pub answers_numbered : (are : Answers) (k : ℕ) (ws : List SectionOutcome) → All (AnswersAre are) ws → All (SectionAnswersAre are) (numbered k ws)
answers_numbered are k [] all = All-nil (SectionAnswersAre are)
answers_numbered are k (w ∷ ws) all =
    All-cons (SectionAnswersAre are) (record { worker = k; answers = w.answers }) (numbered (k + 1) ws) (All-head (AnswersAre are) w ws all) (answers_numbered are (k + 1) ws (All-tail (AnswersAre are) w ws all))
