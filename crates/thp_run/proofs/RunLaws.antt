-- From the sections that a holder of all callers did to a run of the script.
use Rattle.std.proofs.Common.{◌≡◌, ◌∙◌, ◌⊎◌, ◌++◌, ◌+◌, ◌<◌, ◌≤◌, ap, ℕ, zero, suc, true, false, List, [], ◌∷◌, length, get_or, map, refl, sym, subst, inl, inr, arith, Some, None, All, nat_eq, slice_get, filter}
use Rattle.std.proofs.lemmas.Bool.{cases_lt, eq-eqb, ne_eqb}
use Rattle.std.proofs.lemmas.Grind.{flat_map-append}
use Rattle.std.proofs.lemmas.List.{append-nil}
use Rattle.std.proofs.lemmas.List.Elements.{All-append, All-head, All-tail}
use Rattle.thp_history.specs.declared.events.Event.{Event}
use Rattle.thp_history.specs.declared.shape.Shape.{Shape}
use Rattle.thp_history.specs.Prelude.{History, events_of}
use Rattle.thp_history.proofs.LegalSteps.{legal_none}
use Rattle.thp_cell.proofs.Fronts.{all_front}
use Rattle.thp_script.specs.declared.script.Command.{Command}
use Rattle.thp_script.specs.declared.script.ScriptSections.{ScriptSections}
use Rattle.thp_worker.specs.declared.reply.Answer.{Answer}
use Rattle.thp_worker.specs.declared.reply.SectionLog.{SectionLog}
use Rattle.thp_worker.specs.declared.reply.SectionOutcome.{SectionOutcome}
use Rattle.thp_worker.specs.Prelude.{Fronts, HoldsCaller, SameHolding, SameNodes, AllWork, KnowsOf, Turn, IsTurn, Steps, Carries, Works, WorksTo, IsDoneFor, turn_command, steps_of, own_events, batches_after, closing}
use Rattle.thp_worker.proofs.StepLaws.{is_made_stays}
use Rattle.thp_run.specs.Runs.{IsAnswered, IsRun, IsSection, no_batches, sections_of}
use Rattle.thp_run.specs.Sections.{IsNew, RunsTo, numbered}

-- where callers 1 and on did nothing, all events are caller 0's
all_by_setup : (callers : ℕ) (h : History) → All (λ (e : Event). e.caller < callers) h → ((c : ℕ) → 0 < c → c < callers → events_of c h ≡ []) → events_of 0 h ≡ h
unfolding events_of
all_by_setup callers [] below none = refl
all_by_setup callers (e ∷ es) below none =
    by_order (cases_lt 0 e.caller) (λ is. all_by_setup callers es (All-tail (λ (x : Event). x.caller < callers) e es below) (λ c some lt. rest is c some lt))
  where
    here : e.caller < callers
    here = All-head (λ (x : Event). x.caller < callers) e es below

    rest : e.caller ≡ 0 → (c : ℕ) → 0 < c → c < callers → filter (λ (x : Event). nat_eq x.caller c) es ≡ []
    rest is c some lt =
        let own = none c some lt in
        let other : nat_eq e.caller c ≡ false = ne_eqb e.caller c (λ same. absurd (omega (arith, is, same, some))) in
        rw other at own

    by_order : (0 < e.caller) ⊎ (e.caller ≤ 0) → (e.caller ≡ 0 → filter (λ (x : Event). nat_eq x.caller 0) es ≡ es) → filter (λ (x : Event). nat_eq x.caller 0) (e ∷ es) ≡ e ∷ es
    by_order (inl some) below-is =
        let own = none e.caller some here in
        let same : nat_eq e.caller e.caller ≡ true = eq-eqb e.caller e.caller refl in
        let kept = rw same at own in
        absurd (cc)
    by_order (inr least) below-is =
        let is : e.caller ≡ 0 = omega (arith, least) in
        rw (eq-eqb e.caller 0 is) (ap (λ l. e ∷ l) (below-is is))

events_none : (c : ℕ) → events_of c [] ≡ []
unfolding events_of
events_none c = refl

steps_of-append : (ts us : List Turn) → steps_of (ts ++ us) ≡ steps_of ts ++ steps_of us
steps_of-append ts us = flat_map-append (λ (t : Turn). t.steps) ts us

-- the section of a caller who did nothing before
module _ (c : ℕ) (old new : Fronts) (commands : List Command) (w : SectionOutcome) (works : Works c old new commands w) (done : IsDoneFor w) (idle : (n : ℕ) → events_of c (old.front n) ≡ []) (shut : (n : ℕ) → old.batches c n ≡ None)
    (inside : c ≡ 0 → (n : ℕ) → length (new.front n) ≤ length (events_of 0 (new.front n))) (after : 0 < c → (n : ℕ) → length (events_of 0 (new.front n)) ≤ length (old.front n)) where
  no_open : old.batches c ≡ no_batches
  no_open = λ i n. shut n i

  pub section_by : IsSection old.nodes old.shape new.front c commands w.answers.items
  section_by =
      let to : WorksTo c old new commands w.answers.items w.opened.items None = subst (WorksTo c old new commands w.answers.items w.opened.items) done works.to in
      let e = to.1 in
      let st : Steps c old new (steps_of (e.turns ++ e.closed)) = subst (Steps c old new) (sym (steps_of-append e.turns e.closed)) e.steps in
      record {
        turns = e.turns;
        closed = e.closed;
        each = All-append IsTurn e.turns e.closed e.each e.each_closed;
        done = e.done;
        answered = e.answered;
        closes = sym (ap (λ bs. closing old.nodes (batches_after bs (steps_of e.turns))) (sym no_open) ∙ e.closes ∙ ap (λ l. map turn_command e.closed ++ l) to.2 ∙ append-nil (map turn_command e.closed));
        stand = st.each;
        in_order = st.in_order;
        carries = subst (λ bs. Carries bs (steps_of (e.turns ++ e.closed))) no_open st.carries;
        whole = λ n. st.own n ∙ ap (λ h. h ++ own_events n (steps_of (e.turns ++ e.closed))) (idle n);
        within_setup = λ zero k d lt.
            let made = st.each k d lt in
            let last = inside zero (get_or (steps_of (e.turns ++ e.closed)) k d).node in
            omega (arith, made.within, last);
        after_setup = λ some k d lt.
            let behind = st.behind k d lt in
            let first = after some (get_or (steps_of (e.turns ++ e.closed)) k d).node in
            omega (arith, behind, first);
      }

-- setup stays setup where the histories go on with events of others
setup_later : (nodes : ℕ) (shape : ℕ → Shape) (h k : ℕ → History) (commands : List Command) (answers : List Answer) → ((n : ℕ) → (more : History) × (k n ≡ h n ++ more)) → ((n : ℕ) → events_of 0 (k n) ≡ events_of 0 (h n)) → IsSection nodes shape h 0 commands answers → IsSection nodes shape k 0 commands answers
setup_later nodes shape h k commands answers grown same s = record {
  turns = s.turns;
  closed = s.closed;
  each = s.each;
  done = s.done;
  answered = s.answered;
  closes = s.closes;
  stand = λ i d lt. is_made_stays shape h k 0 grown (get_or (steps_of (s.turns ++ s.closed)) i d) (s.stand i d lt);
  in_order = s.in_order;
  carries = s.carries;
  whole = λ n. same n ∙ s.whole n;
  within_setup = λ zero i d lt.
      let last = s.within_setup zero i d lt in
      let length-same = ap length (same (get_or (steps_of (s.turns ++ s.closed)) i d).node) in
      omega (arith, last, length-same);
  after_setup = λ some. absurd (omega (arith, some));
}

length-numbered : (k : ℕ) (ws : List SectionOutcome) → length (numbered k ws) ≡ length ws
length-numbered k [] = refl
length-numbered k (w ∷ ws) = ap suc (length-numbered (k + 1) ws)

pub all_work-length : (c : ℕ) (old new : Fronts) (vs : List (List Command)) (ws : List SectionOutcome) → AllWork c old new vs ws → length vs ≡ length ws
unfolding AllWork
all_work-length c old new [] [] a = refl
all_work-length c old new [] (w ∷ ws) a = absurd a
all_work-length c old new (v ∷ vs) [] a = absurd a
all_work-length c old new (v ∷ vs) (w ∷ ws) a = ap suc (all_work-length (c + 1) old new vs ws a.1)

-- what became of the section at this place
record At (c k : ℕ) (old new : Fronts) (commands : List Command) (section : SectionLog) : Type 0 where
  worked : SectionOutcome
  is : section ≡ record { worker = c + k; answers = worked.answers }
  works : Works (c + k) old new commands worked
  done : IsDoneFor worked

some_inner : {A : Type 0} (a b : A) → Some a ≡ Some b → a ≡ b
some_inner a b e = cc

work_at : (c k : ℕ) (old new : Fronts) (vs : List (List Command)) (ws : List SectionOutcome) (commands : List Command) (section : SectionLog) → AllWork c old new vs ws → All IsDoneFor ws → slice_get vs k ≡ Some commands → slice_get (numbered c ws) k ≡ Some section → At c k old new commands section
unfolding AllWork
work_at c k old new [] ws commands section a done at-commands at = absurd (cc)
work_at c k old new (v ∷ vs) [] commands section a done at-commands at = absurd a
work_at c zero old new (v ∷ vs) (w ∷ ws) commands section a done at-commands at =
    let place : c + 0 ≡ c = omega arith in
    record {
      worked = w;
      is = sym (some_inner (record { worker = c; answers = w.answers }) section at) ∙ ap (λ k. record { worker = k; answers = w.answers }) (sym place);
      works = subst (λ vs. Works (c + 0) old new vs w) (some_inner v commands at-commands) (rw place a.0);
      done = All-head IsDoneFor w ws done;
    }
work_at c (suc k) old new (v ∷ vs) (w ∷ ws) commands section a done at-commands at =
    let next = work_at (c + 1) k old new vs ws commands section a.1 (All-tail IsDoneFor w ws done) at-commands at in
    let place : c + 1 + k ≡ c + suc k = omega arith in
    record { worked = next.worked; is = next.is ∙ ap (λ k. record { worker = k; answers = next.worked.answers }) place; works = subst (λ k. Works k old new commands next.worked) place next.works; done = next.done }

pub same_nodes : (f g : Fronts) → SameHolding f g → SameNodes f g
same_nodes f g s = record { cells = s.cells; nodes = s.nodes; shape = s.shape; callers = s.callers }

-- nothing happened before, and nobody beyond the workers did anything
module _ (f g : Fronts) (script : ScriptSections) (sections : List SectionLog) (new : IsNew (length script.workers) f) (r : RunsTo f g script sections) (below : (n : ℕ) → All (λ (e : Event). e.caller < 1 + length script.workers) (g.front n)) where
  mid : Fronts
  mid = r.between

  has : (c : ℕ) → c < 1 + length script.workers → HoldsCaller f c
  has c lt = record { low = omega (arith, new.first); high = omega (arith, new.end, lt) }

  has_mid : (c : ℕ) → c < 1 + length script.workers → HoldsCaller r.between c
  has_mid c lt = record { low = omega (arith, new.first, r.begins.same.first); high = omega (arith, new.end, lt, r.begins.same.end) }

  nothing : (c n : ℕ) → events_of c (f.front n) ≡ []
  nothing c n = ap (events_of c) (new.front n) ∙ events_none c

  -- setup left the workers as they were
  idle : (c n : ℕ) → 0 < c → c < 1 + length script.workers → events_of c (r.between.front n) ≡ []
  idle c n some lt = r.begins.others c n (has c lt) (λ e. absurd (omega (arith, some, e))) ∙ nothing c n

  shut : (c n : ℕ) → 0 < c → r.between.batches c n ≡ None
  shut c n some = r.begins.others_batches c n (λ e. absurd (omega (arith, some, e))) ∙ new.batches c n

  -- after setup all events are caller 0's
  setup_alone : (n : ℕ) → events_of 0 (r.between.front n) ≡ r.between.front n
  setup_alone n = all_by_setup (1 + length script.workers) (r.between.front n)
      (all_front (λ (e : Event). e.caller < 1 + length script.workers) (r.between.front n) (r.goes.grown n).0 (subst (All (λ (e : Event). e.caller < 1 + length script.workers)) (r.goes.grown n).1 (below n)))
      (λ c some lt. idle c n some lt)

  setup_knows : KnowsOf 0 r.between g
  setup_knows = r.goes.others 0 (has_mid 0 (omega arith)) (omega arith)

  setup_part : (n : ℕ) → events_of 0 (g.front n) ≡ r.between.front n
  setup_part n = setup_knows.part n ∙ setup_alone n

  setup_section : IsSection f.nodes f.shape g.front 0 script.setup r.setup.answers.items
  setup_section =
      let first : IsSection f.nodes f.shape r.between.front 0 script.setup r.setup.answers.items =
      section_by 0 f r.between script.setup r.setup r.setup_works r.setup_done (nothing 0) (new.batches 0) (λ _ n. let e = ap length (setup_alone n) in omega (arith, e)) (λ some. absurd (omega (arith, some))) in
      setup_later f.nodes f.shape r.between.front g.front script.setup r.setup.answers.items r.goes.grown setup_knows.part first

  worker_section : (c : ℕ) (commands : List Command) (w : SectionOutcome) → 0 < c → c < 1 + length script.workers → Works c r.between g commands w → IsDoneFor w → IsSection f.nodes f.shape g.front c commands w.answers.items
  worker_section c commands w some lt works done = grind (arith, section_by, idle, shut, setup_part)

  workers_are : length r.workers ≡ length script.workers
  workers_are = sym (all_work-length 1 r.between g script.workers r.workers r.workers_work)

  answered : (k : ℕ) (commands : List Command) (section : SectionLog) → slice_get (sections_of script) k ≡ Some commands → slice_get (numbered 0 (r.setup ∷ r.workers)) k ≡ Some section → IsAnswered f.nodes f.shape g.front k commands section
  answered zero commands section at-commands at =
      let is : record { worker = 0; answers = r.setup.answers } ≡ section = some_inner (record { worker = 0; answers = r.setup.answers }) section at in
      subst (IsAnswered f.nodes f.shape g.front 0 commands) is (record {
        number = refl;
        done = subst (λ cs. IsSection f.nodes f.shape g.front 0 cs r.setup.answers.items) (some_inner script.setup commands at-commands) setup_section;
      })
  answered (suc k) commands section at-commands at =
      let here = work_at 1 k r.between g script.workers r.workers commands section r.workers_work r.workers_done at-commands at in
      let lt = within script.workers k commands at-commands in
      let place : 1 + k ≡ suc k = omega arith in
      let done = worker_section (1 + k) commands here.worked (omega arith) (omega (arith, lt)) here.works here.done in
      subst (IsAnswered f.nodes f.shape g.front (suc k) commands) (sym here.is) (record { number = place; done = subst (λ c. IsSection f.nodes f.shape g.front c commands here.worked.answers.items) place done })
    where
      within : (xs : List (List Command)) (i : ℕ) (x : List Command) → slice_get xs i ≡ Some x → i < length xs
      within [] i x e = absurd (cc)
      within (y ∷ xs) zero x e = omega arith
      within (y ∷ xs) (suc i) x e = omega (arith, within xs i x e)

  pub run_of : IsRun f.nodes f.shape script g.front sections
  run_of = record {
    legal = λ n.
        let first = r.begins.legal n (rw (new.front n) (legal_none (f.shape n))) in
        let then = r.goes.legal n in
        let shape = r.begins.same.shape in
        rw shape at then first;
    count = ap length r.reported ∙ length-numbered 0 (r.setup ∷ r.workers) ∙ ap suc workers_are;
    each = λ k commands section at-commands at. answered k commands section at-commands (ap (λ l. slice_get l k) (sym r.reported) ∙ at);
    setup_first = λ n. ((r.goes.grown n).0, (r.goes.grown n).1 ∙ ap (λ h. h ++ (r.goes.grown n).0) (sym (setup_part n)));
    nobody_else = λ n k d lt. let most = below n k d lt in omega (arith, most);
  }
