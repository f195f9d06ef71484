-- Commands, one after another, and the put-backs at a section's end.
use Rattle.std.proofs.Common.{◌≡◌, ◌∙◌, ◌⊎◌, ◌++◌, set, ◌+◌, ◌-◌, ◌<◌, ◌≤◌, ap, ℕ, zero, suc, Bool, true, false, List, [], ◌∷◌, length, take, map, refl, sym, subst, inl, inr, arith, append_assoc, length-append, Option, Some, None, Ok, Err, All, Vec, replicate, slice_get, Result}
use Rattle.std.specs.declared.alloc.Global.{Global}
use Rattle.std.proofs.lemmas.List.{append-nil, map-append, length-map, take-append-le, take_all}
use Rattle.std.proofs.lemmas.Bool.{cases_lt}
use Rattle.std.proofs.lemmas.Option.{slice_get_past}
use Rattle.std.proofs.lemmas.Grind.{flat_map-append}
use Rattle.std.proofs.lemmas.List.Elements.{All-nil, All-push, All-append}
use Rattle.thp_cell.proofs.Fronts.{all_back}
use Rattle.thp_cell.specs.declared.fault.CellFault.{CellFault}
use Rattle.thp_cell.specs.declared.fault.CellFault.TheVariants.{Busy, Refused}
use Rattle.thp_history.specs.declared.refusal.Refusal.{Refusal}
use Rattle.thp_history.specs.declared.refusal.Refusal.TheVariants as why
use Rattle.thp_script.specs.declared.script.Command.{Command}
use Rattle.thp_script.specs.declared.script.Op.{Op}
use Rattle.thp_script.specs.declared.script.Op.TheVariants as op
use Rattle.thp_worker.specs.Prelude.{Answer, Reply, Rest, CommandProgress, LogState, Open, Reaction, Fronts, Goes, CommandState, On, Ended, Comes, answer_of, by_cell, StepAnswer, IsProgressAfter, TurnsOut, no_progress, HasNoBatch, is_open, marked, Made, IsMade, Steps, Proceeds, step_results, Turn, IsTurn, turn_command, steps_of, batches_after, put_back_on, closing_from, closing, answers_from, IsProgressOn, IsNext, Begins, Ends, PutsBack, Works, progress_of}
use Rattle.thp_worker.proofs.CommandLaws.{cell_comes}
use Rattle.thp_worker.proofs.OpenLaws.{carries_after, known_as, known_more, known_none, known_shut, marked_alike, opens_by}
use Rattle.thp_worker.proofs.StepLaws.{steps_none, steps_then, goes_grows, grows_refl, grows_trans, batches_after-append, batches_elsewhere, closed_by}

-- below the next is below or there
split_lt : (k n : ℕ) → k < suc n → (k < n) ⊎ (k ≡ n)
split_lt k n lt = grind (arith, cases_lt)

steps_of-append : (ts us : List Turn) → steps_of (ts ++ us) ≡ steps_of ts ++ steps_of us
steps_of-append ts us = flat_map-append (λ (t : Turn). t.steps) ts us

steps_of-push : (ts : List Turn) (t : Turn) → steps_of (ts ++ t ∷ []) ≡ steps_of ts ++ t.steps
steps_of-push ts t = steps_of-append ts (t ∷ []) ∙ ap (λ l. steps_of ts ++ l) (append-nil t.steps)

not_begun : (o : Op) → IsProgressAfter o [] no_progress
not_begun o = record { count = refl; so_far = inl (refl, refl) }

-- ---- answers by their numbers

answers-push : (k : ℕ) (ts : List Turn) (t : Turn) → answers_from k (ts ++ t ∷ []) ≡ answers_from k ts ++ record { command = k + length ts; node = t.command.node; reply = t.answer } ∷ []
answers-push k [] t = let e : k + 0 ≡ k = omega arith in rw e refl
answers-push k (x ∷ ts) t =
    let e : k + 1 + length ts ≡ k + length (x ∷ ts) = omega arith in
    rw (answers-push (k + 1) ts t, e) refl

answers-push_first : (ts : List Turn) (t : Turn) → answers_from 0 (ts ++ t ∷ []) ≡ answers_from 0 ts ++ record { command = length ts; node = t.command.node; reply = t.answer } ∷ []
answers-push_first ts t = let e : 0 + length ts ≡ length ts = omega arith in let push = answers-push 0 ts t in rw e at push

pub length-answers : (k : ℕ) (ts : List Turn) → length (answers_from k ts) ≡ length ts
length-answers k [] = refl
length-answers k (t ∷ ts) = rw (length-answers (k + 1) ts) refl

-- ---- commands

is_next_first : (bs : ℕ → Option Open) (o : Option Command) → IsNext bs o [] no_progress
is_next_first bs x = grind (arith, All-nil, not_begun)

-- no command yet
pub begins_first : (c : ℕ) (f : Fronts) (commands : List Command) (answers : List Answer) (opened : List Bool) → answers ≡ [] → opened ≡ replicate f.nodes false → HasNoBatch c f → Begins c f f commands answers opened no_progress
unfolding batches_after
begins_first c f commands answers opened none shut no-batch = record {
  turns = [];
  made = [];
  grows = grows_refl f;
  steps = steps_none c f;
  each = All-nil IsTurn;
  done = refl;
  answered = none;
  next = is_next_first (f.batches c) (slice_get commands 0);
  known = known_none f.nodes opened (f.batches c) shut no-batch;
}

take_one_more : {A : Type 0} (xs : List A) (n : ℕ) (x : A) → slice_get xs n ≡ Some x → take (suc n) xs ≡ take n xs ++ x ∷ []
take_one_more [] n x e = absurd (cc)
take_one_more (y ∷ xs) zero x e = let heads : y ≡ x = cc in ap (λ z. z ∷ []) heads
take_one_more (y ∷ xs) (suc n) x e = ap (λ l. y ∷ l) (take_one_more xs n x e)

module _ (c : ℕ) (old mid new : Fronts) (commands : List Command) (answers : List Answer) (opened : List Bool) (begun : CommandProgress) (command : Command) (at : slice_get commands (length answers) ≡ Some command) (b : Begins c old mid commands answers opened begun) (g : Goes c mid new) where
  as_many : length b.turns ≡ length answers
  as_many = sym (ap length b.answered ∙ length-answers 0 b.turns)

  here : slice_get commands (length b.turns) ≡ Some command
  here = ap (slice_get commands) as_many ∙ at

  next : IsProgressOn (mid.batches c) command b.made begun
  next = subst (λ o. IsNext (mid.batches c) o b.made begun) here b.next

  -- the command that comes next was done
  pub begins_more : (answer : Reaction) → command.node < mid.nodes → Proceeds c command begun mid new (Ended answer) → Begins c old new commands (answers ++ record { command = length answers; node = command.node; reply = answer } ∷ []) (marked opened command answer) no_progress
  begins_more answer lt p =
      let turn : Turn = record { command = command; steps = b.made ++ p.made; answer = answer } in
      let st : Steps c old new ((steps_of b.turns ++ b.made) ++ p.made) = steps_then c old mid new (steps_of b.turns ++ b.made) p.made b.grows (goes_grows c mid new g) b.steps p.steps in
      let all : steps_of (b.turns ++ turn ∷ []) ++ [] ≡ (steps_of b.turns ++ b.made) ++ p.made = append-nil (steps_of (b.turns ++ turn ∷ [])) ∙ steps_of-push b.turns turn ∙ sym (append_assoc (steps_of b.turns) b.made p.made) in
      let reported : step_results (b.made ++ p.made) ≡ step_results b.made ++ step_results p.made = map-append (λ (m : Made). m.reported) b.made p.made in
      let on : All (λ (m : Made). m.node ≡ command.node) turn.steps = All-append (λ (m : Made). m.node ≡ command.node) b.made p.made next.on_node p.on_node in
      let out : TurnsOut command.op (step_results turn.steps) answer = subst (λ (l : List StepAnswer). TurnsOut command.op l answer) (sym reported) (p.turned (step_results b.made) next.begun) in
      let before = batches_after (old.batches c) (steps_of b.turns) in
      let whole : Steps c old new (steps_of b.turns ++ turn.steps) = subst (Steps c old new) (append_assoc (steps_of b.turns) b.made p.made) st in
      let len : length (b.turns ++ turn ∷ []) ≡ suc (length b.turns) = omega (arith, length-append b.turns (turn ∷ [])) in
      let said : answers_from 0 b.turns ++ record { command = length b.turns; node = command.node; reply = answer } ∷ [] ≡ answers ++ record { command = length answers; node = command.node; reply = answer } ∷ [] = λ i. sym b.answered i ++ record { command = as_many i; node = command.node; reply = answer } ∷ [] in
      record {
        turns = b.turns ++ turn ∷ [];
        made = [];
        grows = grows_trans old mid new b.grows (goes_grows c mid new g);
        steps = subst (Steps c old new) (sym all) st;
        each = All-push IsTurn b.turns turn b.each (record { on_node = on; turns_out = out });
        done = map-append turn_command b.turns (turn ∷ []) ∙ ap (λ l. l ++ command ∷ []) b.done ∙ sym (take_one_more commands (length b.turns) command here) ∙ ap (λ n. take n commands) (sym len);
        answered = sym (answers-push_first b.turns turn ∙ said);
        next = is_next_first (new.batches c) (slice_get commands (length (b.turns ++ turn ∷ [])));
        known = known_as old.nodes old.nodes (marked opened command answer) (batches_after before turn.steps) (batches_after (old.batches c) (steps_of (b.turns ++ turn ∷ []))) refl
            (ap (batches_after (old.batches c)) (steps_of-push b.turns turn) ∙ batches_after-append (old.batches c) (steps_of b.turns) turn.steps)
            (known_more old.nodes opened before command answer turn.steps b.known (omega (arith, lt, b.grows.same.nodes)) on
            (opens_by old.shape new.front c command.node command.op answer before turn.steps on (all_back (IsMade old.shape new.front c) (steps_of b.turns) turn.steps whole.each) (carries_after (old.batches c) (steps_of b.turns) turn.steps whole.carries) out));
      }

  -- the command that comes next is postponed
  pub begins_stop : (more : CommandProgress) → Proceeds c command begun mid new (On more) → Begins c old new commands answers opened more
  begins_stop more p =
      let st : Steps c old new ((steps_of b.turns ++ b.made) ++ p.made) = steps_then c old mid new (steps_of b.turns ++ b.made) p.made b.grows (goes_grows c mid new g) b.steps p.steps in
      let reported : step_results (b.made ++ p.made) ≡ step_results b.made ++ step_results p.made = map-append (λ (m : Made). m.reported) b.made p.made in
      let on : IsProgressOn (new.batches c) command (b.made ++ p.made) more = record {
        on_node = All-append (λ (m : Made). m.node ≡ command.node) b.made p.made next.on_node p.on_node;
        begun = subst (λ (l : List StepAnswer). IsProgressAfter command.op l more) (sym reported) (p.turned (step_results b.made) next.begun);
        ready = p.ready;
      } in
      record {
        turns = b.turns;
        made = b.made ++ p.made;
        grows = grows_trans old mid new b.grows (goes_grows c mid new g);
        steps = subst (Steps c old new) (append_assoc (steps_of b.turns) b.made p.made) st;
        each = b.each;
        done = b.done;
        answered = b.answered;
        next = subst (λ o. IsNext (new.batches c) o (b.made ++ p.made) more) (sym here) on;
        known = b.known;
      }

-- the command that comes next was done, with what its node was called with and its reply
pub begins_reported : (c number : ℕ) (old mid new : Fronts) (commands : List Command) (answers : List Answer) (opened : List Bool) (begun more : CommandProgress) (command : Command) (called : Result (Unit {0}) CellFault) (said : Result (Unit {0}) Refusal) (reply : Reply) → slice_get commands number ≡ Some command → length answers ≡ number → Begins c old mid commands answers opened begun → Goes c mid new
    → command.node < mid.nodes → called ≡ by_cell said → (called ≡ Err (Refused why.OutOfMemory) → ⊥) → Comes more (answer_of called reply) (Proceeds c command begun mid new) → Begins c old new commands (answers ++ record { command = number; node = command.node; reply = answer_of said reply } ∷ []) (marked opened command said) no_progress
begins_reported c number old mid new commands answers opened begun more command called said reply at count b g lt is room p =
    subst (λ (l : List Bool). Begins c old new commands (answers ++ record { command = number; node = command.node; reply = answer_of said reply } ∷ []) l no_progress) (sym (marked_alike opened command said reply))
    (subst (λ (k : ℕ). Begins c old new commands (answers ++ record { command = k; node = command.node; reply = answer_of said reply } ∷ []) (marked opened command (answer_of said reply)) no_progress) count
    (begins_more c old mid new commands answers opened begun command (rw count at) b g (answer_of said reply) lt (cell_comes more (Proceeds c command begun mid new) called said reply is room p)))

-- a command that was begun can go on
pub begun_on : (c : ℕ) (old mid : Fronts) (commands : List Command) (answers : List Answer) (opened : List Bool) (begun : CommandProgress) (command : Command) → slice_get commands (length answers) ≡ Some command → (b : Begins c old mid commands answers opened begun) → IsProgressOn (mid.batches c) command b.made begun
begun_on c old mid commands answers opened begun command at b = grind (arith, length-answers, slice_get, next)

-- all commands were done
pub ends_first : (c : ℕ) (old mid : Fronts) (commands : List Command) (answers : List Answer) (opened : List Bool) (begun : CommandProgress) → length commands ≤ length answers → Begins c old mid commands answers opened begun → Ends c old mid commands answers opened 0
ends_first c old mid commands answers opened begun le b =
    let count : length b.turns ≡ length answers = sym (ap length b.answered ∙ length-answers 0 b.turns) in
    let past : length commands ≤ length b.turns = omega (arith, le, count) in
    let none = subst (λ o. IsNext (mid.batches c) o b.made begun) (slice_get_past commands (length b.turns) past) b.next in
    let st : Steps c old mid (steps_of b.turns ++ []) = subst (λ ms. Steps c old mid (steps_of b.turns ++ ms)) none.0 b.steps in
    let plain : Steps c old mid (steps_of b.turns) = subst (Steps c old mid) (append-nil (steps_of b.turns)) st in
    let batches : batches_after (old.batches c) (steps_of b.turns) ≡ mid.batches c = λ i n. sym (plain.batches n) i in
    record {
      turns = b.turns;
      closed = [];
      grows = b.grows;
      steps = st;
      each = b.each;
      each_closed = All-nil IsTurn;
      done = b.done ∙ take_all (length b.turns) commands past;
      answered = b.answered;
      closes = ap (λ bs. closing old.nodes bs) batches;
      count = refl;
      known = known_as old.nodes old.nodes opened (batches_after (old.batches c) (steps_of b.turns)) (mid.batches c) refl (sym batches) b.known;
    }

-- a command behind others
pub get_after : (before commands : List Command) (k : ℕ) (command : Command) → slice_get commands k ≡ Some command → slice_get (before ++ commands) (length before + k) ≡ Some command
get_after [] commands k command at = let e : 0 + k ≡ k = omega arith in rw e at
get_after (first ∷ before) commands k command at =
    let e : length (first ∷ before) + k ≡ suc (length before + k) = omega arith in
    rw e (get_after before commands k command at)

-- Further commands come behind those that were done.
pub begins_longer : (c : ℕ) (old mid : Fronts) (commands more : List Command) (answers : List Answer) (opened : List Bool) → length answers ≡ length commands → Begins c old mid commands answers opened no_progress → Begins c old mid (commands ++ more) answers opened no_progress
begins_longer c old mid commands more answers opened each b = grind (arith, length-answers, slice_get_past, next, take-append-le, slice_get, is_next_first)

-- ---- put-backs

module _ (bs : ℕ → Option Open) where
  closing_open : (first n : ℕ) → is_open (bs first) ≡ true → closing_from bs first (suc n) ≡ put_back_on first ∷ closing_from bs (first + 1) n
  closing_open first n e = rw e refl

  closing_shut : (first n : ℕ) → is_open (bs first) ≡ false → closing_from bs first (suc n) ≡ closing_from bs (first + 1) n
  closing_shut first n e = rw e refl

  -- nodes without an open batch are passed over
  closing_none : (first k m : ℕ) → ((i : ℕ) → first ≤ i → i < first + k → bs i ≡ None) → closing_from bs first (k + m) ≡ closing_from bs (first + k) m
  closing_none first zero m none =
      let e : first + 0 ≡ first = omega arith in
      let z : 0 + m ≡ m = omega arith in
      rw (e, z) refl
  closing_none first (suc k) m none =
      let n : suc k + m ≡ suc (k + m) = omega arith in
      let e : first + suc k ≡ first + 1 + k = omega arith in
      rw (n, e) (closing_shut first (k + m) (ap is_open (none first (omega arith) (omega arith))) ∙ closing_none (first + 1) k m (λ i lo hi. none i (omega (arith, lo)) (omega (arith, hi))))

  length-closing : (first n : ℕ) → length (closing_from bs first n) ≤ n
  length-closing first zero = omega arith
  length-closing first (suc n) = by_test (length-closing (first + 1) n) (is_open (bs first)) refl
    where
      by_test : length (closing_from bs (first + 1) n) ≤ n → (b : Bool) → is_open (bs first) ≡ b → length (closing_from bs first (suc n)) ≤ suc n
      by_test le true e = let s = ap length (closing_open first n e) in omega (arith, le, s)
      by_test le false e = let s = ap length (closing_shut first n e) in omega (arith, le, s)

closing_same : (bs cs : ℕ → Option Open) (first n : ℕ) → ((k : ℕ) → first ≤ k → cs k ≡ bs k) → closing_from cs first n ≡ closing_from bs first n
closing_same bs cs first zero same = refl
closing_same bs cs first (suc n) same = by_test (closing_same bs cs (first + 1) n (λ k le. same k (omega (arith, le)))) (is_open (bs first)) refl
  where
    here : is_open (cs first) ≡ is_open (bs first)
    here = ap is_open (same first (omega arith))

    by_test : closing_from cs (first + 1) n ≡ closing_from bs (first + 1) n → (b : Bool) → is_open (bs first) ≡ b → closing_from cs first (suc n) ≡ closing_from bs first (suc n)
    by_test rest true e = closing_open cs first n (here ∙ e) ∙ ap (λ l. put_back_on first ∷ l) rest ∙ sym (closing_open bs first n e)
    by_test rest false e = closing_shut cs first n (here ∙ e) ∙ rest ∙ sym (closing_shut bs first n e)

-- the first open batch is on this node
first_open : (bs : ℕ → Option Open) (node nodes : ℕ) → node < nodes → ((k : ℕ) → k < node → bs k ≡ None) → is_open (bs node) ≡ true → closing nodes bs ≡ put_back_on node ∷ closing_from bs (node + 1) (nodes - suc node)
first_open bs node nodes lt below open-here =
    let all : node + suc (nodes - suc node) ≡ nodes = omega (arith, lt) in
    let z : 0 + node ≡ node = omega arith in
    let skipped : closing_from bs 0 (node + suc (nodes - suc node)) ≡ closing_from bs (0 + node) (suc (nodes - suc node)) = closing_none bs 0 node (suc (nodes - suc node)) (λ i lo hi. below i (omega (arith, hi))) in
    ap (closing_from bs 0) (sym all) ∙ skipped ∙ ap (λ k. closing_from bs k (suc (nodes - suc node))) z ∙ closing_open bs node (nodes - suc node) open-here

-- and the others come behind it
after_open : (bs : ℕ → Option Open) (node nodes : ℕ) → node < nodes → ((k : ℕ) → k < suc node → bs k ≡ None) → closing nodes bs ≡ closing_from bs (node + 1) (nodes - suc node)
after_open bs node nodes lt below =
    let all : suc node + (nodes - suc node) ≡ nodes = omega (arith, lt) in
    let z : 0 + suc node ≡ node + 1 = omega arith in
    let skipped : closing_from bs 0 (suc node + (nodes - suc node)) ≡ closing_from bs (0 + suc node) (nodes - suc node) = closing_none bs 0 (suc node) (nodes - suc node) (λ i lo hi. below i (omega (arith, hi))) in
    ap (closing_from bs 0) (sym all) ∙ skipped ∙ ap (λ k. closing_from bs k (nodes - suc node)) z

-- no batch is open
pub closing_all : (bs : ℕ → Option Open) (nodes : ℕ) → ((k : ℕ) → k < nodes → bs k ≡ None) → closing nodes bs ≡ []
closing_all bs nodes none = grind (arith, closing_none)

no_steps : (ms : List Made) → step_results ms ≡ [] → ms ≡ []
no_steps [] e = refl
no_steps (m ∷ ms) e = absurd (cc)

-- the put-back of the open batch on a node, or none where the node stayed busy
pub puts_back : (c n : ℕ) (old new : Fronts) (p : CommandState) → Proceeds c (put_back_on n) no_progress old new p → PutsBack c n old new p
puts_back c n old new (Ended answer) p = record {
  turn = record { command = put_back_on n; steps = p.made; answer = answer };
  is = refl;
  turns = record { on_node = p.on_node; turns_out = p.turned [] (not_begun op.PutBack) };
  steps = p.steps;
  shut = closed_by c n old new answer p.made p.steps p.on_node (p.turned [] (not_begun op.PutBack));
  elsewhere = λ k other. p.steps.batches k ∙ batches_elsewhere (old.batches c) n k p.made p.on_node other;
}
puts_back c n old new (On more) p =
    let begun = p.turned [] (not_begun op.PutBack) in
    elim begun.so_far [ inl none ↦ subst (Steps c old new) (no_steps p.made none.0) p.steps | inr s ↦ absurd (not_scan s.count s.is_scan) ]
  where
    not_scan : (k : ℕ) → op.PutBack ≡ op.Scan k → ⊥
    not_scan k e = cc

pub puts_back_comes : (c n : ℕ) (old new : Fronts) (begun : CommandProgress) (r : Result Reply CellFault) → Comes begun r (Proceeds c (put_back_on n) no_progress old new) → Comes no_progress r (PutsBack c n old new)
puts_back_comes c n old new begun (Ok reply) p = puts_back c n old new (Ended (Ok reply)) p
puts_back_comes c n old new begun (Err Busy) p = puts_back c n old new (On begun) p
puts_back_comes c n old new begun (Err (Refused r)) p = by_reason r p where
  by_reason : (r : Refusal) → Comes begun (Err (Refused r)) (Proceeds c (put_back_on n) no_progress old new) → Comes no_progress (Err (Refused r)) (PutsBack c n old new)
  by_reason why.OutOfMemory p = tt
  by_reason why.NoPage p = puts_back c n old new (Ended (Err why.NoPage)) p
  by_reason why.BadRange p = puts_back c n old new (Ended (Err why.BadRange)) p
  by_reason why.IsSplit p = puts_back c n old new (Ended (Err why.IsSplit)) p
  by_reason why.NotMapped p = puts_back c n old new (Ended (Err why.NotMapped)) p
  by_reason why.Gone p = puts_back c n old new (Ended (Err why.Gone)) p
  by_reason why.NotPinned p = puts_back c n old new (Ended (Err why.NotPinned)) p
  by_reason why.TooMany p = puts_back c n old new (Ended (Err why.TooMany)) p
  by_reason why.Closed p = puts_back c n old new (Ended (Err why.Closed)) p
  by_reason why.NoBlock p = puts_back c n old new (Ended (Err why.NoBlock)) p
  by_reason why.HasBatch p = puts_back c n old new (Ended (Err why.HasBatch)) p

module _ (c n : ℕ) (old mid : Fronts) (commands : List Command) (answers : List Answer) (opened : List Bool) (back : ℕ) (e : Ends c old mid commands answers opened back) (lt : n < old.nodes) (below : (k : ℕ) → k < n → mid.batches c k ≡ None) (is-open : is_open (mid.batches c n) ≡ true) where
  -- there are no more put-backs than nodes
  pub room_for_one : back + 1 ≤ old.nodes
  room_for_one =
      let all = ap length e.closes in
      let one = ap length (first_open (mid.batches c) n old.nodes lt below is-open) in
      omega (arith, all, one, e.count, length-map e.closed turn_command, length-append (map turn_command e.closed) (closing old.nodes (mid.batches c)), length-closing (batches_after (old.batches c) (steps_of e.turns)) 0 old.nodes)

  -- one batch more went back
  pub ends_more : (new : Fronts) (answer : Reaction) → Goes c mid new → PutsBack c n mid new (Ended answer) → Ends c old new commands answers (set opened n false) (back + 1)
  ends_more new answer g p =
      let shut : (k : ℕ) → k < suc n → new.batches c k ≡ None = λ k le. shut_below k le in
      let closed-is : map turn_command (e.closed ++ p.turn ∷ []) ≡ map turn_command e.closed ++ put_back_on n ∷ [] = map-append turn_command e.closed (p.turn ∷ []) ∙ ap (λ t. map turn_command e.closed ++ t ∷ []) p.is in
      let left : closing old.nodes (mid.batches c) ≡ put_back_on n ∷ closing old.nodes (new.batches c) =
      first_open (mid.batches c) n old.nodes lt below is-open ∙ ap (λ l. put_back_on n ∷ l) (sym (closing_same (mid.batches c) (new.batches c) (n + 1) (old.nodes - suc n) (λ k le. p.elsewhere k (λ same. absurd (omega (arith, le, same))))) ∙ sym (after_open (new.batches c) n old.nodes lt shut)) in
      let st = steps_then c old mid new (steps_of e.turns ++ steps_of e.closed) p.turn.steps e.grows (goes_grows c mid new g) e.steps p.steps in
      let all : (steps_of e.turns ++ steps_of e.closed) ++ p.turn.steps ≡ steps_of e.turns ++ steps_of (e.closed ++ p.turn ∷ []) = append_assoc (steps_of e.turns) (steps_of e.closed) p.turn.steps ∙ ap (λ l. steps_of e.turns ++ l) (sym (steps_of-push e.closed p.turn)) in
      record {
        turns = e.turns;
        closed = e.closed ++ p.turn ∷ [];
        grows = grows_trans old mid new e.grows (goes_grows c mid new g);
        steps = subst (Steps c old new) all st;
        each = e.each;
        each_closed = All-push IsTurn e.closed p.turn e.each_closed p.turns;
        done = e.done;
        answered = e.answered;
        closes = e.closes ∙ ap (λ l. map turn_command e.closed ++ l) left ∙ sym (append_assoc (map turn_command e.closed) (put_back_on n ∷ []) (closing old.nodes (new.batches c))) ∙ ap (λ l. l ++ closing old.nodes (new.batches c)) (sym closed-is);
        count = omega (arith, length-append e.closed (p.turn ∷ []), e.count);
        known = known_shut old.nodes opened (mid.batches c) (new.batches c) n e.known lt p.shut p.elsewhere;
      }
    where
      by_place : (k : ℕ) → (k < n) ⊎ (k ≡ n) → new.batches c k ≡ None
      by_place k (inl lo) = p.elsewhere k (λ same. absurd (omega (arith, lo, same))) ∙ below k lo
      by_place k (inr same) = rw same p.shut

      shut_below : (k : ℕ) → k < suc n → new.batches c k ≡ None
      shut_below k le = by_place k (split_lt k n le)

-- a put-back that is postponed leaves what was done
pub ends_stop : (c n : ℕ) (old mid new : Fronts) (commands : List Command) (answers : List Answer) (opened : List Bool) (back : ℕ) (more : CommandProgress) → Ends c old mid commands answers opened back → Goes c mid new → PutsBack c n mid new (On more) → Ends c old new commands answers opened back
unfolding batches_after
ends_stop c n old mid new commands answers opened back more e g p =
    let st = steps_then c old mid new (steps_of e.turns ++ steps_of e.closed) [] e.grows (goes_grows c mid new g) e.steps p in
    let batches : mid.batches c ≡ new.batches c = λ i k. sym (p.batches k) i in
    record {
      turns = e.turns;
      closed = e.closed;
      grows = grows_trans old mid new e.grows (goes_grows c mid new g);
      steps = subst (Steps c old new) (append-nil (steps_of e.turns ++ steps_of e.closed)) st;
      each = e.each;
      each_closed = e.each_closed;
      done = e.done;
      answered = e.answered;
      closes = e.closes ∙ ap (λ bs. map turn_command e.closed ++ closing old.nodes bs) batches;
      count = e.count;
      known = known_as old.nodes old.nodes opened (mid.batches c) (new.batches c) refl (sym batches) e.known;
    }

-- the batches below a node are shut, where those below the one before were and that one is
pub shut_more : (c n : ℕ) (f : Fronts) → ((k : ℕ) → k < n → f.batches c k ≡ None) → f.batches c n ≡ None → (k : ℕ) → k < n + 1 → f.batches c k ≡ None
shut_more c n f below here k lt = grind (arith, split_lt)

pub shut_put : (c n : ℕ) (mid new : Fronts) (answer : Reaction) → ((k : ℕ) → k < n → mid.batches c k ≡ None) → PutsBack c n mid new (Ended answer) → (k : ℕ) → k < n + 1 → new.batches c k ≡ None
shut_put c n mid new answer below p = shut_more c n new (λ k lt. p.elsewhere k (λ same. absurd (omega (arith, lt, same))) ∙ below k lt) p.shut

pub not_open : (o : Option Open) → is_open o ≡ false → o ≡ None
not_open x e = grind arith

-- as many answers as commands
pub ends_answers : (c : ℕ) (old mid : Fronts) (commands : List Command) (answers : List Answer) (opened : List Bool) (back : ℕ) → Ends c old mid commands answers opened back → length commands ≡ length answers
ends_answers c old mid commands answers opened back e = grind (arith, length-map, length-answers)

-- the section came to its end
pub works_end : (c : ℕ) (old mid : Fronts) (commands : List Command) (answers : LogState) (opened : Vec Bool Global) (back node : ℕ) → length commands ≤ answers.room → Ends c old mid commands answers.items opened.items back → old.nodes ≤ node → ((k : ℕ) → k < node → mid.batches c k ≡ None) → Works c old mid commands (record { answers = answers; rest = None; opened = opened })
works_end c old mid commands answers opened back node room e all shut = grind (arith, closing_all)

-- or stops within its put-backs
pub works_closing : (c : ℕ) (old mid : Fronts) (commands : List Command) (answers : LogState) (opened : Vec Bool Global) (back : ℕ) (r : Rest) → length commands ≤ answers.room → Ends c old mid commands answers.items opened.items back → r.command ≡ length commands → r.steps ≡ back → Works c old mid commands (record { answers = answers; rest = Some r; opened = opened })
works_closing c old mid commands answers opened back r room e at is = record {
  to = (at ∙ ends_answers c old mid commands answers.items opened.items back e, inr (at, rw is e));
  room = room;
}

-- or at a command
pub works_stop : (c : ℕ) (old mid : Fronts) (commands : List Command) (answers : LogState) (opened : Vec Bool Global) (r : Rest) → length commands ≤ answers.room → Begins c old mid commands answers.items opened.items (progress_of r) → r.command ≡ length answers.items → r.command < length commands → Works c old mid commands (record { answers = answers; rest = Some r; opened = opened })
works_stop c old mid commands answers opened r room b at lt = record { to = (at, inl (lt, b)); room = room }
