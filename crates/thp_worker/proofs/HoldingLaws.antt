-- Calls of a cell, as steps of the holder of a pass and its open batches.
use Rattle.std.proofs.Common.{◌≡◌, ◌∙◌, ◌⊎◌, inl, inr, ◌≢◌, ◌++◌, ◌+◌, ◌-◌, ◌<◌, ◌==◌, ap, ℕ, Bool, true, false, cond, List, [], ◌∷◌, length, refl, sym, subst, arith, zero, suc, Option, Some, None, Ok, Err, set, unwrap_or, slice_get, Result, IfOk, IfErr, OnOk, nat_le, append-nil, All, if◌then◌else◌}
use Rattle.std.proofs.lemmas.Option.{get_or_from_slice_get, slice_get_within}
use Rattle.std.proofs.lemmas.Bool.{eqb-true, eqb-false}
use Rattle.std.proofs.lemmas.Bool.Decides.{nat_tests}
use Rattle.std.proofs.lemmas.List.Elements.{All-nil}
use Rattle.atomic_table.specs.Seated.{TableId}
use Rattle.thp_history.specs.declared.events.Event.{Event}
use Rattle.thp_history.specs.declared.events.Outcome.{Outcome}
use Rattle.thp_history.specs.declared.events.What.{What}
use Rattle.thp_history.specs.declared.refusal.Refusal.{Refusal}
use Rattle.thp_history.specs.declared.refusal.Refusal.TheVariants.{HasBatch, OutOfMemory}
use Rattle.thp_history.specs.declared.shape.Shape.{Shape}
use Rattle.thp_history.specs.Prelude.{History, IsLegal, by, queue, take_events, split_next_events, put_back_events, Call, refusal}
use Rattle.thp_history.specs.Refusals as call
use Rattle.thp_history.specs.declared.page_call.Done.{Done}
use Rattle.thp_node.specs.declared.answers.Tried.{Tried}
use Rattle.thp_node.specs.declared.answers.BackReply.{BackReply}
use Rattle.thp_node.specs.Prelude.{BatchState, IsInFront, rest}
use Rattle.thp_cell.specs.Prelude.{IsOther, Since, at_front, continuing, locking, BatchesStay, OtherBatchesStay, Called, Failed, Follows, DidOne, SaysAlloc, DidLose, DidTake, DidTry, DidPutBack, PassState, HasCaller}
use Rattle.thp_cell.specs.declared.fault.CellFault.{CellFault}
use Rattle.thp_cell.specs.declared.fault.CellFault.TheVariants.{Refused}
use Rattle.thp_script.specs.declared.script.Op.{Op}
use Rattle.thp_worker.specs.Prelude.{NodeCall, Step, Take, SplitNext, PutBack, Reply, call_events, node_call_of, Open, Reaction, Does, DoesCall, step_events, open_of, step_refusal, refusal_of_call, Held, IsHolding, IsShut, Acts, HeldAnswered, HeldDone, LocksOnce, batch_of, open_in, unit_reply, loss_reply, page_reply}
use Rattle.thp_worker.specs.declared.steps.NodeCall.TheVariants as node
use Rattle.thp_worker.specs.declared.steps.Step.TheVariants as steps
use Rattle.thp_worker.specs.declared.reply.Reply.TheVariants as reply

-- a call is never refused at a history for want of memory
memory_last : (b : Bool) (why : Refusal) (rest : Option Refusal) → (why ≡ OutOfMemory → ⊥) → (rest ≡ Some OutOfMemory → ⊥) → cond b (Some why) rest ≡ Some OutOfMemory → ⊥
memory_last x why rest here later is = grind (arith, unwrap_or)

abbrev pub NotMemory : Option Refusal → Type 0
NotMemory why = why ≡ Some OutOfMemory → ⊥

never : (s : Shape) (h : History) (call : Call) → NotMemory (refusal s h call)
unfolding refusal
never s h x = grind (arith, memory_last)

-- no step is refused at a history for want of memory
never_call : (s : Shape) (h : History) (k : NodeCall) → NotMemory (refusal_of_call s h k)
never_call s h x = grind (arith, never)

never_memory : (s : Shape) (h : History) (c : ℕ) (step : Step) → NotMemory (step_refusal s h c step)
never_memory s h c x = grind (arith, never_call, never)

-- ---- lock steps

-- where only the front changed, the lock steps are the same
pub continues : (p q : PassState) → q ≡ at_front p q.front → q ≡ continuing p q
continues p q same = same ∙ (λ i. record p { front = q.front; locks = (sym same i).locks; misses = (sym same i).misses })

once_locked : (p q : PassState) → q ≡ at_front (locking p) q.front → LocksOnce p q
once_locked p q same = record { locks = inr (ap (λ (x : PassState). x.locks) same); misses = ap (λ (x : PassState). x.misses) same }

never_locked : (p q : PassState) → q ≡ at_front p q.front → LocksOnce p q
never_locked p q same = record { locks = inl (ap (λ (x : PassState). x.locks) same); misses = ap (λ (x : PassState). x.misses) same }

-- ---- the invariant

pub held_stays : (cell : TableId) (p q : PassState) (bs : List (Option BatchState)) → IsHolding cell p bs → q ≡ continuing p q → BatchesStay p q → IsHolding cell q bs
held_stays cell p q bs held same stay = grind (arith, slice_get_within)

-- ---- callers without an open batch

none_there : (bs : List (Option BatchState)) → All (λ (b : Option BatchState). b ≡ None) bs → (k : ℕ) (b : BatchState) → slice_get bs k ≡ Some (Some b) → ⊥
none_there bs none k b is =
    let here : Some b ≡ None = sym (get_or_from_slice_get bs k (Some b) None is) ∙ none k None (slice_get_within bs k (Some b) is) in
    absurd (cc)

-- the invariant of a holder whose callers have no open batch
pub held_shut : (cell : TableId) (p : PassState) (bs : List (Option BatchState)) → p.cell ≡ cell → p.first + length bs ≡ p.end → All (λ (b : Option BatchState). b ≡ None) bs → IsHolding cell p bs
held_shut cell p bs same places none = record { cell_is = same; callers = places; each = λ k b is. absurd (none_there bs none k b is) }

none_in : (x : Option (Option BatchState)) → ((b : BatchState) → x ≡ Some (Some b) → ⊥) → open_in x ≡ None
none_in None none = refl
none_in (Some None) none = refl
none_in (Some (Some b)) none = absurd (none b refl)

pub is_shut : (p : PassState) (bs : List (Option BatchState)) → All (λ (b : Option BatchState). b ≡ None) bs → IsShut (record { pass = p; batches = bs })
is_shut p bs none c = from (nat_le p.first c)
  where
    from : (t : Bool) → (if t then open_in (slice_get bs (c - p.first)) else None) ≡ None
    from true = none_in (slice_get bs (c - p.first)) (none_there bs none (c - p.first))
    from false = refl

-- ---- calls that leave the open batches alone

module _ (p q : PassState) (bs : List (Option BatchState)) (c : ℕ) (same : q ≡ continuing p q) where
  batch_same : (d : ℕ) → batch_of (record { pass = q; batches = bs }) d ≡ batch_of (record { pass = p; batches = bs }) d
  batch_same d = ap (λ (x : PassState). batch_of (record { pass = x; batches = bs }) d) same

  acts_called : (Says : History → List Event → Type 0) (r : Called p q c Says) → Acts c (record { pass = p; batches = bs }) (record { pass = q; batches = bs }) r.others.others r.own (batch_of (record { pass = p; batches = bs }) c)
  acts_called x r = let once = once_locked p q r.locked in grind (arith, batch_same)

  acts_followed : (since : Since p.first p.end p.front q.front) → IsLegal p.shape q.front → LocksOnce p q → Acts c (record { pass = p; batches = bs }) (record { pass = q; batches = bs }) since.others [] (batch_of (record { pass = p; batches = bs }) c)
  acts_followed since legal once = grind (arith, All-nil, append-nil, batch_same)

  acts_refused : (f : Follows (locking p) q) → Acts c (record { pass = p; batches = bs }) (record { pass = q; batches = bs }) f.others.others [] (batch_of (record { pass = p; batches = bs }) c)
  acts_refused f = acts_followed f.others f.legal (once_locked p q f.same)

  -- a step that was answered
  pub held_called : (step : Step) (answer : Reply) (Says : History → List Event → Type 0) → Called p q c Says
      → ((h : History) (own : List Event) → Says h own → Does p.shape h c (batch_of (record { pass = p; batches = bs }) c) step own (Ok answer) (batch_of (record { pass = p; batches = bs }) c))
      → HeldAnswered c step (record { pass = p; batches = bs }) (record { pass = q; batches = bs }) (Ok answer)
  held_called step answer x r does = grind (arith, acts_called)

  refused_done : (step : Step) (why : Refusal) (f : Follows (locking p) q) → ((h : History) → step_refusal p.shape h c step ≡ Some why → Does p.shape h c (batch_of (record { pass = p; batches = bs }) c) step [] (Err why) (batch_of (record { pass = p; batches = bs }) c))
      → (step_refusal p.shape (p.front ++ f.others.others) c step ≡ Some why) ⊎ ((step_refusal p.shape (p.front ++ f.others.others) c step ≡ None) × (why ≡ OutOfMemory) × (0 < step_events p.shape (p.front ++ f.others.others) c (batch_of (record { pass = p; batches = bs }) c) step))
      → HeldDone c step (record { pass = p; batches = bs }) (record { pass = q; batches = bs }) (Err (Refused why))
  refused_done step x f does cause = grind (arith, never_memory, acts_refused)

  -- a step that failed
  pub held_failed : (step : Step) (fault : CellFault) → Failed p q (step_refusal q.shape q.front c step) (step_events q.shape q.front c (batch_of (record { pass = p; batches = bs }) c) step) fault
      → ((h : History) (why : Refusal) → step_refusal p.shape h c step ≡ Some why → Does p.shape h c (batch_of (record { pass = p; batches = bs }) c) step [] (Err why) (batch_of (record { pass = p; batches = bs }) c))
      → HeldDone c step (record { pass = p; batches = bs }) (record { pass = q; batches = bs }) (Err fault)
  held_failed step x failed does = grind (arith, refused_done)

does_refused : (s : Shape) (h : History) (c : ℕ) (o : Op) (k : NodeCall) → node_call_of o ≡ k → (batch : Option Open) (why : Refusal) → refusal_of_call s h k ≡ Some why → Does s h c batch (steps.One o) [] (Err why) batch
unfolding Does
does_refused s h c o k call batch why e = rw (call, e) (refl, refl, refl)

does_call : (s : Shape) (h : History) (c : ℕ) (o : Op) (k : NodeCall) → node_call_of o ≡ k → (batch : Option Open) (own : List Event) (answer : Reply) → refusal_of_call s h k ≡ None → DoesCall s h c k own (Ok answer) → Does s h c batch (steps.One o) own (Ok answer) batch
unfolding Does
does_call s h c o k call batch own answer e does = rw (call, e) (does, refl)

-- a page was allocated
pub alloc_done : (o : Op) → node_call_of o ≡ node.Alloc → (p q : PassState) (bs : List (Option BatchState)) (c : ℕ) (page : ℕ) → q ≡ continuing p q → Called p q c (SaysAlloc p.shape c page) → HeldAnswered c (steps.One o) (record { pass = p; batches = bs }) (record { pass = q; batches = bs }) (Ok (reply.Page page))
alloc_done o is p q bs c page same r = grind (arith, held_called, does_call)

pub count_done : (o : Op) → node_call_of o ≡ node.Count → (p q : PassState) (bs : List (Option BatchState)) (c n : ℕ) → Follows p q → n ≡ length (queue q.shape q.front) → HeldAnswered c (steps.One o) (record { pass = p; batches = bs }) (record { pass = q; batches = bs }) (Ok (reply.Count n))
count_done o call p q bs c n f is = record {
  others = f.others.others;
  own = [];
  after = batch_of (record { pass = p; batches = bs }) c;
  acts = acts_followed p q bs c (continues p q f.same) f.others f.legal (never_locked p q f.same);
  does = does_call p.shape (p.front ++ f.others.others) c o node.Count call _ [] (reply.Count n) refl (refl, rw (is, ap (λ (x : PassState). x.shape) f.same, f.others.goes_on) refl);
}

pub call_failed : (o : Op) (k : NodeCall) → node_call_of o ≡ k → (p q : PassState) (bs : List (Option BatchState)) (c : ℕ) (fault : CellFault) → q ≡ continuing p q → Failed p q (refusal_of_call q.shape q.front k) (call_events k) fault
    → HeldDone c (steps.One o) (record { pass = p; batches = bs }) (record { pass = q; batches = bs }) (Err fault)
call_failed o k is p q bs c fault same failed = grind (arith, held_failed, does_refused)

-- an allocation, done or not
pub alloc_reported : (o : Op) → node_call_of o ≡ node.Alloc → (p q : PassState) (bs : List (Option BatchState)) (c : ℕ) (r : Result ℕ CellFault) → q ≡ continuing p q → IfOk r (λ page. Called p q c (SaysAlloc p.shape c page)) → IfErr r (Failed p q (refusal_of_call q.shape q.front node.Alloc) 1)
    → HeldDone c (steps.One o) (record { pass = p; batches = bs }) (record { pass = q; batches = bs }) (page_reply r)
alloc_reported o is p q bs c x same called failed = grind (arith, alloc_done, call_failed)

-- a call that reports nothing
pub unit_done : (o : Op) (k : NodeCall) → node_call_of o ≡ k → (p q : PassState) (bs : List (Option BatchState)) (c : ℕ) (w : What) (r : Result (Unit {0}) CellFault) (call : Call) → q ≡ continuing p q → OnOk r (Called p q c (DidOne p.shape call c w)) → IfErr r (Failed p q (refusal_of_call q.shape q.front k) (call_events k))
    → ((s : Shape) (h : History) → refusal_of_call s h k ≡ refusal s h call) → ((s : Shape) (h : History) (own : List Event) → own ≡ by c w ∷ [] → DoesCall s h c k own (Ok reply.Unit))
    → HeldDone c (steps.One o) (record { pass = p; batches = bs }) (record { pass = q; batches = bs }) (unit_reply r)
unit_done o k at p q bs c w x call same called failed is does = grind (arith, held_called, does_call, call_failed)

-- a call that may give frames back
pub loss_done : (o : Op) (k : NodeCall) → node_call_of o ≡ k → (p q : PassState) (bs : List (Option BatchState)) (c page : ℕ) (w : Outcome → List Bool → What) (r : Result Done CellFault) (call : Call) → q ≡ continuing p q → IfOk r (λ d. Called p q c (DidLose p.shape call c page w d)) → IfErr r (Failed p q (refusal_of_call q.shape q.front k) (call_events k))
    → ((s : Shape) (h : History) → refusal_of_call s h k ≡ refusal s h call) → ((s : Shape) (h : History) (own : List Event) (d : Done) → own ≡ by c (w d.outcome d.released) ∷ [] → DoesCall s h c k own (Ok (reply.Done d)))
    → HeldDone c (steps.One o) (record { pass = p; batches = bs }) (record { pass = q; batches = bs }) (loss_reply r)
loss_done o k at p q bs c page w x call same called failed is does = grind (arith, held_called, does_call, call_failed)

-- ---- calls that change an open batch

module _ {A : Type 0} where
  pub slice_get-set_same : (xs : List A) (k : ℕ) (x : A) → k < length xs → slice_get (set xs k x) k ≡ Some x
  slice_get-set_same [] k x lt = absurd (omega arith)
  slice_get-set_same (y ∷ xs) zero x lt = refl
  slice_get-set_same (y ∷ xs) (suc k) x lt = slice_get-set_same xs k x (omega (arith, lt))

  pub slice_get-set_other : (xs : List A) (k j : ℕ) (x : A) → (j ≡ k → ⊥) → slice_get (set xs k x) j ≡ slice_get xs j
  slice_get-set_other [] k j x other = refl
  slice_get-set_other (y ∷ xs) zero zero x other = absurd (other refl)
  slice_get-set_other (y ∷ xs) zero (suc j) x other = refl
  slice_get-set_other (y ∷ xs) (suc k) zero x other = refl
  slice_get-set_other (y ∷ xs) (suc k) (suc j) x other = slice_get-set_other xs k j x (λ e. other (ap suc e))

  set_twice : (xs : List A) (k : ℕ) (x y : A) → set (set xs k x) k y ≡ set xs k y
  set_twice [] k x y = refl
  set_twice (z ∷ xs) zero x y = refl
  set_twice (z ∷ xs) (suc k) x y = ap (λ l. z ∷ l) (set_twice xs k x y)

  pub set_same : (xs : List A) (k : ℕ) (x : A) → slice_get xs k ≡ Some x → set xs k x ≡ xs
  set_same [] k x e = refl
  set_same (y ∷ xs) zero x e = let heads : y ≡ x = cc in ap (λ z. z ∷ xs) (sym heads)
  set_same (y ∷ xs) (suc k) x e = ap (λ l. y ∷ l) (set_same xs k x e)

  pub length-set_same : (xs : List A) (k : ℕ) (x : A) → length (set xs k x) ≡ length xs
  length-set_same [] k x = refl
  length-set_same (y ∷ xs) zero x = refl
  length-set_same (y ∷ xs) (suc k) x = rw (length-set_same xs k x) refl

-- no batch, or one of caller c in front of its flight
abbrev pub IsFor : History → ℕ → Option BatchState → Type 0
IsFor h c None = Unit {0}
IsFor h c (Some b) = (b.caller ≡ c) × IsInFront h b

pub held_set : (cell : TableId) (p q : PassState) (bs : List (Option BatchState)) (c place : ℕ) (x : Option BatchState) → IsHolding cell p bs → q ≡ continuing p q → OtherBatchesStay c p q → place + p.first ≡ c → place < length bs → IsFor q.front c x → IsHolding cell q (set bs place x)
held_set cell p q bs c place x held same stay at lt for =
    let first : q.first ≡ p.first = ap (λ (x : PassState). x.first) same in
    let end : q.end ≡ p.end = ap (λ (x : PassState). x.end) same in
    record {
      cell_is = ap (λ (x : PassState). x.cell) same ∙ held.cell_is;
      callers = rw (first, end, length-set_same bs place x) held.callers;
      each = λ k b is. by_place k b is (k == place) refl;
    }
  where
    of_mine : (x : Option BatchState) (b : BatchState) → IsFor q.front c x → x ≡ Some b → (b.caller ≡ c) × IsInFront q.front b
    of_mine None b for e = absurd (cc)
    of_mine (Some d) b for e = let same : d ≡ b = ap (λ o. unwrap_or o d) e in subst (λ z. (z.caller ≡ c) × IsInFront q.front z) same for

    inner : (a b : Option BatchState) → Some a ≡ Some b → a ≡ b
    inner a b e = ap (λ o. unwrap_or o a) e

    by_place : (k : ℕ) (b : BatchState) → slice_get (set bs place x) k ≡ Some (Some b) → (t : Bool) → (k == place) ≡ t → (b.caller ≡ q.first + k) × IsInFront q.front b
    by_place k b is true e =
        let here : k ≡ place = eqb-true k place e in
        let first : q.first ≡ p.first = ap (λ (x : PassState). x.first) same in
        let got : Some x ≡ Some (Some b) = sym (slice_get-set_same bs place x lt) ∙ (rw here at is) in
        let mine = of_mine x b for (inner x (Some b) got) in
        (omega (arith, mine.0, at, first, here), mine.1)
    by_place k b is false e =
        let other : (k ≡ place → ⊥) = eqb-false k place e in
        let first : q.first ≡ p.first = ap (λ (x : PassState). x.first) same in
        let was = held.each k b (sym (slice_get-set_other bs place k x other) ∙ is) in
        let has : HasCaller p b.caller = record { from = omega (arith, was.0); below = omega (arith, was.0, held.callers, slice_get_within bs k (Some b) (sym (slice_get-set_other bs place k x other) ∙ is)) } in
        (rw first was.0, stay b has (λ e. other (omega (arith, was.0, at, e))) was.1)

module _ (p q : PassState) (bs : List (Option BatchState)) (c place : ℕ) (same : q ≡ continuing p q) (at : place + p.first ≡ c) (lt : place < length bs) where
  batch_new : (x : Option BatchState) → batch_of (record { pass = q; batches = set bs place x }) c ≡ open_in (Some x)
  batch_new x = grind (arith, nat_le, nat_tests, slice_get-set_same)

  pub batch_old : batch_of (record { pass = p; batches = bs }) c ≡ open_in (slice_get bs place)
  batch_old = grind (arith, nat_le, nat_tests)

  batch_other : (x : Option BatchState) (d : ℕ) → d ≢ c → batch_of (record { pass = q; batches = set bs place x }) d ≡ batch_of (record { pass = p; batches = bs }) d
  batch_other x d other = grind (arith, nat_le, nat_tests, slice_get-set_other)

  -- a step that was answered, and left this batch
  pub held_changed : (x : Option BatchState) (step : Step) (answer : Reply) (Says : History → List Event → Type 0) → Called p q c Says
      → ((h : History) (own : List Event) → Says h own → Does p.shape h c (open_in (slice_get bs place)) step own (Ok answer) (open_in (Some x)))
      → HeldAnswered c step (record { pass = p; batches = bs }) (record { pass = q; batches = set bs place x }) (Ok answer)
  held_changed x step answer y r does = let once = once_locked p q r.locked in grind (arith, batch_new, batch_other, batch_old)

-- nothing happened
pub held_nothing : (p : PassState) (bs : List (Option BatchState)) (c : ℕ) (step : Step) (answer : Reaction) → Does p.shape p.front c (batch_of (record { pass = p; batches = bs }) c) step [] answer (batch_of (record { pass = p; batches = bs }) c)
    → HeldAnswered c step (record { pass = p; batches = bs }) (record { pass = p; batches = bs }) answer
held_nothing p bs c step answer does = record {
  others = [];
  own = [];
  after = batch_of (record { pass = p; batches = bs }) c;
  acts = record {
    pass = refl;
    once = record { locks = inl refl; misses = refl };
    by_others = All-nil (IsOther p.first p.end);
    by_caller = All-nil (λ (e : Event). e.caller ≡ c);
    front = sym (append-nil (p.front ++ []) ∙ append-nil p.front);
    legal = λ before. before;
    batch = refl;
    other_batches = λ d other. refl;
  };
  does = rw (append-nil p.front) does;
}

take_does : (s : Shape) (h : History) (c n : ℕ) (own : List Event) (b : BatchState) → DidTake s c n b h own → Does s h c None (Take n) own (Ok (reply.Taken (length b.pages))) (Some (open_of b))
unfolding Does
take_does s h c n own b d = rw (d.allowed, d.batch) (d.recorded, refl, refl)

refused_take : (s : Shape) (h : History) (c n : ℕ) (why : Refusal) → refusal s h (call.take c) ≡ Some why → Does s h c None (Take n) [] (Err why) None
unfolding Does
refused_take s h c n why e = rw e (refl, refl, refl)

beside_take : (s : Shape) (h : History) (c n : ℕ) (b : Open) → Does s h c (Some b) (Take n) [] (Err HasBatch) (Some b)
unfolding Does
beside_take s h c n b = (refl, refl, refl)

no_split : (s : Shape) (h : History) (c : ℕ) → Does s h c None SplitNext [] (Ok reply.NoBatch) None
unfolding Does
no_split s h c = (refl, refl, refl)

no_back : (s : Shape) (h : History) (c : ℕ) → Does s h c None PutBack [] (Ok reply.NoBatch) None
unfolding Does
no_back s h c = (refl, refl, refl)

open_batch : (a b : BatchState) (pages left : List ℕ) → a.pages ≡ pages → rest a ≡ left → open_of a ≡ record { pages = pages; left = left }
open_batch a b pages left e f = λ i. record { pages = e i; left = f i }

try_does : (s : Shape) (h : History) (c : ℕ) (old new : BatchState) (t : Tried) (own : List Event) → old.caller ≡ c → new.pages ≡ old.pages → DidTry s old new t h own → Does s h c (Some (open_of old)) SplitNext own (Ok (reply.Tried t)) (Some (open_of new))
unfolding Does
try_does s h c old new t own caller pages d = grind (arith, open_batch)

back_does : (s : Shape) (h : History) (c : ℕ) (b : BatchState) (r : BackReply) (own : List Event) → b.caller ≡ c → DidPutBack s b r h own → Does s h c (Some (open_of b)) PutBack own (Ok (reply.Back r)) None
unfolding Does
back_does s h c b r own caller d = (rw caller at d.recorded, rw (d.answer, caller) refl, refl)

-- ---- the four kinds of step, as the code makes them

-- the place of one of the pass's callers among the batches
pub place_at : {cell : TableId} {p : PassState} {bs : List (Option BatchState)} {h : Held} {c first : ℕ} → IsHolding cell p bs → h ≡ record { pass = p; batches = bs } → HasCaller h.pass c → first ≡ p.first → ((c - first) + p.first ≡ c) × (c - first < length bs) × HasCaller p c
place_at held is its first = let has = rw is at its in (omega (arith, has.from, first), omega (arith, has.from, has.below, held.callers, first), has)

-- a batch at caller c's place is c's, and in front of its flight
pub mine : {cell : TableId} {p : PassState} {bs : List (Option BatchState)} {c : ℕ} {b : BatchState} (place : ℕ) → IsHolding cell p bs → place + p.first ≡ c → HasCaller p c → slice_get bs place ≡ Some (Some b) → (b.caller ≡ c) × IsInFront p.front b × HasCaller p b.caller
mine {cell} {p} {bs} {c} {b} place held at has is = let e = held.each place b is in let own : b.caller ≡ c = omega (arith, e.0, at) in (own, e.1, rw own has)

-- there is no batch, and nothing happens
pub none_held : (p : PassState) (bs new : List (Option BatchState)) (c place : ℕ) (step : Step) (answer : Reaction) → place + p.first ≡ c → place < length bs → slice_get bs place ≡ Some None → new ≡ set bs place None
    → ((h : History) → Does p.shape h c None step [] answer None) → HeldAnswered c step (record { pass = p; batches = bs }) (record { pass = p; batches = new }) answer
none_held p bs new c place step answer at lt is now does = grind (arith, set_same, batch_old, held_nothing)

pub no_split_held : (p : PassState) (bs new : List (Option BatchState)) (c place : ℕ) → place + p.first ≡ c → place < length bs → slice_get bs place ≡ Some None → new ≡ set bs place None → HeldAnswered c SplitNext (record { pass = p; batches = bs }) (record { pass = p; batches = new }) (Ok reply.NoBatch)
no_split_held p bs new c place at lt is now = none_held p bs new c place SplitNext (Ok reply.NoBatch) at lt is now (λ h. no_split p.shape h c)

pub no_back_held : (p : PassState) (bs new : List (Option BatchState)) (c place : ℕ) → place + p.first ≡ c → place < length bs → slice_get bs place ≡ Some None → new ≡ set bs place None → HeldAnswered c PutBack (record { pass = p; batches = bs }) (record { pass = p; batches = new }) (Ok reply.NoBatch)
no_back_held p bs new c place at lt is now = none_held p bs new c place PutBack (Ok reply.NoBatch) at lt is now (λ h. no_back p.shape h c)

pub beside_held : (p : PassState) (bs : List (Option BatchState)) (c place n : ℕ) (b : BatchState) → place + p.first ≡ c → place < length bs → slice_get bs place ≡ Some (Some b) → HeldAnswered c (Take n) (record { pass = p; batches = bs }) (record { pass = p; batches = bs }) (Err HasBatch)
beside_held p bs c place n b at lt is = grind (arith, batch_old, held_nothing, beside_take)

module _ (p q : PassState) (bs new : List (Option BatchState)) (c place : ℕ) (same : q ≡ continuing p q) (at : place + p.first ≡ c) (lt : place < length bs) where
  pub take_held : (n taken : ℕ) (b : BatchState) → slice_get bs place ≡ Some None → new ≡ set bs place (Some b) → taken ≡ length b.pages → Called p q c (DidTake p.shape c n b)
      → HeldAnswered c (Take n) (record { pass = p; batches = bs }) (record { pass = q; batches = new }) (Ok (reply.Taken taken))
  take_held n taken b is now count r =
      rw (now, count) (held_changed p q bs c place same at lt (Some b) (Take n) (reply.Taken (length b.pages)) (DidTake p.shape c n b) r (λ h own d. rw is (take_does p.shape h c n own b d)))

  pub take_failed : (n : ℕ) (fault : CellFault) → slice_get bs place ≡ Some None → Failed p q (refusal q.shape q.front (call.take c)) (length (take_events q.shape q.front c n)) fault → HeldDone c (Take n) (record { pass = p; batches = bs }) (record { pass = q; batches = bs }) (Err fault)
  take_failed n fault is failed = grind (arith, batch_old, held_failed, refused_take)

  pub split_held : (b b' : BatchState) (t : Tried) → b.caller ≡ c → slice_get bs place ≡ Some (Some b) → new ≡ set (set bs place None) place (Some b') → b'.pages ≡ b.pages → Called p q b.caller (DidTry p.shape b b' t)
      → HeldAnswered c SplitNext (record { pass = p; batches = bs }) (record { pass = q; batches = new }) (Ok (reply.Tried t))
  split_held b b' t caller is now pages r =
      let r' : Called p q c (DidTry p.shape b b' t) = subst (λ d. Called p q d (DidTry p.shape b b' t)) caller r in
      rw (now, set_twice bs place None (Some b'))
      (held_changed p q bs c place same at lt (Some b') SplitNext (reply.Tried t) (DidTry p.shape b b' t) r' (λ h own d. rw is (try_does p.shape h c b b' t own caller pages d)))

  pub back_held : (b : BatchState) (r : BackReply) → b.caller ≡ c → slice_get bs place ≡ Some (Some b) → new ≡ set bs place None → Called p q b.caller (DidPutBack p.shape b r)
      → HeldAnswered c PutBack (record { pass = p; batches = bs }) (record { pass = q; batches = new }) (Ok (reply.Back r))
  back_held b r caller is now called =
      let r' : Called p q c (DidPutBack p.shape b r) = subst (λ d. Called p q d (DidPutBack p.shape b r)) caller called in
      rw now (held_changed p q bs c place same at lt None PutBack (reply.Back r) (DidPutBack p.shape b r) r' (λ h own d. rw is (back_does p.shape h c b r own caller d)))

  put_again : (b b' : BatchState) → slice_get bs place ≡ Some (Some b) → b' ≡ b → new ≡ set (set bs place None) place (Some b') → new ≡ bs
  put_again b b' is e now = now ∙ set_twice bs place None (Some b') ∙ set_same bs place (Some b') (is ∙ ap (λ (x : BatchState). Some (Some x)) (sym e))

  pub split_failed : (b b' : BatchState) (fault : CellFault) → b.caller ≡ c → slice_get bs place ≡ Some (Some b) → b' ≡ b → new ≡ set (set bs place None) place (Some b') → Failed p q None (length (split_next_events q.shape q.front b.caller (rest b))) fault → HeldDone c SplitNext (record { pass = p; batches = bs }) (record { pass = q; batches = new }) (Err fault)
  split_failed b b' fault caller is e now failed = grind (arith, batch_old, put_again, held_failed)

  pub back_failed : (b : BatchState) (fault : CellFault) → b.caller ≡ c → slice_get bs place ≡ Some (Some b) → Failed p q None (length (put_back_events q.shape q.front b.caller b.pages)) fault → HeldDone c PutBack (record { pass = p; batches = bs }) (record { pass = q; batches = bs }) (Err fault)
  back_failed b fault caller is failed = grind (arith, batch_old, held_failed)

-- a place that was shut is so again
pub shut_again : (bs : List (Option BatchState)) (place : ℕ) (x y : Option BatchState) → slice_get bs place ≡ Some None → set (set (set bs place x) place y) place None ≡ bs
shut_again bs place x y is = set_twice (set bs place x) place y None ∙ set_twice bs place x None ∙ set_same bs place None is

-- batches that stay in front do so whoever's they are
pub others_stay : (p q : PassState) (c : ℕ) → BatchesStay p q → OtherBatchesStay c p q
others_stay p q c stay b has other front = stay b has front

-- the invariant after a batch was taken out and one was put there
pub held_again : (cell : TableId) (p q : PassState) (bs new : List (Option BatchState)) (c place : ℕ) (b : BatchState) → IsHolding cell p bs → q ≡ continuing p q → BatchesStay p q → place + p.first ≡ c → place < length bs → new ≡ set (set bs place None) place (Some b) → b.caller ≡ c → IsInFront q.front b → IsHolding cell q new
held_again cell p q bs new c place b held same stay at lt now caller front =
    rw (now, set_twice bs place None (Some b)) (held_set cell p q bs c place (Some b) held same (others_stay p q c stay) at lt (caller, front))

-- the invariant after a batch went back
pub held_gone : (cell : TableId) (p q : PassState) (bs new : List (Option BatchState)) (c place : ℕ) → IsHolding cell p bs → q ≡ continuing p q → BatchesStay p q → place + p.first ≡ c → place < length bs → new ≡ set bs place None → IsHolding cell q new
held_gone cell p q bs new c place held same stay at lt now = rw now (held_set cell p q bs c place None held same (others_stay p q c stay) at lt tt)

-- the invariant after a take
pub held_taken : (cell : TableId) (p q : PassState) (bs new : List (Option BatchState)) (c place : ℕ) (b : BatchState) → IsHolding cell p bs → q ≡ continuing p q → OtherBatchesStay c p q → place + p.first ≡ c → place < length bs → new ≡ set bs place (Some b) → b.caller ≡ c → IsInFront q.front b → IsHolding cell q new
held_taken cell p q bs new c place b held same stay at lt now caller front = rw now (held_set cell p q bs c place (Some b) held same stay at lt (caller, front))

-- and after one that failed: there was no batch of the caller
pub held_untaken : (cell : TableId) (p q : PassState) (bs : List (Option BatchState)) (c place : ℕ) → IsHolding cell p bs → q ≡ continuing p q → OtherBatchesStay c p q → place + p.first ≡ c → place < length bs → slice_get bs place ≡ Some None → IsHolding cell q bs
held_untaken cell p q bs c place held same stay at lt is = subst (IsHolding cell q) (set_same bs place None is) (held_set cell p q bs c place None held same stay at lt tt)

pub taken_by : (p q : PassState) (c n : ℕ) (b : BatchState) → Called p q c (DidTake p.shape c n b) → b.caller ≡ c
taken_by p q c n b r = ap (λ (x : BatchState). x.caller) r.says.batch
