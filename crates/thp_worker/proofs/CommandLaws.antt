-- A command, step after step.
use Rattle.std.proofs.Common.{◌≡◌, ◌⊎◌, inl, inr, ◌++◌, ℕ, List, [], ◌∷◌, Some, slice_get, refl, sym, ap, ◌∙◌, subst, append_assoc, true, false, Result, Ok, Err, IfErr, IsErrAnd}
use Rattle.std.proofs.lemmas.List.{append-nil, map-append}
use Rattle.std.proofs.lemmas.List.Elements.{All-nil, All-push}
use Rattle.thp_script.specs.declared.script.Command.{Command}
use Rattle.thp_worker.specs.Prelude.{CommandProgress, Reply, Step, Reaction, IsFit, answer_of, Fronts, HoldsCaller, Goes, Answered, StepDone, CommandState, On, Ended, Comes, by_cell, IsReady, is_scan, next_step, goes_on, scan_goes_on, Made, IsWorkFor, MayWant, OutOf, Proceeds, WantsMemory, step_results}
use Rattle.thp_cell.specs.declared.fault.CellFault.{CellFault}
use Rattle.thp_cell.specs.declared.fault.CellFault.TheVariants.{Busy, Refused}
use Rattle.thp_history.specs.declared.refusal.Refusal.{Refusal}
use Rattle.thp_history.specs.declared.refusal.Refusal.TheVariants as why
use Rattle.thp_script.specs.declared.script.Op.{Op}
use Rattle.thp_script.specs.declared.script.Op.TheVariants as op
use Rattle.thp_worker.proofs.TurnLaws.{turned, fares}
use Rattle.thp_worker.proofs.StepLaws.{goes_refl, goes_trans, has_later, made_by, steps_none, steps_one, steps_then, moves_goes, goes_grows}

-- no step yet
pub proceeds_none : (c : ℕ) (command : Command) (begun : CommandProgress) (f : Fronts) → IsReady (f.batches c command.node) begun → Proceeds c command begun f f (On begun)
proceeds_none c command begun f ready = record {
  made = [];
  steps = steps_none c f;
  on_node = All-nil (λ (m : Made). m.node ≡ command.node);
  turned = λ reported is. rw (append-nil reported) is;
  ready = ready;
}

pub goes_by : (c n : ℕ) (begun : CommandProgress) (command : Command) (old new : Fronts) (answer : Reaction) → Answered c n (next_step command.op begun) old new answer → Goes c old new
goes_by c n begun command old new answer a = moves_goes c n old new a.others a.own a.after a.moves

-- one step more
pub proceeds_more : (c : ℕ) (command : Command) (first begun : CommandProgress) (old mid new : Fronts) (answer : Reaction) → HoldsCaller mid c → IsFit command.op → Goes c old mid → Proceeds c command first old mid (On begun)
    → Answered c command.node (next_step command.op begun) mid new answer → Proceeds c command first old new (goes_on command.op begun answer)
proceeds_more c command first begun old mid new answer has fit g p a =
    let made = made_by c command.node (next_step command.op begun) mid new answer a in
    let fare = fares (mid.shape command.node) (mid.front command.node ++ a.others) c command.op (mid.batches c command.node) begun a.own answer a.after fit p.ready a.does in
    record {
      made = p.made ++ made ∷ [];
      steps = steps_then c old mid new p.made (made ∷ []) (goes_grows c old mid g) (goes_grows c mid new (goes_by c command.node begun command mid new answer a)) p.steps (steps_one c command.node (next_step command.op begun) mid new answer a has);
      on_node = All-push (λ (m : Made). m.node ≡ command.node) p.made made p.on_node refl;
      turned = λ reported is. rw (map-append (λ (m : Made). m.reported) p.made (made ∷ []), ← append_assoc reported (step_results p.made) (record { step = next_step command.op begun; answer = answer } ∷ []))
          (turned command.op begun answer (reported ++ step_results p.made) (p.turned reported is) fare.0);
      ready = rw a.moves.batch fare.1;
    }

-- a command that isn't a scan has one step
one_ends : (o : Op) (begun : CommandProgress) (answer : Reaction) → is_scan o ≡ false → goes_on o begun answer ≡ Ended answer
one_ends (op.Scan n) begun answer one = absurd (cc)
one_ends _ begun answer one = refl

-- a refusal ends each command
refusal_ends : (o : Op) (begun : CommandProgress) (r : Refusal) → goes_on o begun (Err r) ≡ Ended (Err r)
refusal_ends (op.Scan n) begun r = refl
refusal_ends _ begun r = refl

-- the steps of a scan go on as a scan does
scan_goes : (o : Op) (begun : CommandProgress) (answer : Reaction) → is_scan o ≡ true → goes_on o begun answer ≡ scan_goes_on begun answer
scan_goes (op.Scan n) begun answer is = refl
scan_goes _ begun answer is = absurd (cc)

module _ (c : ℕ) (command : Command) (first begun : CommandProgress) (old mid new : Fronts) (has : HoldsCaller mid c) (fit : IsFit command.op) (g : Goes c old mid) (p : Proceeds c command first old mid (On begun)) where
  -- a step that was refused, that stayed busy, or for which there was no memory
  pub fault_comes : (fault : CellFault) → StepDone c command.node (next_step command.op begun) mid new (Err fault) → Comes begun (Err fault) (Proceeds c command first old new)
  fault_comes Busy busy = subst (λ f. Proceeds c command first old f (On begun)) (sym busy.same) p
  fault_comes (Refused r) done = by_reason r done where
    ended : (r : Refusal) → Answered c command.node (next_step command.op begun) mid new (Err r) → Proceeds c command first old new (Ended (Err r))
    ended r a = subst (Proceeds c command first old new) (refusal_ends command.op begun r) (proceeds_more c command first begun old mid new (Err r) has fit g p a)

    by_reason : (r : Refusal) → StepDone c command.node (next_step command.op begun) mid new (Err (Refused r)) → Comes begun (Err (Refused r)) (Proceeds c command first old new)
    by_reason why.OutOfMemory a = tt
    by_reason why.NoPage a = ended why.NoPage a
    by_reason why.BadRange a = ended why.BadRange a
    by_reason why.IsSplit a = ended why.IsSplit a
    by_reason why.NotMapped a = ended why.NotMapped a
    by_reason why.Gone a = ended why.Gone a
    by_reason why.NotPinned a = ended why.NotPinned a
    by_reason why.TooMany a = ended why.TooMany a
    by_reason why.Closed a = ended why.Closed a
    by_reason why.NoBlock a = ended why.NoBlock a
    by_reason why.HasBatch a = ended why.HasBatch a

-- the one step of a command that isn't a scan
pub one_done : {c nodes : ℕ} {command : Command} {begun : CommandProgress} {old : Fronts} (new : Fronts) (result : Result Reply CellFault) → HoldsCaller old c → IsWorkFor nodes command → IsReady (old.batches c command.node) begun → is_scan command.op ≡ false → StepDone c command.node (next_step command.op begun) old new result → Comes begun result (Proceeds c command begun old new)
one_done {c} {nodes} {command} {begun} {old} new (Ok reply) has for ready one a =
    subst (Proceeds c command begun old new) (one_ends command.op begun (Ok reply) one) (proceeds_more c command begun begun old old new (Ok reply) has for.fits (goes_refl c old) (proceeds_none c command begun old ready) a)
one_done {c} {nodes} {command} {begun} {old} new (Err fault) has for ready one done = fault_comes c command begun begun old old new has for.fits (goes_refl c old) (proceeds_none c command begun old ready) fault done

-- a step of a scan
module _ {c n nodes : ℕ} {command : Command} {first begun : CommandProgress} {old mid : Fronts} (step : Step) (new : Fronts) (has : HoldsCaller old c) (for : IsWorkFor nodes command) (is : command.op ≡ op.Scan n) (at : step ≡ next_step (op.Scan n) begun) (g : Goes c old mid) (p : Proceeds c command first old mid (On begun)) where
  next : step ≡ next_step command.op begun
  next = at ∙ ap (λ o. next_step o begun) (sym is)

  pub scan_more : (answer : Reaction) → Answered c command.node step mid new answer → Proceeds c command first old new (scan_goes_on begun answer)
  scan_more answer a = rw (← scan_goes command.op begun answer (rw is refl)) (proceeds_more c command first begun old mid new answer (has_later old mid c g.same has) for.fits g p (rw next at a))

  pub scan_fault : (fault : CellFault) → StepDone c command.node step mid new (Err fault) → Comes begun (Err fault) (Proceeds c command first old new)
  scan_fault fault done = fault_comes c command first begun old mid new (has_later old mid c g.same has) for.fits g p fault (subst (λ s. StepDone c command.node s mid new (Err fault)) next done)

-- a step for which there was no memory
pub fault_wants : (c : ℕ) (command : Command) (begun : CommandProgress) (old mid : Fronts) (step : Step) (new : Fronts) → step ≡ next_step command.op begun → Goes c old mid → (fault : CellFault) → StepDone c command.node step mid new (Err fault) → fault ≡ Refused why.OutOfMemory
    → WantsMemory c command.node command.op old new
fault_wants c command begun old mid step new at g fault done is = record {
  before = mid;
  begun = begun;
  goes = g;
  lacks = subst (λ s. OutOf c command.node s mid new) at (subst (λ f. StepDone c command.node step mid new (Err f)) is done);
}

pub step_wants : (c : ℕ) (command : Command) (begun : CommandProgress) (old : Fronts) (step : Step) (new : Fronts) → step ≡ next_step command.op begun → (result : Result (Unit {0}) CellFault) (reply : Reply) → StepDone c command.node step old new (answer_of result reply) → result ≡ Err (Refused why.OutOfMemory)
    → WantsMemory c command.node command.op old new
step_wants c command begun old step new at result reply done is =
    fault_wants c command begun old old step new at (goes_refl c old) (Refused why.OutOfMemory) (subst (λ r. StepDone c command.node step old new (answer_of r reply)) is done) refl

-- it lacked memory at a later state too
pub wants_later : (c n : ℕ) (o : Op) (old mid new : Fronts) → Goes c old mid → WantsMemory c n o mid new → WantsMemory c n o old new
wants_later c n o old mid new g w = record { before = w.before; begun = w.begun; goes = goes_trans c old mid w.before g w.goes; lacks = w.lacks }

pub may_want : (c : ℕ) (commands : List Command) (command : Command) (old mid new : Fronts) → ((k : ℕ) × (slice_get commands k ≡ Some command)) ⊎ (command.op ≡ op.PutBack) → Goes c old mid → WantsMemory c command.node command.op mid new → MayWant c commands old new
may_want c commands command old mid new listed g w = record { command = command; listed = listed; wants = wants_later c command.node command.op old mid new g w }

not_listed : (command : Command) (k : ℕ) → slice_get [] k ≡ Some command → ⊥
not_listed command k is = absurd (cc)

pub may_want_later : (c : ℕ) (commands : List Command) (old mid new : Fronts) → Goes c old mid → MayWant c [] mid new → MayWant c commands old new
may_want_later c commands old mid new g w =
    may_want c commands w.command old mid new (elim w.listed [ inl x ↦ absurd (not_listed w.command x.0 x.1) | inr is ↦ inr is ]) g w.wants

-- a fault that was handed on
pub handed_on : (r : Result (Unit {0}) CellFault) (fault : CellFault) → IsErrAnd r (λ f. f ≡ fault) → r ≡ Err fault
handed_on (Ok x) fault is = absurd is
handed_on (Err f) fault is = ap (λ x. Err x) is

-- a refusal that isn't want of memory is the command's answer
pub refused_comes : (begun : CommandProgress) (P : CommandState → Type 0) (r : Refusal) → (r ≡ why.OutOfMemory → ⊥) → Comes begun (Err (Refused r)) P → P (Ended (Err r))
refused_comes begun P why.OutOfMemory not p = absurd (not refl)
refused_comes begun P why.NoPage not p = p
refused_comes begun P why.BadRange not p = p
refused_comes begun P why.IsSplit not p = p
refused_comes begun P why.NotMapped not p = p
refused_comes begun P why.Gone not p = p
refused_comes begun P why.NotPinned not p = p
refused_comes begun P why.TooMany not p = p
refused_comes begun P why.Closed not p = p
refused_comes begun P why.NoBlock not p = p
refused_comes begun P why.HasBatch not p = p

-- what a cell answered, if it had memory, is answered
pub cell_comes : (begun : CommandProgress) (P : CommandState → Type 0) (called : Result (Unit {0}) CellFault) (said : Result (Unit {0}) Refusal) (reply : Reply) → called ≡ by_cell said → (called ≡ Err (Refused why.OutOfMemory) → ⊥) → Comes begun (answer_of called reply) P → P (Ended (answer_of said reply))
cell_comes begun P called (Ok x) reply is room p = subst (λ r. Comes begun (answer_of r reply) P) is p
cell_comes begun P called (Err refusal) reply is room p = refused_comes begun P refusal (λ e. room (is ∙ ap (λ x. Err (Refused x)) e)) (subst (λ r. Comes begun (answer_of r reply) P) is p)

-- a fault that was handed on for want of memory
pub lacked : (r : Result (Unit {0}) CellFault) (fault : CellFault) → IsErrAnd r (λ f. f ≡ fault) → r ≡ Err (Refused why.OutOfMemory) → fault ≡ Refused why.OutOfMemory
lacked (Ok x) fault ends is = absurd ends
lacked (Err f) fault ends is = let same : f ≡ Refused why.OutOfMemory = cc in sym ends ∙ same

-- what is so in each case is so where a result is an error
module _ {A E : Type 0} where
  pub if_err : (r : Result A E) (P : Type 0) → P → IfErr r (λ e. P)
  if_err (Ok x) P p = tt
  if_err (Err e) P p = p

  pub if_err_map : (r : Result A E) (P Q : Type 0) → (P → Q) → IfErr r (λ e. P) → IfErr r (λ e. Q)
  if_err_map (Ok x) P Q f p = tt
  if_err_map (Err e) P Q f p = f p
