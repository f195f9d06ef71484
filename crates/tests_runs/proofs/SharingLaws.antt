-- What is done on nodes that count as shared is done on the nodes; a step on one node is a step of a holder of all nodes.
use Rattle.std.proofs.Common.{◌≡◌, ◌<◌, ℕ, zero, suc, ap, arith, inl, inr, Bool, List, [], ◌∷◌, length, subst, slice_get, Option, Some, None, Result, Ok, Err, refl}
use Rattle.thp_history.specs.declared.events.Event.{Event}
use Rattle.thp_history.specs.declared.refusal.Refusal.TheVariants.{OutOfMemory}
use Rattle.thp_cell.specs.declared.fault.CellFault.{CellFault}
use Rattle.thp_cell.specs.declared.fault.CellFault.TheVariants.{Busy, Refused}
use Rattle.thp_script.specs.declared.script.Command.{Command}
use Rattle.thp_worker.specs.declared.reply.Answer.{Answer}
use Rattle.thp_worker.specs.declared.reply.Reply.{Reply}
use Rattle.thp_worker.specs.declared.reply.Rest.{Rest}
use Rattle.thp_run.specs.Listed.{WorkedList, WorksOn}
use Rattle.thp_worker.specs.declared.command.CommandProgress.{CommandProgress}
use Rattle.thp_worker.specs.declared.steps.Step.{Step}
use Rattle.thp_worker.specs.Prelude.{Open, Reaction, Fronts, Held, HeldDone, SameHolding, Moves, Answered, OutOf, IsStepBusy, StepDone, Goes, Grows, Made, Steps, Begins, Ends, WorksTo}
use Rattle.thp_run.specs.Passes.{Agree, IsOf, Passes, fronts_in}
use Rattle.thp_run.proofs.PassLaws.{step_made}
use Rattle.tests_runs.specs.Sharing.{of_two, shared, WasWorked}

module _ (old new : Fronts) where
  same_shared : SameHolding old new → SameHolding (shared old) (shared new)
  same_shared s = record { cells = s.cells; nodes = s.nodes; shape = s.shape; callers = rw (s.callers, s.end) refl; first = s.first; end = s.end }

  moves_shared : (c n : ℕ) (others own : List Event) (after : Option Open) → Moves c n old new others own after → Moves c n (shared old) (shared new) others own after
  moves_shared c n others own after m = record {
    same = same_shared m.same;
    by_others = m.by_others;
    by_caller = m.by_caller;
    front = m.front;
    elsewhere = m.elsewhere;
    legal = m.legal;
    batch = m.batch;
    other_batches = m.other_batches;
  }

  answered_shared : (c n : ℕ) (step : Step) (answer : Reaction) → Answered c n step old new answer → Answered c n step (shared old) (shared new) answer
  answered_shared c n step answer a = record { others = a.others; own = a.own; after = a.after; moves = moves_shared c n a.others a.own a.after a.moves; does = a.does }

  out_shared : (c n : ℕ) (step : Step) → OutOf c n step old new → OutOf c n step (shared old) (shared new)
  out_shared c n step o = record { others = o.others; moves = moves_shared c n o.others [] (old.batches c n) o.moves; allowed = o.allowed; needs = o.needs }

  pub goes_shared : (c : ℕ) → Goes c old new → Goes c (shared old) (shared new)
  goes_shared c g = record {
    same = same_shared g.same;
    grown = g.grown;
    others = λ d n has. g.others d n (record { low = has.low; high = has.high });
    others_batches = g.others_batches;
    legal = g.legal;
  }

-- nodes that are held on as shared are held on
pub same_inside : (old new : Fronts) → SameHolding (shared old) (shared new) → SameHolding old new
same_inside old new s = record { cells = s.cells; nodes = s.nodes; shape = s.shape; callers = omega (arith, s.callers, s.end); first = s.first; end = s.end }

-- nodes that are busy stay as they are
pub busy_shared : (old new : Fronts) → new ≡ old → IsStepBusy (shared old) (shared new)
busy_shared old new same = record { same = ap shared same; shared = λ all. absurd (omega (arith, all.high)) }

pub step_shared : (old new : Fronts) (c n : ℕ) (step : Step) (r : Result Reply CellFault) → StepDone c n step old new r → StepDone c n step (shared old) (shared new) r
step_shared old new c n step (Ok reply) d = answered_shared old new c n step (Ok reply) d
step_shared old new c n step (Err Busy) d = busy_shared old new d.same
step_shared old new c n step (Err (Refused OutOfMemory)) d = out_shared old new c n step d
step_shared old new c n step (Err (Refused why)) d = answered_shared old new c n step (Err why) d

-- what a section did on nodes that count as shared, it did on the nodes
module _ (old new : Fronts) (c : ℕ) where
  abbrev before : Fronts
  before = record old { callers = new.callers }

  grows_inside : Grows old (shared new) → Grows before new
  grows_inside g = record { same = record { cells = g.same.cells; nodes = g.same.nodes; shape = g.same.shape; callers = refl }; grown = g.grown }

  steps_inside : (ms : List Made) → Steps c old (shared new) ms → Steps c before new ms
  steps_inside ms s = record { each = s.each; in_order = s.in_order; behind = s.behind; own = s.own; carries = s.carries; batches = s.batches }

  begins_inside : (commands : List Command) (answers : List Answer) (opened : List Bool) (begun : CommandProgress) → Begins c old (shared new) commands answers opened begun → Begins c before new commands answers opened begun
  begins_inside commands answers opened begun b = record {
    turns = b.turns;
    made = b.made;
    grows = grows_inside b.grows;
    steps = steps_inside _ b.steps;
    each = b.each;
    done = b.done;
    answered = b.answered;
    next = b.next;
    known = b.known;
  }

  ends_inside : (commands : List Command) (answers : List Answer) (opened : List Bool) (back : ℕ) → Ends c old (shared new) commands answers opened back → Ends c before new commands answers opened back
  ends_inside commands answers opened back e = record {
    turns = e.turns;
    closed = e.closed;
    grows = grows_inside e.grows;
    steps = steps_inside _ e.steps;
    each = e.each;
    each_closed = e.each_closed;
    done = e.done;
    answered = e.answered;
    closes = e.closes;
    count = e.count;
    known = e.known;
  }

  to_inside : (commands : List Command) (answers : List Answer) (opened : List Bool) (rest : Option Rest) → WorksTo c old (shared new) commands answers opened rest → WorksTo c before new commands answers opened rest
  to_inside commands answers opened None t = (t.0, ends_inside commands answers opened t.0 t.1, t.2)
  to_inside commands answers opened (Some r) t =
      (t.0, elim t.1 [ inl b ↦ inl (b.0, begins_inside commands answers opened _ b.1) | inr e ↦ inr (e.0, ends_inside commands answers opened r.steps e.1) ])

  pub works_inside : (commands : List Command) (w : WorkedList) → WorksOn c old (shared new) commands w → WasWorked c new commands w
  works_inside commands w k = (before, record { shut = k.shut; opened = k.opened; works = to_inside commands w.answers k.opened w.rest k.works })

-- ---- one node

agree_alone : (h : Held) → IsOf 2 0 2 h → Agree 2 0 2 (h ∷ [])
agree_alone h of = record { few = omega arith; each = λ n k at. each n k at } where
  same : (a b : Held) → Some a ≡ Some b → a ≡ b
  same a b e = cc

  each : (n : ℕ) (k : Held) → slice_get (h ∷ []) n ≡ Some k → IsOf 2 0 2 k
  each zero k at = subst (IsOf 2 0 2) (same h k at) of
  each (suc n) k at = absurd (cc)

pub step_alone : (p : Passes) (c n : ℕ) (step : Step) (old new : Held) (r : Result Reply CellFault) → p ≡ of_two old → IsOf 2 0 2 old → n < length p.held → HeldDone c step old new r →
    IsOf 2 0 2 new × StepDone c n step (fronts_in p) (fronts_in (of_two new)) r × Goes c (fronts_in p) (fronts_in (of_two new))
step_alone p c zero step old new r view of lt done =
    let made = step_made {callers = 2} {first = 0} {end = 2} {held = old ∷ []} {h = p} c 0 step old new r view (agree_alone old of) lt refl done in
    (made.0.each 0 new refl, made.1, made.2)
step_alone p c (suc n) step old new r view of lt done = absurd (let count : length p.held ≡ 1 = ap (λ (q : Passes). length q.held) view in omega (arith, lt, count))
