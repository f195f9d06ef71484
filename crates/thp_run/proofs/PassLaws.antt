-- A step on one node, as a step of the holder of all nodes' passes.
use Rattle.std.proofs.Common.{◌≡◌, ◌∙◌, ◌≢◌, ◌++◌, ◌<◌, ◌==◌, ap, ℕ, Bool, true, false, List, [], ◌∷◌, length, refl, sym, subst, Option, Some, Ok, Err, set, map, zero, suc, slice_get, get_or, Result}
use Rattle.std.proofs.lemmas.Bool.{eqb-true, eqb-false}
use Rattle.std.proofs.lemmas.Option.{slice_get_within, slice_get_read}
use Rattle.thp_history.specs.declared.events.Event.{Event}
use Rattle.thp_history.specs.declared.refusal.Refusal.TheVariants.{OutOfMemory}
use Rattle.thp_cell.specs.declared.fault.CellFault.{CellFault}
use Rattle.thp_cell.specs.declared.fault.CellFault.TheVariants.{Busy, Refused}
use Rattle.thp_cell.specs.Prelude.{continuing, PassState}
use Rattle.thp_worker.specs.declared.reply.Reply.{Reply}
use Rattle.thp_worker.specs.declared.steps.Step.{Step}
use Rattle.thp_worker.specs.Prelude.{Open, Reaction, Fronts, Moves, Answered, OutOf, IsStepBusy, StepDone, Goes, Held, Acts, HeldAnswered, HeldOutOf, HeldDone, IsHeldBusy, batch_of}
use Rattle.thp_run.specs.Passes.{Passes, cell_in, shape_in, front_in, batch_in, fronts_in, fronts_of, IsOf, Agree}
use Rattle.thp_worker.proofs.HoldingLaws.{slice_get-set_same, slice_get-set_other, length-set_same}
use Rattle.thp_worker.proofs.StepLaws.{goes_refl, moves_goes}

-- the pass stays, but for its front and its lock steps
pub done_same : (c : ℕ) (step : Step) (old new : Held) (r : Result Reply CellFault) → HeldDone c step old new r → new.pass ≡ continuing old.pass new.pass
done_same c step old new (Ok reply) d = d.acts.pass
done_same c step old new (Err Busy) d = subst (λ (h : Held). h.pass ≡ continuing old.pass h.pass) (sym d.same) refl
done_same c step old new (Err (Refused OutOfMemory)) d = d.acts.pass
done_same c step old new (Err (Refused why)) d = d.acts.pass

map_set : (held : List Held) (n : ℕ) (old new : Held) → slice_get held n ≡ Some old → new.pass.cell ≡ old.pass.cell → map cell_in (set held n new) ≡ map cell_in held
map_set [] n old new is same = refl
map_set (h ∷ held) zero old new is same =
    let heads : h ≡ old = cc in
    ap (λ x. x ∷ map cell_in held) (same ∙ ap cell_in (sym heads))
map_set (h ∷ held) (suc n) old new is same = ap (λ l. cell_in h ∷ l) (map_set held n old new is same)

-- the passes still agree
pub agree_after : (callers first end : ℕ) (held : List Held) (n : ℕ) (old new : Held) → Agree callers first end held → slice_get held n ≡ Some old → new.pass ≡ continuing old.pass new.pass → Agree callers first end (set held n new)
agree_after callers first end held n old new agree is same = record {
  few = rw (length-set_same held n new) agree.few;
  each = λ m h at. by_node m h at (m == n) refl;
}
  where
    inner : (a b : Held) → Some a ≡ Some b → a ≡ b
    inner a b e = cc

    by_node : (m : ℕ) (h : Held) → slice_get (set held n new) m ≡ Some h → (t : Bool) → (m == n) ≡ t → IsOf callers first end h
    by_node m h at true e =
        let here : m ≡ n = eqb-true m n e in
        let lt : n < length held = slice_get_within held n old is in
        let got : new ≡ h = inner new h (sym (slice_get-set_same held n new lt) ∙ (rw here at at)) in
        let was = agree.each n old is in
        subst (IsOf callers first end) got (record {
          callers_are = ap (λ (p : PassState). p.callers) same ∙ was.callers_are;
          first_is = ap (λ (p : PassState). p.first) same ∙ was.first_is;
          end_is = ap (λ (p : PassState). p.end) same ∙ was.end_is;
        })
    by_node m h at false e = agree.each m h (sym (slice_get-set_other held n m new (eqb-false m n e)) ∙ at)

module _ (callers first end : ℕ) (held : List Held) (n : ℕ) (old new : Held) (is : slice_get held n ≡ Some old) (of : IsOf callers first end old) where
  within : n < length held
  within = slice_get_within held n old is

  here : {A : Type 0} (f : Option Held → A) → f (slice_get (set held n new) n) ≡ f (Some new)
  here f = ap f (slice_get-set_same held n new within)

  there : {A : Type 0} (f : Option Held → A) (m : ℕ) → (m ≡ n → ⊥) → f (slice_get (set held n new) m) ≡ f (slice_get held m)
  there f m other = ap f (slice_get-set_other held n m new other)

  before : {A : Type 0} (f : Option Held → A) → f (slice_get held n) ≡ f (Some old)
  before f = ap f is

  -- what the new pass shares with the old one is the same at each place
  same_place : {A : Type 0} (f : Option Held → A) → f (Some new) ≡ f (Some old) → (m : ℕ) → f (slice_get (set held n new) m) ≡ f (slice_get held m)
  same_place f same m = by_node (m == n) refl
    where
      by_node : (t : Bool) → (m == n) ≡ t → f (slice_get (set held n new) m) ≡ f (slice_get held m)
      by_node true e = let at : m ≡ n = eqb-true m n e in rw at (here f ∙ same ∙ sym (before f))
      by_node false e = there f m (eqb-false m n e)

  shapes : new.pass ≡ continuing old.pass new.pass → (m : ℕ) → shape_in (slice_get (set held n new) m) ≡ shape_in (slice_get held m)
  shapes same = same_place shape_in (ap (λ (p : PassState). p.shape) same)

  batches_elsewhere : (c d m : ℕ) → ((d ≢ c) → batch_of new d ≡ batch_of old d) → ((d ≡ c) × (m ≡ n) → ⊥) → batch_in d (slice_get (set held n new) m) ≡ batch_in d (slice_get held m)
  batches_elsewhere c d m others not-both = by_node (m == n) refl
    where
      by_node : (t : Bool) → (m == n) ≡ t → batch_in d (slice_get (set held n new) m) ≡ batch_in d (slice_get held m)
      by_node true e =
          let at : m ≡ n = eqb-true m n e in
          rw at (here (batch_in d) ∙ others (λ same. not-both (same, at)) ∙ sym (before (batch_in d)))
      by_node false e = there (batch_in d) m (eqb-false m n e)

  pub acts_moves : (c : ℕ) (others own : List Event) (after : Option Open) → Acts c old new others own after → Moves c n (fronts_of callers first end held) (fronts_of callers first end (set held n new)) others own after
  acts_moves c others own after a = record {
    same = record {
      cells = map_set held n old new is (ap (λ (p : PassState). p.cell) a.pass);
      nodes = length-set_same held n new;
      shape = λ i m. shapes a.pass m i;
      callers = refl;
      first = refl;
      end = refl;
    };
    by_others = rw (of.first_is, of.end_is) at a.by_others;
    by_caller = a.by_caller;
    front = here front_in ∙ a.front ∙ ap (λ h. h ++ others ++ own) (sym (before front_in));
    elsewhere = λ m other. there front_in m other;
    legal = λ legal. rw (here front_in, before shape_in) (a.legal (rw (before shape_in, before front_in) at legal));
    batch = here (batch_in c) ∙ a.batch;
    other_batches = λ d m not-both. batches_elsewhere c d m (a.other_batches d) not-both;
  }

  pub answered_by : (c : ℕ) (step : Step) (answer : Reaction) → HeldAnswered c step old new answer → Answered c n step (fronts_of callers first end held) (fronts_of callers first end (set held n new)) answer
  answered_by c step answer h = record {
    others = h.others;
    own = h.own;
    after = h.after;
    moves = acts_moves c h.others h.own h.after h.acts;
    does = rw (before shape_in, before front_in, before (batch_in c)) h.does;
  }

  pub out_of_by : (c : ℕ) (step : Step) → HeldOutOf c step old new → OutOf c n step (fronts_of callers first end held) (fronts_of callers first end (set held n new))
  out_of_by c step h = record {
    others = h.others;
    moves = rw (before (batch_in c)) (acts_moves c h.others [] (batch_of old c) h.acts);
    allowed = rw (before shape_in, before front_in) h.allowed;
    needs = rw (before shape_in, before front_in, before (batch_in c)) h.needs;
  }

  pub busy_by : IsHeldBusy old new → IsStepBusy (fronts_of callers first end held) (fronts_of callers first end (set held n new))
  busy_by busy = record {
    same = λ i. record {
      cells = map_set held n old new is (ap cell_in busy.same) i;
      nodes = length-set_same held n new i;
      shape = λ m. same_place shape_in (ap (λ (h : Held). shape_in (Some h)) busy.same) m i;
      front = λ m. same_place front_in (ap (λ (h : Held). front_in (Some h)) busy.same) m i;
      callers = callers;
      first = first;
      end = end;
      batches = λ c m. same_place (batch_in c) (ap (λ (h : Held). batch_in c (Some h)) busy.same) m i;
    };
    shared = λ all. busy.shared (record { from = of.first_is ∙ all.low; to = of.end_is ∙ all.high ∙ sym of.callers_are });
  }

  pub step_done : (c : ℕ) (step : Step) (r : Result Reply CellFault) → HeldDone c step old new r → StepDone c n step (fronts_of callers first end held) (fronts_of callers first end (set held n new)) r
  step_done c step (Ok reply) d = answered_by c step (Ok reply) d
  step_done c step (Err Busy) d = busy_by d
  step_done c step (Err (Refused OutOfMemory)) d = out_of_by c step d
  step_done c step (Err (Refused why)) d = answered_by c step (Err why) d

-- each step goes on
pub goes_done : (c n : ℕ) (step : Step) (old new : Fronts) (r : Result Reply CellFault) → StepDone c n step old new r → Goes c old new
goes_done c n step old new (Ok reply) d = moves_goes c n old new d.others d.own d.after d.moves
goes_done c n step old new (Err Busy) d = rw d.same (goes_refl c old)
goes_done c n step old new (Err (Refused OutOfMemory)) d = moves_goes c n old new d.others [] (old.batches c n) d.moves
goes_done c n step old new (Err (Refused why)) d = moves_goes c n old new d.others d.own d.after d.moves

-- and a step of the pass at this place
pub held_made : {callers first end : ℕ} {held : List Held} {h : Passes} (c n : ℕ) (step : Step) (old new : Held) (r : Result Reply CellFault) → h ≡ record { callers = callers; first = first; end = end; held = held } → n < length h.held → old ≡ get_or held n old → HeldDone c step old new r
    → (a b : Held) → slice_get h.held n ≡ Some a → slice_get (set held n new) n ≡ Some b → HeldDone c step a b r
held_made {callers} {first} {end} {held} {h} c n step old new r view lt value done a b is at =
    let here = slice_get_read held (length held) n old refl (rw view at lt) value in
    let within : n < length held = slice_get_within held n old here in
    subst (λ (x : Held). HeldDone c step x b r) (inner old a (sym here ∙ (rw view at is)))
    (subst (λ (x : Held). HeldDone c step old x r) (inner new b (sym (slice_get-set_same held n new within) ∙ at)) done)
  where
    inner : (x y : Held) → Some x ≡ Some y → x ≡ y
    inner x y e = cc

-- a step of one node's pass is a step of the passes of all
pub step_made : {callers first end : ℕ} {held : List Held} {h : Passes} (c n : ℕ) (step : Step) (old new : Held) (r : Result Reply CellFault) → h ≡ record { callers = callers; first = first; end = end; held = held } → Agree callers first end held → n < length h.held → old ≡ get_or held n old → HeldDone c step old new r
    → Agree callers first end (set held n new) × StepDone c n step (fronts_in h) (fronts_of callers first end (set held n new)) r × Goes c (fronts_in h) (fronts_of callers first end (set held n new))
step_made {callers} {first} {end} {held} {h} c n step old new r view agree lt value done =
    let is = slice_get_read held (length held) n old refl (rw view at lt) value in
    let made = step_done callers first end held n old new is (agree.each n old is) c step r done in
    rw view (agree_after callers first end held n old new agree is (done_same c step old new r done), made, goes_done c n step (fronts_of callers first end held) (fronts_of callers first end (set held n new)) r made)
