-- Two runs of a script whose workers keep to nodes of their own are the same but for blocks.
use Rattle.std.proofs.Common.{◌≡◌, ◌<◌, ◌≤◌, ◌+◌, ◌⊎◌, inl, inr, ℕ, zero, suc, Bool, true, false, cond, nat_eq, get_or, List, [], ◌∷◌, ◌++◌, take, length, Some, refl, ap, sym, subst, ◌∙◌, arith, All, slice_get, take_all}
use Rattle.std.specs.List.{AllByRecursion, AllZip}
use Rattle.std.proofs.Math.Seq.{take-append_seam}
use Rattle.std.proofs.lemmas.Bool.{cases_lt, eq-eqb, eqb-true, ne_eqb}
use Rattle.std.proofs.lemmas.List.Elements.{All-from_recursion, All-nil, recursion_from_All}
use Rattle.thp_history.specs.declared.events.Event.{Event}
use Rattle.thp_history.specs.declared.shape.Shape.{Shape}
use Rattle.thp_history.specs.Prelude.{SameButBlocks, History, events_of}
use Rattle.thp_script.specs.declared.script.Command.{Command}
use Rattle.thp_script.specs.declared.script.ScriptSections.{ScriptSections}
use Rattle.thp_worker.specs.declared.reply.Answer.{Answer}
use Rattle.thp_worker.specs.declared.reply.SectionLog.{SectionLog}
use Rattle.thp_worker.specs.Prelude.{Made, steps_of}
use Rattle.thp_run.specs.Runs.{IsAnswered, IsRun, IsSection, no_batches, sections_of}
use Rattle.thp_laws.specs.OneRun.{AreApart, HasOneWorker, IsSameSection, OneWorkerHasOneRun, WorkersApartHaveOneRun}
use Rattle.thp_laws.proofs.SameSections.{none_elsewhere, same_answers, same_nodes, section_among, section_walk}
use Rattle.thp_laws.proofs.SideBySide.{Pair}
use Rattle.thp_laws.proofs.Walks.{IsWithin}

-- there is an element at each place
pub some_at : {A : Type 0} (xs : List A) (k : ℕ) → k < length xs → (x : A) × (slice_get xs k ≡ Some x)
some_at [] k lt = absurd (omega (arith, lt))
some_at (x ∷ xs) zero lt = (x, refl)
some_at (x ∷ xs) (suc k) lt = some_at xs k (omega (arith, lt))

-- and at no other
pub place_of : {A : Type 0} (xs : List A) (k : ℕ) (x : A) → slice_get xs k ≡ Some x → k < length xs
place_of [] k x e = absurd cc
place_of (y ∷ xs) zero x e = omega arith
place_of (y ∷ xs) (suc k) x e = let lt = place_of xs k x e in omega arith

-- ---- who did the events of a history

-- nobody beyond this caller did anything
pub beyond : (most c : ℕ) (h : History) → most < c → AllByRecursion (λ (e : Event). e.caller ≤ most) h → events_of c h ≡ []
unfolding events_of
beyond most c [] lt all = refl
beyond most c (e ∷ es) lt all = let low = all.0 in rw (ne_eqb e.caller c (λ same. absurd (omega (arith, same, low, lt)))) (beyond most c es lt all.1)

-- who did nothing did nothing later
idle_later : (k : ℕ) (e : Event) (es : History) → events_of k (e ∷ es) ≡ [] → events_of k es ≡ []
unfolding events_of
idle_later k e es none = grind (arith, nat_eq)

-- where nobody else does anything the events are those of setup and of caller c
sole_events : (c : ℕ) (h : History) → 0 < c → ((k : ℕ) → 0 < k → (k ≡ c → ⊥) → events_of k h ≡ []) → length (events_of 0 h) + length (events_of c h) ≡ length h
unfolding events_of
sole_events c [] some idle = refl
sole_events c (e ∷ es) some idle =
    go (nat_eq e.caller 0) (nat_eq e.caller c) refl refl (sole_events c es some (λ k positive other. idle_later k e es (idle k positive other))) where
      go : (a b : Bool) → nat_eq e.caller 0 ≡ a → nat_eq e.caller c ≡ b → length (events_of 0 es) + length (events_of c es) ≡ length es →
          length (cond a (e ∷ events_of 0 es) (events_of 0 es)) + length (cond b (e ∷ events_of c es) (events_of c es)) ≡ suc (length es)
      go true true zero_is is both =
          let first = eqb-true e.caller 0 zero_is in
          let same = eqb-true e.caller c is in
          absurd (omega (arith, first, same, some))
      go true false zero_is is both = omega (arith, both)
      go false true zero_is is both = omega (arith, both)
      go false false zero_is is both =
          let none = idle e.caller (positive (cases_lt 0 e.caller)) (λ same. let yes = eq-eqb e.caller c same in absurd cc) in
          let own = eq-eqb e.caller e.caller refl in
          let kept = rw own at none in
          absurd cc
        where
          positive : (0 < e.caller) ⊎ (e.caller ≤ 0) → 0 < e.caller
          positive (inl lt) = lt
          positive (inr le) = let yes = eq-eqb e.caller 0 (omega (arith, le)) in absurd cc

-- ---- one run

module _ (nodes : ℕ) (shape : ℕ → Shape) (script : ScriptSections) (h : ℕ → History) (sections : List SectionLog) (r : IsRun nodes shape script h sections) where
  -- each section of the script was done
  pub answered : (k : ℕ) (commands : List Command) → slice_get (sections_of script) k ≡ Some commands → (section : SectionLog) × IsAnswered nodes shape h k commands section
  answered k commands at =
      let place = place_of (sections_of script) k commands at in
      let count = r.count in
      let there = some_at sections k (omega (arith, place, count)) in
      (there.0, r.each k commands there.0 at there.1)

  -- the events of setup come first
  pub setup_front : (n : ℕ) → take (length (events_of 0 (h n))) (h n) ≡ events_of 0 (h n)
  setup_front n = ap (take (length (events_of 0 (h n)))) (r.setup_first n).1 ∙ take-append_seam (events_of 0 (h n)) (r.setup_first n).0

  -- on a node nobody but its owner does anything after setup
  idle : (owner : ℕ → ℕ) → ((k : ℕ) (commands : List Command) → slice_get script.workers k ≡ Some commands → All (λ (command : Command). owner command.node ≡ k) commands) →
      (n k : ℕ) → 0 < k → (k ≡ suc (owner n) → ⊥) → events_of k (h n) ≡ []
  idle owner apart n zero positive other = absurd (omega (arith, positive))
  idle owner apart n (suc k) positive other = go (cases_lt k (length script.workers)) where
    go : (k < length script.workers) ⊎ (length script.workers ≤ k) → events_of (suc k) (h n) ≡ []
    go (inl lt) =
        let there = some_at script.workers k lt in
        let section = answered (suc k) there.0 there.1 in
        let done : IsSection nodes shape h (suc k) there.0 section.0.answers.items = section.1.done in
        let on = section_among (λ i. owner i ≡ k) nodes shape h (suc k) there.0 section.0.answers.items done (recursion_from_All _ there.0 (apart k there.0 there.1)) in
        done.whole n ∙ none_elsewhere (λ i. owner i ≡ k) n (steps_of (done.turns ++ done.closed)) on (λ same. other (ap suc (sym same)))
    go (inr le) = beyond (length script.workers) (suc k) (h n) (omega (arith, le)) (recursion_from_All _ (h n) (r.nobody_else n))

  -- so all events of a node are those of setup and of its owner
  pub sole : (owner : ℕ → ℕ) → ((k : ℕ) (commands : List Command) → slice_get script.workers k ≡ Some commands → All (λ (command : Command). owner command.node ≡ k) commands) →
      (w n : ℕ) → owner n ≡ w → length (events_of 0 (h n)) + length (events_of (suc w) (h n)) ≡ length (h n)
  sole owner apart w n own = sole_events (suc w) (h n) (omega arith) (λ k positive other. idle owner apart n k positive (λ same. other (same ∙ ap suc own)))

-- ---- two runs

module _ (nodes : ℕ) (shape : ℕ → Shape) (script : ScriptSections) (h k : ℕ → History) (sections others : List SectionLog) (r : IsRun nodes shape script h sections) (t : IsRun nodes shape script k others) where
  -- setups go side by side
  setups : (xs ys : List Answer) (s : IsSection nodes shape h 0 script.setup xs) (u : IsSection nodes shape k 0 script.setup ys) →
      Pair shape h k 0 (λ n. length (events_of 0 (h n))) (λ n. length (events_of 0 (k n))) no_batches no_batches (steps_of (s.turns ++ s.closed)) (steps_of (u.turns ++ u.closed))
  setups xs ys s u = record {
    front = λ n. [];
    other = λ n. [];
    ours = section_walk nodes shape h 0 script.setup xs s (λ n. length (events_of 0 (h n))) (λ n. []) r.legal (λ i d lt. omega arith) (s.within_setup refl) (λ n. omega arith) (λ n. refl);
    theirs = section_walk nodes shape k 0 script.setup ys u (λ n. length (events_of 0 (k n))) (λ n. []) t.legal (λ i d lt. omega arith) (u.within_setup refl) (λ n. omega arith) (λ n. refl);
    same = λ n. refl;
    opens = λ n. refl;
  }

  -- and do the same
  setup_alike : (n : ℕ) → SameButBlocks (events_of 0 (h n)) (events_of 0 (k n))
  setup_alike n =
      let ours = answered nodes shape script h sections r 0 script.setup refl in
      let theirs = answered nodes shape script k others t 0 script.setup refl in
      let same = same_nodes nodes shape h k 0 (λ n. length (events_of 0 (h n))) (λ n. length (events_of 0 (k n))) script.setup ours.0.answers.items theirs.0.answers.items ours.1.done theirs.1.done
      (setups ours.0.answers.items theirs.0.answers.items ours.1.done theirs.1.done) n in
      subst (λ x. SameButBlocks x (events_of 0 (k n))) (setup_front nodes shape script h sections r n) (subst (SameButBlocks (take (length (events_of 0 (h n))) (h n))) (setup_front nodes shape script k others t n) same)

  module _ (owner : ℕ → ℕ) (apart : (i : ℕ) (commands : List Command) → slice_get script.workers i ≡ Some commands → All (λ (command : Command). owner command.node ≡ i) commands) (w : ℕ) (commands : List Command)
      (at : slice_get script.workers w ≡ Some commands) (xs ys : List Answer) (s : IsSection nodes shape h (suc w) commands xs) (u : IsSection nodes shape k (suc w) commands ys) where
    -- a section ends on its nodes with the whole history, and on others with setup
    ours_within : All (IsWithin (λ n. length (events_of 0 (h n)) + length (events_of (suc w) (h n)))) (steps_of (s.turns ++ s.closed))
    ours_within i d lt =
        let on = All-from_recursion (λ (m : Made). owner m.node ≡ w) (steps_of (s.turns ++ s.closed)) (section_among (λ n. owner n ≡ w) nodes shape h (suc w) commands xs s (recursion_from_All _ commands (apart w commands at))) i d lt in
        let made = s.stand i d lt in
        let all = sole nodes shape script h sections r owner apart w (get_or (steps_of (s.turns ++ s.closed)) i d).node on in
        omega (arith, made.within, all)

    theirs_within : All (IsWithin (λ n. length (events_of 0 (k n)) + length (events_of (suc w) (k n)))) (steps_of (u.turns ++ u.closed))
    theirs_within i d lt =
        let on = All-from_recursion (λ (m : Made). owner m.node ≡ w) (steps_of (u.turns ++ u.closed)) (section_among (λ n. owner n ≡ w) nodes shape k (suc w) commands ys u (recursion_from_All _ commands (apart w commands at))) i d lt in
        let made = u.stand i d lt in
        let all = sole nodes shape script k others t owner apart w (get_or (steps_of (u.turns ++ u.closed)) i d).node on in
        omega (arith, made.within, all)

    -- the sections of a worker go side by side
    workers : Pair shape h k (suc w) (λ n. length (events_of 0 (h n)) + length (events_of (suc w) (h n))) (λ n. length (events_of 0 (k n)) + length (events_of (suc w) (k n)))
        no_batches no_batches (steps_of (s.turns ++ s.closed)) (steps_of (u.turns ++ u.closed))
    workers = record {
      front = λ n. events_of 0 (h n);
      other = λ n. events_of 0 (k n);
      ours = section_walk nodes shape h (suc w) commands xs s (λ n. length (events_of 0 (h n)) + length (events_of (suc w) (h n))) (λ n. events_of 0 (h n)) r.legal (s.after_setup (omega arith)) ours_within
          (λ n. refl) (setup_front nodes shape script h sections r);
      theirs = section_walk nodes shape k (suc w) commands ys u (λ n. length (events_of 0 (k n)) + length (events_of (suc w) (k n))) (λ n. events_of 0 (k n)) t.legal (u.after_setup (omega arith)) theirs_within
          (λ n. refl) (setup_front nodes shape script k others t);
      same = setup_alike;
      opens = λ n. refl;
    }

    -- have the same answers
    worker_answers : xs ≡ ys
    worker_answers =
        same_answers nodes shape h k (suc w) (λ n. length (events_of 0 (h n)) + length (events_of (suc w) (h n))) (λ n. length (events_of 0 (k n)) + length (events_of (suc w) (k n))) commands xs ys s u workers

    -- and do the same on the worker's nodes
    whole_alike : (n : ℕ) → owner n ≡ w → SameButBlocks (h n) (k n)
    whole_alike n own =
        let ours = sole nodes shape script h sections r owner apart w n own in
        let theirs = sole nodes shape script k others t owner apart w n own in
        let same = same_nodes nodes shape h k (suc w) (λ n. length (events_of 0 (h n)) + length (events_of (suc w) (h n))) (λ n. length (events_of 0 (k n)) + length (events_of (suc w) (k n))) commands xs ys s u workers n in
        subst (λ x. SameButBlocks x (k n)) (take_all (length (events_of 0 (h n)) + length (events_of (suc w) (h n))) (h n) (omega (arith, ours)))
        (subst (SameButBlocks (take (length (events_of 0 (h n)) + length (events_of (suc w) (h n))) (h n))) (take_all (length (events_of 0 (k n)) + length (events_of (suc w) (k n))) (k n) (omega (arith, theirs))) same)

-- a history of setup alone
setup_is_all : (h : History) → take (length (events_of 0 h)) h ≡ events_of 0 h → length (events_of 0 h) ≡ length h → events_of 0 h ≡ h
setup_is_all h front full = sym front ∙ take_all (length (events_of 0 h)) h (omega (arith, full))

-- sections with the same answers, one by one
same_each : (scripts : List (List Command)) (xs ys : List SectionLog) → length xs ≡ length scripts → length ys ≡ length scripts →
    ((k : ℕ) (commands : List Command) (x y : SectionLog) → slice_get scripts k ≡ Some commands → slice_get xs k ≡ Some x → slice_get ys k ≡ Some y → IsSameSection x y) → AllZip IsSameSection xs ys
same_each scripts [] [] e f each = tt
same_each scripts [] (y ∷ ys) e f each = absurd (omega (arith, e, f))
same_each scripts (x ∷ xs) [] e f each = absurd (omega (arith, e, f))
same_each [] (x ∷ xs) (y ∷ ys) e f each = absurd (omega (arith, e))
same_each (s ∷ scripts) (x ∷ xs) (y ∷ ys) e f each = (
  each 0 s x y refl refl refl,
  same_each scripts xs ys (omega (arith, e)) (omega (arith, f)) (λ k commands a b at here there. each (suc k) commands a b at here there),
)

-- a script whose workers keep to nodes of their own has one run
pub one_run : WorkersApartHaveOneRun
one_run nodes shape script h k sections others (owner, apart) r t = record {
  histories = λ n. by_place n (cases_lt (owner n) (length script.workers));
  answers = same_each (sections_of script) sections others r.count t.count alike;
} where
  by_place : (n : ℕ) → (owner n < length script.workers) ⊎ (length script.workers ≤ owner n) → SameButBlocks (h n) (k n)
  by_place n (inl lt) =
      let there = some_at script.workers (owner n) lt in
      let one = answered nodes shape script h sections r (suc (owner n)) there.0 there.1 in
      let other = answered nodes shape script k others t (suc (owner n)) there.0 there.1 in
      whole_alike nodes shape script h k sections others r t owner apart (owner n) there.0 there.1 one.0.answers.items other.0.answers.items one.1.done other.1.done n refl
  by_place n (inr le) =
      let here = full (h n) (sole nodes shape script h sections r owner apart (owner n) n refl) (beyond (length script.workers) (suc (owner n)) (h n) (omega (arith, le)) (recursion_from_All _ (h n) (r.nobody_else n))) in
      let there = full (k n) (sole nodes shape script k others t owner apart (owner n) n refl) (beyond (length script.workers) (suc (owner n)) (k n) (omega (arith, le)) (recursion_from_All _ (k n) (t.nobody_else n))) in
      subst (λ x. SameButBlocks x (k n)) (setup_is_all (h n) (setup_front nodes shape script h sections r n) here)
      (subst (SameButBlocks (events_of 0 (h n))) (setup_is_all (k n) (setup_front nodes shape script k others t n) there) (setup_alike nodes shape script h k sections others r t n))
    where
      full : (h : History) → length (events_of 0 h) + length (events_of (suc (owner n)) h) ≡ length h → events_of (suc (owner n)) h ≡ [] → length (events_of 0 h) ≡ length h
      full h both nothing = let empty : length (events_of (suc (owner n)) h) ≡ 0 = ap length nothing in omega (arith, both, empty)

  alike : (i : ℕ) (commands : List Command) (x y : SectionLog) → slice_get (sections_of script) i ≡ Some commands → slice_get sections i ≡ Some x → slice_get others i ≡ Some y → IsSameSection x y
  alike i commands x y at here there =
      let one = r.each i commands x at here in
      let other = t.each i commands y at there in
      record { number = one.number ∙ sym other.number; answers = by_section i commands x y at one.done other.done }
    where
      by_section : (i : ℕ) (commands : List Command) (x y : SectionLog) → slice_get (sections_of script) i ≡ Some commands → IsSection nodes shape h i commands x.answers.items → IsSection nodes shape k i commands y.answers.items → x.answers.items ≡ y.answers.items
      by_section zero commands x y at s u =
          let same : commands ≡ script.setup = cc in
          let one : IsSection nodes shape h 0 script.setup x.answers.items = subst (λ cs. IsSection nodes shape h 0 cs x.answers.items) same s in
          let other : IsSection nodes shape k 0 script.setup y.answers.items = subst (λ cs. IsSection nodes shape k 0 cs y.answers.items) same u in
          same_answers nodes shape h k 0 (λ n. length (events_of 0 (h n))) (λ n. length (events_of 0 (k n))) script.setup x.answers.items y.answers.items one other
          (setups nodes shape script h k sections others r t x.answers.items y.answers.items one other)
      by_section (suc i) commands x y at s u = worker_answers nodes shape script h k sections others r t owner apart i commands at x.answers.items y.answers.items s u

-- one worker keeps to nodes of its own
pub one_is_apart : (script : ScriptSections) → HasOneWorker script → AreApart script
one_is_apart script (sole, none) = (λ n. sole, λ k commands at. go k commands at (nat_eq k sole) refl) where
  go : (k : ℕ) (commands : List Command) → slice_get script.workers k ≡ Some commands → (b : Bool) → nat_eq k sole ≡ b → All (λ (command : Command). sole ≡ k) commands
  go k commands at true e = λ i d lt. sym (eqb-true k sole e)
  go k commands at false e =
      let empty : commands ≡ [] = none k commands at (λ same. let yes = eq-eqb k sole same in absurd cc) in
      subst (All (λ (command : Command). sole ≡ k)) (sym empty) (All-nil (λ (command : Command). sole ≡ k))

-- so a script in which one worker at most has commands has one run
pub one_worker : OneWorkerHasOneRun
one_worker nodes shape script h k sections others sole = one_run nodes shape script h k sections others (one_is_apart script sole)
