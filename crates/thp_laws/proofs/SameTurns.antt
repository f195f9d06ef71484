-- Two runs of one caller's commands, side by side: the same commands are the same steps, and have the same answers.
use Rattle.std.proofs.Common.{◌≡◌, ◌+◌, ℕ, List, [], ◌∷◌, ◌++◌, map, ◌⊎◌, inl, inr, append_assoc, Option, Ok, Err, refl, ap, ap₂, sym, subst, ◌∙◌, All}
use Rattle.std.specs.List.{AllByRecursion}
use Rattle.std.proofs.lemmas.List.Elements.{recursion_from_All}
use Rattle.thp_history.specs.declared.shape.Shape.{Shape}
use Rattle.thp_history.specs.Prelude.{History}
use Rattle.thp_node.specs.declared.answers.BackReply.{BackReply}
use Rattle.thp_node.specs.declared.answers.Tried.{Tried}
use Rattle.thp_node.specs.declared.answers.Tried.TheVariants as tried
use Rattle.thp_script.specs.declared.script.Command.{Command}
use Rattle.thp_script.specs.declared.script.Op.{Op}
use Rattle.thp_script.specs.declared.script.Op.TheVariants as op
use Rattle.thp_worker.specs.declared.reply.Answer.{Answer}
use Rattle.thp_worker.specs.declared.reply.Reply.TheVariants as reply
use Rattle.thp_worker.specs.declared.steps.Step.TheVariants.{Take}
use Rattle.thp_worker.specs.Prelude.{Open, Reaction, IsTurn, Made, Turn, answers_from, batches_after, turn_command, steps_of, step_results, with_batch, FoundPage, ScanDone, ScanRefused, StepAnswer, TurnsOut, counted, first_step, answered_put_back, took, answered_try}
use Rattle.thp_worker.proofs.StepLaws.{batches_after-append}
use Rattle.thp_laws.proofs.SideBySide.{Pair, next_alike, pair_on}

-- a step on node n
abbrev pub IsOn : ℕ → Made → Type 0
IsOn n m = m.node ≡ n

-- what the steps of a scan behind its take are
abbrev pub tries_reported : List Tried → BackReply → List StepAnswer
tries_reported tries back = map answered_try tries ++ answered_try tried.Done ∷ [] ++ answered_put_back back ∷ []

-- what a scan answers
abbrev scan_answer : ℕ → List Tried → BackReply → Reaction
scan_answer taken tries back = Ok (reply.Scan (record (counted taken tries) { back = back.back; dropped = back.dropped }))

-- the same take, tries and put-back have the same answer
same_scan : (taken other : ℕ) (tries others : List Tried) (back last : BackReply) → taken ≡ other → tries ≡ others → back ≡ last → scan_answer taken tries back ≡ scan_answer other others last
same_scan taken other tries others back last e f g = ap₂ (λ n ts. scan_answer n ts back) e f ∙ ap (scan_answer other others) g

-- a number that was taken, a try and a put-back are what they were answered
same_taken : (n m : ℕ) → (took 0 n).answer ≡ (took 0 m).answer → n ≡ m
same_taken n m e = cc

same_try : (t u : Tried) → (answered_try t).answer ≡ (answered_try u).answer → t ≡ u
same_try t u e = cc

same_back : (b d : BackReply) → (answered_put_back b).answer ≡ (answered_put_back d).answer → b ≡ d
same_back b d e = cc

-- the first of some steps
pub first_reported : (m : Made) (xs : List Made) (x : StepAnswer) (ts : List StepAnswer) → step_results (m ∷ xs) ≡ x ∷ ts → (m.reported ≡ x) × (step_results xs ≡ ts)
first_reported m xs x ts e = (cc, cc)

-- some steps aren't none
pub none_reported : (x : StepAnswer) (ts : List StepAnswer) → step_results [] ≡ x ∷ ts → ⊥
none_reported x ts e = cc

-- and more than one aren't one
pub more_reported : (m l : Made) (xs : List Made) (x : StepAnswer) → step_results (m ∷ l ∷ xs) ≡ x ∷ [] → ⊥
more_reported m l xs x e = cc

module _ (shape : ℕ → Shape) (h k : ℕ → History) (c : ℕ) (limit bound : ℕ → ℕ) where
  -- the next step of both
  next : (bs os : ℕ → Option Open) (m q : Made) (ms ks : List Made) (x y : StepAnswer) → m.node ≡ q.node → m.reported ≡ x → q.reported ≡ y → x.step ≡ y.step → Pair shape h k c limit bound bs os (m ∷ ms) (q ∷ ks) →
      (x.answer ≡ y.answer) × Pair shape h k c limit bound (with_batch bs m.node m.after) (with_batch os q.node q.after) ms ks
  next bs os m q ms ks x y at e f s p =
      let step : m.reported.step ≡ q.reported.step = ap (λ (t : StepAnswer). t.step) e ∙ s ∙ sym (ap (λ (t : StepAnswer). t.step) f) in (
        sym (ap (λ (t : StepAnswer). t.answer) e) ∙ (next_alike shape h k c limit bound bs os m q ms ks p at step).answers ∙ ap (λ (t : StepAnswer). t.answer) f,
        pair_on shape h k c limit bound bs os m q ms ks p at step,
      )

  -- a command of one step
  once : (n : ℕ) (bs os : ℕ → Option Open) (xs ys ms ks : List Made) (x y : StepAnswer) → AllByRecursion (IsOn n) xs → AllByRecursion (IsOn n) ys → step_results xs ≡ x ∷ [] → step_results ys ≡ y ∷ [] → x.step ≡ y.step →
      Pair shape h k c limit bound bs os (xs ++ ms) (ys ++ ks) → (x.answer ≡ y.answer) × Pair shape h k c limit bound (batches_after bs xs) (batches_after os ys) ms ks
  unfolding batches_after
  once n bs os [] ys ms ks x y on at e f s p = absurd (none_reported x [] e)
  once n bs os (m ∷ xs) [] ms ks x y on at e f s p = absurd (none_reported y [] f)
  once n bs os (m ∷ []) (q ∷ []) ms ks x y on at e f s p = next bs os m q ms ks x y (on.0 ∙ sym at.0) (first_reported m [] x [] e).0 (first_reported q [] y [] f).0 s p
  once n bs os (m ∷ []) (q ∷ r ∷ ys) ms ks x y on at e f s p = absurd (more_reported q r ys y f)
  once n bs os (m ∷ l ∷ xs) (q ∷ ys) ms ks x y on at e f s p = absurd (more_reported m l xs x e)

  -- the tries of a scan and its put-back
  tries : (n : ℕ) (bs os : ℕ → Option Open) (xs ys ms ks : List Made) (ts us : List Tried) (b d : BackReply) → AllByRecursion (IsOn n) xs → AllByRecursion (IsOn n) ys → AllByRecursion FoundPage ts → AllByRecursion FoundPage us →
      step_results xs ≡ tries_reported ts b → step_results ys ≡ tries_reported us d → Pair shape h k c limit bound bs os (xs ++ ms) (ys ++ ks) →
      ((ts ≡ us) × (b ≡ d)) × Pair shape h k c limit bound (batches_after bs xs) (batches_after os ys) ms ks
  unfolding batches_after
  tries n bs os [] ys ms ks [] us b d on at pages found e f p = absurd (none_reported _ _ e)
  tries n bs os [] ys ms ks (t ∷ ts) us b d on at pages found e f p = absurd (none_reported _ _ e)
  tries n bs os (m ∷ xs) [] ms ks ts [] b d on at pages found e f p = absurd (none_reported _ _ f)
  tries n bs os (m ∷ xs) [] ms ks ts (u ∷ us) b d on at pages found e f p = absurd (none_reported _ _ f)
  tries n bs os (m ∷ xs) (q ∷ ys) ms ks [] [] b d on at pages found e f p =
      let ours = first_reported m xs (answered_try tried.Done) (answered_put_back b ∷ []) e in
      let theirs = first_reported q ys (answered_try tried.Done) (answered_put_back d ∷ []) f in
      let done = next bs os m q (xs ++ ms) (ys ++ ks) (answered_try tried.Done) (answered_try tried.Done) (on.0 ∙ sym at.0) ours.0 theirs.0 refl p in
      let last = once n (with_batch bs m.node m.after) (with_batch os q.node q.after) xs ys ms ks (answered_put_back b) (answered_put_back d) on.1 at.1 ours.1 theirs.1 refl done.1 in
      ((refl, same_back b d last.0), last.1)
  tries n bs os (m ∷ xs) (q ∷ ys) ms ks [] (u ∷ us) b d on at pages found e f p =
      let ours = first_reported m xs (answered_try tried.Done) (answered_put_back b ∷ []) e in
      let theirs = first_reported q ys (answered_try u) (tries_reported us d) f in
      let done = next bs os m q (xs ++ ms) (ys ++ ks) (answered_try tried.Done) (answered_try u) (on.0 ∙ sym at.0) ours.0 theirs.0 refl p in
      absurd (subst FoundPage (sym (same_try tried.Done u done.0)) found.0)
  tries n bs os (m ∷ xs) (q ∷ ys) ms ks (t ∷ ts) [] b d on at pages found e f p =
      let ours = first_reported m xs (answered_try t) (tries_reported ts b) e in
      let theirs = first_reported q ys (answered_try tried.Done) (answered_put_back d ∷ []) f in
      let done = next bs os m q (xs ++ ms) (ys ++ ks) (answered_try t) (answered_try tried.Done) (on.0 ∙ sym at.0) ours.0 theirs.0 refl p in
      absurd (subst FoundPage (same_try t tried.Done done.0) pages.0)
  tries n bs os (m ∷ xs) (q ∷ ys) ms ks (t ∷ ts) (u ∷ us) b d on at pages found e f p =
      let ours = first_reported m xs (answered_try t) (tries_reported ts b) e in
      let theirs = first_reported q ys (answered_try u) (tries_reported us d) f in
      let done = next bs os m q (xs ++ ms) (ys ++ ks) (answered_try t) (answered_try u) (on.0 ∙ sym at.0) ours.0 theirs.0 refl p in
      let rest = tries n (with_batch bs m.node m.after) (with_batch os q.node q.after) xs ys ms ks ts us b d on.1 at.1 pages.1 found.1 ours.1 theirs.1 done.1 in
      ((ap₂ (λ v vs. v ∷ vs) (same_try t u done.0) rest.0.0, rest.0.1), rest.1)

  -- a scan, by its first step
  scan : (n count : ℕ) (bs os : ℕ → Option Open) (xs ys ms ks : List Made) (answer reported : Reaction) → AllByRecursion (IsOn n) xs → AllByRecursion (IsOn n) ys →
      ScanDone count (step_results xs) answer ⊎ ScanRefused count (step_results xs) answer → ScanDone count (step_results ys) reported ⊎ ScanRefused count (step_results ys) reported →
      Pair shape h k c limit bound bs os (xs ++ ms) (ys ++ ks) → (answer ≡ reported) × Pair shape h k c limit bound (batches_after bs xs) (batches_after os ys) ms ks
  unfolding batches_after
  scan n count bs os [] ys ms ks answer reported on at (inl a) b p = absurd (none_reported _ _ a.steps)
  scan n count bs os [] ys ms ks answer reported on at (inr a) b p = absurd (none_reported _ _ a.steps)
  scan n count bs os (m ∷ xs) [] ms ks answer reported on at a (inl b) p = absurd (none_reported _ _ b.steps)
  scan n count bs os (m ∷ xs) [] ms ks answer reported on at a (inr b) p = absurd (none_reported _ _ b.steps)
  scan n count bs os (m ∷ xs) (q ∷ ys) ms ks answer reported on at (inl a) (inl b) p =
      let ours = first_reported m xs (took count a.taken) (tries_reported a.tries a.back) a.steps in
      let theirs = first_reported q ys (took count b.taken) (tries_reported b.tries b.back) b.steps in
      let taken = next bs os m q (xs ++ ms) (ys ++ ks) (took count a.taken) (took count b.taken) (on.0 ∙ sym at.0) ours.0 theirs.0 refl p in
      let rest = tries n (with_batch bs m.node m.after) (with_batch os q.node q.after) xs ys ms ks a.tries b.tries a.back b.back on.1 at.1
      (recursion_from_All FoundPage a.tries a.pages) (recursion_from_All FoundPage b.tries b.pages) ours.1 theirs.1 taken.1 in
      (a.answered ∙ same_scan a.taken b.taken a.tries b.tries a.back b.back (same_taken a.taken b.taken taken.0) rest.0.0 rest.0.1 ∙ sym b.answered, rest.1)
  scan n count bs os (m ∷ xs) (q ∷ ys) ms ks answer reported on at (inl a) (inr b) p =
      let ours = first_reported m xs (took count a.taken) (tries_reported a.tries a.back) a.steps in
      let theirs = first_reported q ys (record { step = Take count; answer = Err b.why }) [] b.steps in
      let taken = next bs os m q (xs ++ ms) (ys ++ ks) (took count a.taken) (record { step = Take count; answer = Err b.why }) (on.0 ∙ sym at.0) ours.0 theirs.0 refl p in
      absurd (let e = taken.0 in cc)
  scan n count bs os (m ∷ xs) (q ∷ ys) ms ks answer reported on at (inr a) (inl b) p =
      let ours = first_reported m xs (record { step = Take count; answer = Err a.why }) [] a.steps in
      let theirs = first_reported q ys (took count b.taken) (tries_reported b.tries b.back) b.steps in
      let taken = next bs os m q (xs ++ ms) (ys ++ ks) (record { step = Take count; answer = Err a.why }) (took count b.taken) (on.0 ∙ sym at.0) ours.0 theirs.0 refl p in
      absurd (let e = taken.0 in cc)
  scan n count bs os (m ∷ xs) (q ∷ ys) ms ks answer reported on at (inr a) (inr b) p =
      let refused = once n bs os (m ∷ xs) (q ∷ ys) ms ks (record { step = Take count; answer = Err a.why }) (record { step = Take count; answer = Err b.why }) on at a.steps b.steps refl p in
      (a.answered ∙ refused.0 ∙ sym b.answered, refused.1)

  -- any command
  turns_out : (n : ℕ) (o : Op) (bs os : ℕ → Option Open) (xs ys ms ks : List Made) (answer reported : Reaction) → AllByRecursion (IsOn n) xs → AllByRecursion (IsOn n) ys → TurnsOut o (step_results xs) answer → TurnsOut o (step_results ys) reported →
      Pair shape h k c limit bound bs os (xs ++ ms) (ys ++ ks) → (answer ≡ reported) × Pair shape h k c limit bound (batches_after bs xs) (batches_after os ys) ms ks
  turns_out n (op.Scan count) bs os xs ys ms ks answer reported on at a b p = scan n count bs os xs ys ms ks answer reported on at a b p
  turns_out n o bs os xs ys ms ks answer reported on at a b p = once n bs os xs ys ms ks (record { step = first_step o; answer = answer }) (record { step = first_step o; answer = reported }) on at a b refl p

  -- a turn of both
  turn : (t u : Turn) (bs os : ℕ → Option Open) (ms ks : List Made) → IsTurn t → IsTurn u → t.command ≡ u.command → Pair shape h k c limit bound bs os (t.steps ++ ms) (u.steps ++ ks) →
      (t.answer ≡ u.answer) × Pair shape h k c limit bound (batches_after bs t.steps) (batches_after os u.steps) ms ks
  turn t u bs os ms ks a b e p =
      turns_out t.command.node t.command.op bs os t.steps u.steps ms ks t.answer u.answer (recursion_from_All _ t.steps a.on_node) (recursion_from_All _ u.steps (subst (λ (command : Command). All (λ (m : Made). m.node ≡ command.node) u.steps) (sym e) b.on_node))
      a.turns_out (subst (λ (command : Command). TurnsOut command.op (step_results u.steps) u.answer) (sym e) b.turns_out) p

  -- the turns of both have the same answers
  pub turns_twice : (j : ℕ) (ts us : List Turn) (bs os : ℕ → Option Open) (ms ks : List Made) → AllByRecursion IsTurn ts → AllByRecursion IsTurn us → map turn_command ts ≡ map turn_command us →
      Pair shape h k c limit bound bs os (steps_of ts ++ ms) (steps_of us ++ ks) →
      (answers_from j ts ≡ answers_from j us) × Pair shape h k c limit bound (batches_after bs (steps_of ts)) (batches_after os (steps_of us)) ms ks
  unfolding batches_after
  turns_twice j [] [] bs os ms ks a b e p = (refl, p)
  turns_twice j [] (u ∷ us) bs os ms ks a b e p = absurd cc
  turns_twice j (t ∷ ts) [] bs os ms ks a b e p = absurd cc
  turns_twice j (t ∷ ts) (u ∷ us) bs os ms ks a b e p =
      let same : t.command ≡ u.command = cc in
      let others : map turn_command ts ≡ map turn_command us = cc in
      let whole : Pair shape h k c limit bound bs os (t.steps ++ (steps_of ts ++ ms)) (u.steps ++ (steps_of us ++ ks)) =
      subst (λ xs. Pair shape h k c limit bound bs os xs (u.steps ++ (steps_of us ++ ks))) (append_assoc t.steps (steps_of ts) ms) (subst (Pair shape h k c limit bound bs os ((t.steps ++ steps_of ts) ++ ms)) (append_assoc u.steps (steps_of us) ks) p) in
      let first = turn t u bs os (steps_of ts ++ ms) (steps_of us ++ ks) a.0 b.0 same whole in
      let rest = turns_twice (j + 1) ts us (batches_after bs t.steps) (batches_after os u.steps) ms ks a.1 b.1 others first.1 in (
        ap₂ (λ (x : Answer) xs. x ∷ xs) (same_answer same first.0) rest.0,
        subst (λ f. Pair shape h k c limit bound f (batches_after os (u.steps ++ steps_of us)) ms ks) (sym (batches_after-append bs t.steps (steps_of ts)))
            (subst (λ f. Pair shape h k c limit bound (batches_after (batches_after bs t.steps) (steps_of ts)) f ms ks) (sym (batches_after-append os u.steps (steps_of us))) rest.1),
      )
    where
      same_answer : t.command ≡ u.command → t.answer ≡ u.answer → ◌≡◌ {A = Answer} (record { command = j; node = t.command.node; reply = t.answer }) (record { command = j; node = u.command.node; reply = u.answer })
      same_answer e f = ap₂ (λ (command : Command) (r : Reaction). record { command = j; node = command.node; reply = r }) e f
