-- The open batches of a section that stopped, from the answers to its commands.
use Rattle.std.proofs.Common.{◌≡◌, ◌∙◌, ◌++◌, ◌+◌, ◌-◌, ◌<◌, ◌≤◌, ◌&&◌, ℕ, zero, suc, Bool, true, false, List, [], ◌∷◌, All, Option, Some, ap, arith, drop, get_or, length, map, cond, nat_eq, refl, replicate, subst, sym, take, inl, inr, append_assoc, min, slice_get}
use Rattle.std.proofs.lemmas.List.Elements.{All-cons, All-head, All-nil, All-tail, All-take}
use Rattle.thp_history.specs.Prelude.{History}
use Rattle.thp_history.specs.declared.shape.Shape.{Shape}
use Rattle.thp_script.specs.declared.script.Command.{Command}
use Rattle.thp_run.specs.Listed.{left_open, open_at, stays_open, to_put_back, without_first}
use Rattle.thp_run.proofs.AnswerLaws.{drop_at_get}
use Rattle.thp_worker.specs.Prelude.{Begins, Carries, Ends, Fronts, HasNoBatch, IsMade, IsTurn, IsWorkFor, Made, Open, OpenOn, Turn, WorksTo, answers_from, batches_after, closing, closing_from, is_open, marked, progress_of, put_back_on, steps_of, turn_command, with_batch}
use Rattle.thp_worker.specs.declared.reply.Answer.{Answer}
use Rattle.thp_worker.specs.declared.reply.Rest.{Rest}
use Rattle.thp_worker.proofs.OpenLaws.{carries_after, known_more, known_none, opens_by}
use Rattle.thp_worker.proofs.StepLaws.{batches_after-append}
use Rattle.std.proofs.lemmas.Bool.{eq-eqb, ne_eqb}
use Rattle.std.proofs.lemmas.List.{length-map}
use Rattle.std.proofs.Math.Seq.{drop-append_seam, take-length}

-- ---- lists of truths

same_below : (xs ys : List Bool) → length xs ≡ length ys → ((k : ℕ) → k < length xs → get_or xs k false ≡ get_or ys k false) → xs ≡ ys
same_below [] [] e each = refl
same_below [] (y ∷ ys) e each = absurd (omega (arith, e))
same_below (x ∷ xs) [] e each = absurd (omega (arith, e))
same_below (x ∷ xs) (y ∷ ys) e each =
    let heads : x ≡ y = each 0 (omega arith) in
    let tails : xs ≡ ys = same_below xs ys (omega (arith, e)) (λ k lt. each (suc k) (omega (arith, lt))) in
    rw (heads, tails) refl

-- two records of the same batches are the same
one_record : (nodes : ℕ) (xs ys : List Bool) (bs : ℕ → Option Open) → OpenOn nodes xs bs → OpenOn nodes ys bs → xs ≡ ys
one_record nodes xs ys bs x y = same_below xs ys (x.count ∙ sym y.count) (λ k lt. let within : k < nodes = subst (λ n. k < n) x.count lt in x.each k within ∙ sym (y.each k within))

-- the put backs that a record names, on nodes from i on
puts_from : ℕ → List Bool → List Command
puts_from i [] = []
puts_from i (true ∷ opened) = put_back_on i ∷ puts_from (i + 1) opened
puts_from i (false ∷ opened) = puts_from (i + 1) opened

put_at : (b : Bool) (i : ℕ) (opened : List Bool) (rest : List Command) → puts_from (i + 1) opened ≡ rest → puts_from i (b ∷ opened) ≡ cond b (put_back_on i ∷ rest) rest
unfolding puts_from
put_at true i opened rest e = ap (λ l. put_back_on i ∷ l) e
put_at false i opened rest e = e

closing_flag : (b : Bool) (i n : ℕ) (bs : ℕ → Option Open) → is_open (bs i) ≡ b → closing_from bs i (suc n) ≡ cond b (put_back_on i ∷ closing_from bs (i + 1) n) (closing_from bs (i + 1) n)
closing_flag true i n bs e = rw e refl
closing_flag false i n bs e = rw e refl

puts_are : (i : ℕ) (opened : List Bool) (bs : ℕ → Option Open) → ((k : ℕ) → k < length opened → get_or opened k false ≡ is_open (bs (i + k))) → closing_from bs i (length opened) ≡ puts_from i opened
unfolding puts_from
puts_are i [] bs each = refl
puts_are i (b ∷ opened) bs each =
    let here : is_open (bs i) ≡ b = ap (λ n. is_open (bs n)) (let e : i ≡ i + 0 = omega arith in e) ∙ sym (each 0 (omega arith)) in
    let later : (k : ℕ) → k < length opened → get_or opened k false ≡ is_open (bs (i + 1 + k)) =
    λ k lt. each (suc k) (omega (arith, lt)) ∙ ap (λ n. is_open (bs n)) (let e : i + suc k ≡ i + 1 + k = omega arith in e) in
    let rest : closing_from bs (i + 1) (length opened) ≡ puts_from (i + 1) opened = puts_are (i + 1) opened bs later in
    closing_flag b i (length opened) bs here ∙ ap (λ l. cond b (put_back_on i ∷ l) l) rest ∙ sym (put_at b i opened (puts_from (i + 1) opened) refl)

closing_is : (nodes : ℕ) (opened : List Bool) (bs : ℕ → Option Open) → OpenOn nodes opened bs → closing nodes bs ≡ puts_from 0 opened
closing_is nodes opened bs known =
    ap (λ n. closing_from bs 0 n) (sym known.count)
    ∙ puts_are 0 opened bs (λ k lt. known.each k (subst (λ n. k < n) known.count lt) ∙ ap (λ n. is_open (bs n)) (let e : k ≡ 0 + k = omega arith in e))

put_gone : (b : Bool) (i k n : ℕ) (opened : List Bool) → b ≡ false → k ≡ n → puts_from i (b ∷ without_first k opened) ≡ puts_from (i + 1) (without_first n opened)
unfolding puts_from
put_gone true i k n opened e f = absurd cc
put_gone false i k n opened e f = ap (λ m. puts_from (i + 1) (without_first m opened)) f

-- the first put backs are of the first open batches
put_first : (back i : ℕ) (opened : List Bool) → drop back (puts_from i opened) ≡ puts_from i (without_first back opened)
unfolding puts_from
put_first zero i [] = refl
put_first (suc back) i [] = refl
put_first zero i (true ∷ opened) = ap (λ l. put_back_on i ∷ l) (put_first 0 (i + 1) opened)
put_first (suc back) i (true ∷ opened) =
    let count : to_put_back true (suc back) ≡ back = omega arith in
    let gone : stays_open true (suc back) ≡ false = ne_eqb (suc back) 0 (λ e. absurd (omega (arith, e))) in
    put_first back (i + 1) opened ∙ sym (put_gone (stays_open true (suc back)) i (to_put_back true (suc back)) back opened gone count)
put_first zero i (false ∷ opened) = put_first 0 (i + 1) opened
put_first (suc back) i (false ∷ opened) = put_first (suc back) (i + 1) opened

length-without_first : (back : ℕ) (opened : List Bool) → length (without_first back opened) ≡ length opened
length-without_first back [] = refl
length-without_first back (b ∷ opened) = ap suc (length-without_first (to_put_back b back) opened)

none_back : (opened : List Bool) → without_first 0 opened ≡ opened
none_back [] = refl
none_back (true ∷ opened) = ap (λ l. true ∷ l) (none_back opened)
none_back (false ∷ opened) = ap (λ l. false ∷ l) (none_back opened)

-- a put back is on one of these nodes
puts_later : (i : ℕ) (opened : List Bool) (command : Command) (commands : List Command) → puts_from i opened ≡ command ∷ commands → i ≤ command.node
unfolding puts_from
puts_later i [] command commands e = absurd cc
puts_later i (true ∷ opened) command commands e = let is : put_back_on i ≡ command = cc in let n : i ≡ command.node = ap (λ (c : Command). c.node) is in omega (arith, n)
puts_later i (false ∷ opened) command commands e = let le : i + 1 ≤ command.node = puts_later (i + 1) opened command commands e in omega (arith, le)

-- put backs name their record
one_opened : (i : ℕ) (xs ys : List Bool) → length xs ≡ length ys → puts_from i xs ≡ puts_from i ys → xs ≡ ys
unfolding puts_from
one_opened i [] [] e same = refl
one_opened i [] (y ∷ ys) e same = absurd (omega (arith, e))
one_opened i (x ∷ xs) [] e same = absurd (omega (arith, e))
one_opened i (true ∷ xs) (true ∷ ys) e same =
    let tails : puts_from (i + 1) xs ≡ puts_from (i + 1) ys = cc in
    ap (λ l. true ∷ l) (one_opened (i + 1) xs ys (omega (arith, e)) tails)
one_opened i (false ∷ xs) (false ∷ ys) e same = ap (λ l. false ∷ l) (one_opened (i + 1) xs ys (omega (arith, e)) same)
one_opened i (true ∷ xs) (false ∷ ys) e same =
    let le : i + 1 ≤ (put_back_on i).node = puts_later (i + 1) ys (put_back_on i) (puts_from (i + 1) xs) (sym same) in absurd (omega (arith, le))
one_opened i (false ∷ xs) (true ∷ ys) e same =
    let le : i + 1 ≤ (put_back_on i).node = puts_later (i + 1) xs (put_back_on i) (puts_from (i + 1) ys) same in absurd (omega (arith, le))

-- ---- the commands

-- the record after turns
after_turns : List Bool → List Turn → List Bool
after_turns opened [] = opened
after_turns opened (t ∷ ts) = after_turns (marked opened t.command t.answer) ts

-- the answers of turns are read back, whatever commands follow
by_answers : (k : ℕ) (opened : List Bool) (turns : List Turn) (commands : List Command) → map turn_command turns ≡ take (length turns) commands → left_open opened commands (answers_from k turns) ≡ after_turns opened turns
unfolding after_turns
by_answers k opened [] [] e = refl
by_answers k opened [] (command ∷ commands) e = refl
by_answers k opened (t ∷ ts) [] e = absurd cc
by_answers k opened (t ∷ ts) (command ∷ commands) e =
    let here : t.command ≡ command = cc in
    let rest : map turn_command ts ≡ take (length ts) commands = cc in
    ap (λ (c : Command). left_open (marked opened c t.answer) commands (answers_from (k + 1) ts)) (sym here) ∙ by_answers (k + 1) (marked opened t.command t.answer) ts commands rest

all_parts : {A : Type 0} (P : A → Type 0) (xs ys : List A) → All P (xs ++ ys) → All P xs × All P ys
all_parts P [] ys all = (All-nil P, all)
all_parts P (x ∷ xs) ys all =
    let later = all_parts P xs ys (All-tail P x (xs ++ ys) all) in
    (All-cons P x xs (All-head P x (xs ++ ys) all) later.0, later.1)

carries_first : (bs : ℕ → Option Open) (xs ys : List Made) → Carries bs (xs ++ ys) → Carries bs xs
unfolding Carries
carries_first bs [] ys carries = tt
carries_first bs (x ∷ xs) ys carries = (carries.0, carries_first (with_batch bs x.node x.after) xs ys carries.1)

module _ (nodes : ℕ) (shape : ℕ → Shape) (history : ℕ → History) (c : ℕ) where
  turns_known : (turns : List Turn) (opened : List Bool) (bs : ℕ → Option Open) → OpenOn nodes opened bs → All IsTurn turns → All (IsWorkFor nodes) (map turn_command turns) → All (IsMade shape history c) (steps_of turns) → Carries bs (steps_of turns)
      → OpenOn nodes (after_turns opened turns) (batches_after bs (steps_of turns))
  unfolding after_turns batches_after
  turns_known [] opened bs known each commands made carries = known
  turns_known (t ∷ ts) opened bs known each commands made carries =
      let turn : IsTurn t = All-head IsTurn t ts each in
      let lt = (All-head (IsWorkFor nodes) t.command (map turn_command ts) commands).node_exists in
      let parts = all_parts (IsMade shape history c) t.steps (steps_of ts) made in
      let opens = opens_by shape history c t.command.node t.command.op t.answer bs t.steps turn.on_node parts.0 (carries_first bs t.steps (steps_of ts) carries) turn.turns_out in
      let more = known_more nodes opened bs t.command t.answer t.steps known lt turn.on_node opens in
      let later = turns_known ts (marked opened t.command t.answer) (batches_after bs t.steps) more (All-tail IsTurn t ts each) (All-tail (IsWorkFor nodes) t.command (map turn_command ts) commands) parts.1 (carries_after bs t.steps (steps_of ts) carries) in
      subst (OpenOn nodes (after_turns (marked opened t.command t.answer) ts)) (sym (batches_after-append bs t.steps (steps_of ts))) later

-- the record of the commands that were executed
module _ (c : ℕ) (old new : Fronts) (commands : List Command) (answers : List Answer) (shut : HasNoBatch c old) (are : All (IsWorkFor old.nodes) commands) where
  none_open : OpenOn old.nodes (replicate old.nodes false) (old.batches c)
  none_open = known_none old.nodes (replicate old.nodes false) (old.batches c) refl shut

  begins_open : (opened : List Bool) (rest : Rest) → Begins c old new commands answers opened (progress_of rest) → left_open (replicate old.nodes false) commands answers ≡ opened
  begins_open opened rest b =
      let first = all_parts (IsMade old.shape new.front c) (steps_of b.turns) b.made b.steps.each in
      let some : All (IsWorkFor old.nodes) (map turn_command b.turns) = subst (All (IsWorkFor old.nodes)) (sym b.done) (All-take (IsWorkFor old.nodes) (length b.turns) commands are) in
      let known = turns_known old.nodes old.shape new.front c b.turns (replicate old.nodes false) (old.batches c) none_open b.each some first.0 (carries_first (old.batches c) (steps_of b.turns) b.made b.steps.carries) in
      let one = one_record old.nodes _ opened (batches_after (old.batches c) (steps_of b.turns)) known b.known in
      ap (left_open (replicate old.nodes false) commands) b.answered ∙ by_answers 0 (replicate old.nodes false) b.turns commands b.done ∙ one

  ends_open : (opened : List Bool) (back : ℕ) → Ends c old new commands answers opened back → without_first back (left_open (replicate old.nodes false) commands answers) ≡ opened
  ends_open opened back e =
      let first = all_parts (IsMade old.shape new.front c) (steps_of e.turns) (steps_of e.closed) e.steps.each in
      let some : All (IsWorkFor old.nodes) (map turn_command e.turns) = subst (All (IsWorkFor old.nodes)) (sym e.done) are in
      let known = turns_known old.nodes old.shape new.front c e.turns (replicate old.nodes false) (old.batches c) none_open e.each some first.0 (carries_first (old.batches c) (steps_of e.turns) (steps_of e.closed) e.steps.carries) in
      let many : length e.turns ≡ length commands = sym (length-map e.turns turn_command) ∙ ap length e.done in
      let all : map turn_command e.turns ≡ take (length e.turns) commands = e.done ∙ sym (ap (λ n. take n commands) many ∙ take-length commands) in
      let had = left_open (replicate old.nodes false) commands answers in
      let is : had ≡ after_turns (replicate old.nodes false) e.turns = ap (left_open (replicate old.nodes false) commands) e.answered ∙ by_answers 0 (replicate old.nodes false) e.turns commands all in
      let had_known : OpenOn old.nodes had (batches_after (old.batches c) (steps_of e.turns)) = subst (λ l. OpenOn old.nodes l (batches_after (old.batches c) (steps_of e.turns))) (sym is) known in
      let puts : puts_from 0 had ≡ map turn_command e.closed ++ puts_from 0 opened =
      sym (closing_is old.nodes had _ had_known) ∙ e.closes ∙ ap (λ l. map turn_command e.closed ++ l) (closing_is old.nodes opened (new.batches c) e.known) in
      let count : length (map turn_command e.closed) ≡ back = length-map e.closed turn_command ∙ e.count in
      let left : puts_from 0 (without_first back had) ≡ puts_from 0 opened =
      sym (put_first back 0 had) ∙ ap (drop back) puts ∙ ap (λ n. drop n (map turn_command e.closed ++ puts_from 0 opened)) (sym count) ∙ drop-append_seam (map turn_command e.closed) (puts_from 0 opened) in
      one_opened 0 (without_first back had) opened (length-without_first back had ∙ had_known.count ∙ sym e.known.count) left

  -- the open batches of a section that stopped
  pub stopped_open : (opened : List Bool) (rest : Rest) → WorksTo c old new commands answers opened (Some rest) → open_at old.nodes commands answers rest ≡ opened
  stopped_open opened rest works =
      elim works.1 [
        | inl begins ↦
            rw (ne_eqb rest.command (length commands) (λ e. absurd (omega (arith, e, begins.0)))) (none_back _ ∙ begins_open opened rest begins.1)
        | inr ends ↦ rw (eq-eqb rest.command (length commands) ends.0) (ends_open opened rest.steps ends.1)
      ]

-- ---- the loops

-- one node more
pub one_node : (front all whole : List Bool) (place : ℕ) (open_here : Bool) (back : ℕ) → slice_get all place ≡ Some open_here → front ++ without_first back (drop place all) ≡ whole
    → (front ++ stays_open open_here back ∷ []) ++ without_first (to_put_back open_here back) (drop (place + 1) all) ≡ whole
one_node front all whole place open_here back is had =
    append_assoc front (stays_open open_here back ∷ []) (without_first (to_put_back open_here back) (drop (place + 1) all))
    ∙ ap (λ l. front ++ without_first back l) (sym (drop_at_get all place open_here (sym is))) ∙ had

-- one command more
pub one_command : (opened whole : List Bool) (commands : List Command) (answers : List Answer) (place : ℕ) (command : Command) (answer : Answer) → slice_get commands place ≡ Some command → slice_get answers place ≡ Some answer
    → left_open opened (drop place commands) (drop place answers) ≡ whole → left_open (marked opened command answer.reply) (drop (place + 1) commands) (drop (place + 1) answers) ≡ whole
one_command opened whole commands answers place command answer c a had =
    sym (λ i. left_open opened (drop_at_get commands place command (sym c) i) (drop_at_get answers place answer (sym a) i)) ∙ had

none_answered : (opened : List Bool) (commands : List Command) → left_open opened commands [] ≡ opened
none_answered opened [] = refl
none_answered opened (command ∷ commands) = refl

none_commanded : (opened : List Bool) (answers : List Answer) → left_open opened [] answers ≡ opened
none_commanded opened answers = refl

-- no command, or no answer, is left
pub none_left : (place : ℕ) (opened : List Bool) (commands : List Command) (answers : List Answer) → min (length commands) (length answers) ≤ place → left_open opened (drop place commands) (drop place answers) ≡ opened
none_left zero opened [] answers le = refl
none_left zero opened (command ∷ commands) [] le = refl
none_left zero opened (command ∷ commands) (answer ∷ answers) le = absurd (omega (arith, le))
none_left (suc place) opened [] answers le = refl
none_left (suc place) opened (command ∷ commands) [] le = none_answered opened (drop place commands)
none_left (suc place) opened (command ∷ commands) (answer ∷ answers) le = none_left place opened commands answers (omega (arith, le))
