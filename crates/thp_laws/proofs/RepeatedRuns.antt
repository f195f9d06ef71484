-- A run of a script that repeats histories records them again, except for blocks.
use Rattle.std.proofs.Common.{◌≡◌, ◌≤◌, ◌+◌, ◌⊎◌, ℕ, suc, Bool, true, false, cond, nat_eq, List, [], ◌∷◌, ◌++◌, map, take, length, Option, None, inl, inr, refl, ap, sym, subst, ◌∙◌, arith, append_assoc, eq-eqb, All, slice_get, Some, eqb-true, take_all}
use Rattle.std.specs.List.{filter, AllByRecursion, range_with_len}
use Rattle.std.proofs.lemmas.List.Elements.{All-nil, recursion_from_All}
use Rattle.thp_history.specs.declared.events.Event.{Event}
use Rattle.thp_history.specs.declared.shape.Shape.{Shape}
use Rattle.thp_history.specs.Prelude.{SameButBlocks, History, by, events_of, Fits, IsLegal, flight, IsShape}
use Rattle.thp_history.proofs.LegalSteps.{legal_at, legal_front}
use Rattle.thp_history.proofs.ListPlaces.{append_none}
use Rattle.thp_script.specs.declared.script.Command.{Command}
use Rattle.thp_script.specs.declared.script.Op.{Op}
use Rattle.thp_script.specs.declared.script.Op.TheVariants as op
use Rattle.thp_journal_scripts.specs.declared.folding.EventKind.TheVariants.{Call, Put, Take, Try}
use Rattle.thp_journal_scripts.specs.Prelude.{kind_of, IsBy, IsScanBy, Repeats, scan_place, Between, IsCallOrScan}
use Rattle.thp_worker.specs.declared.steps.Step.TheVariants.{One}
use Rattle.thp_worker.specs.Prelude.{Does, Open, is_open, batches_after, turn_command, put_back_on, steps_of, step_results, IsTurn, Made, Turn, TurnsOut}
use Rattle.thp_worker.proofs.StepLaws.{batches_after-append}
use Rattle.thp_run.specs.Runs.{no_batches, IsSection}
use Rattle.thp_laws.specs.Repeated.{ops_on, IsRepeated, ScriptsRepeatHistories}
use Rattle.thp_laws.proofs.CountedTurns.{all_in_turn, AreInTurn}
use Rattle.thp_laws.proofs.RepeatedCalls.{does_call, one_step_of}
use Rattle.thp_laws.proofs.RepeatedPlaces.{none_between, one_no_take, some_no_take, Begins, IsBeginning, IsNotTake, IsNoTake}
use Rattle.thp_laws.proofs.RepeatedScans.{scans_as, untried_of_call}
use Rattle.thp_laws.proofs.RepeatedTurns.{done_once, scan_done, Done, Stands}
use Rattle.thp_laws.proofs.SameSections.{section_walk, steps_of-append}
use Rattle.thp_laws.proofs.Walks.{Walk}
use Rattle.thp_laws.proofs.WorkersApart.{answered, beyond, sole}

-- ---- facts of each event

module _ {A : Type 0} (P : A → Type 0) where
  front_all : (xs ys : List A) → AllByRecursion P (xs ++ ys) → AllByRecursion P xs
  front_all [] ys all = tt
  front_all (x ∷ xs) ys all = (all.0, front_all xs ys all.1)

  rest_all : (xs ys : List A) → AllByRecursion P (xs ++ ys) → AllByRecursion P ys
  rest_all [] ys all = all
  rest_all (x ∷ xs) ys all = rest_all xs ys all.1

  both_all : (xs ys : List A) → AllByRecursion P xs → AllByRecursion P ys → AllByRecursion P (xs ++ ys)
  both_all [] ys a b = b
  both_all (x ∷ xs) ys a b = (a.0, both_all xs ys a.1 b)

wider_all : (P Q : Event → Type 0) → ((e : Event) → P e → Q e) → (es : History) → AllByRecursion P es → AllByRecursion Q es
wider_all P Q f [] all = tt
wider_all P Q f (e ∷ es) all = (f e all.0, wider_all P Q f es all.1)

-- the event is caller 0's
abbrev pub IsFirst : Event → Type 0
IsFirst e = e.caller ≡ 0

-- ---- the part of a history that a command repeats

pub record CallPart (o : Op) (ops : List Op) (rest : History) : Type 0 where
  pub event : Event
  pub more : History
  pub parts : rest ≡ event ∷ more
  pub kind : kind_of event.what ≡ Call o
  pub repeats : Repeats None ops more None

pub record ScanPart (o : Op) (ops : List Op) (rest : History) : Type 0 where
  pub count : ℕ
  pub is : o ≡ op.Scan count
  pub some : 1 ≤ count
  pub caller : ℕ
  pub own : History
  pub more : History
  pub parts : rest ≡ own ++ more
  pub scan : IsScanBy caller count own
  pub repeats : Repeats None ops more None

-- a call's own part
call_part : (o : Op) (ops : List Op) (rest own more : History) (between : Option ℕ) → rest ≡ own ++ more → (e : Event) → own ≡ e ∷ [] → kind_of e.what ≡ Call o → between ≡ None → Repeats between ops more None → CallPart o ops rest ⊎ ScanPart o ops rest
call_part o ops rest own more between parts e one kind still repeats = grind arith

parted : (o : Op) (ops : List Op) (rest : History) → IsCallOrScan o → Repeats None (o ∷ ops) rest None → CallPart o ops rest ⊎ ScanPart o ops rest
parted x ops rest plain r = grind (arith, call_part)

-- the first of some events
first_of : (es : History) (n : ℕ) → length es ≡ n → 1 ≤ n → (e : Event) × ((more : History) × (es ≡ e ∷ more))
first_of [] n same some = absurd (omega (arith, same, some))
first_of (e ∷ es) n same some = (e, (es, refl))

-- what commands repeat begins with a call or a take
begins : (ops : List Op) (rest : History) → AllByRecursion IsCallOrScan ops → Repeats None ops rest None → Begins rest
begins [] rest plain r = subst Begins (sym r.0) tt
begins (o ∷ ops) rest plain r = go (parted o ops rest plain.0 r) where
  go : CallPart o ops rest ⊎ ScanPart o ops rest → Begins rest
  go (inl part) = subst Begins (sym part.parts) (subst IsBeginning (sym part.kind) tt)
  go (inr part) =
      let takes = recursion_from_All (IsBy part.caller Take) part.scan.takes part.scan.takes_are.1 in
      let first = first_of part.scan.takes part.count part.scan.takes_are.0 part.some in
      let is : (first.0.caller ≡ part.caller) × (kind_of first.0.what ≡ Take) = (subst (AllByRecursion (IsBy part.caller Take)) first.1.1 takes).0 in
      let whole : rest ≡ first.0 ∷ (((first.1.0 ++ part.scan.tries) ++ part.scan.puts) ++ part.more) =
      part.parts ∙ ap (λ es. es ++ part.more) (part.scan.parts ∙ ap (λ es. (es ++ part.scan.tries) ++ part.scan.puts) first.1.1) in
      subst Begins (sym whole) (subst IsBeginning (sym is.1) tt)

-- ---- one command

-- The commands repeat the rest of the history: a legal one of caller 0, whose batches are whole scans in order.
pub record Given (s : Shape) (g rest : History) (ops : List Op) : Type 0 where
  pub shape : IsShape s
  pub legal : IsLegal s (g ++ rest)
  pub callers_before : AllByRecursion IsFirst g
  pub callers : AllByRecursion IsFirst rest
  pub repeats : Repeats None ops rest None
  pub plain : AllByRecursion IsCallOrScan ops
  pub in_turn : AreInTurn [] rest
  pub whole : scan_place (g ++ rest) ≡ Between
  pub no_take : IsNoTake (scan_place g)

-- the rest after a part of it
given_more : (s : Shape) (g rest own more : History) (o : Op) (ops : List Op) → Given s g rest (o ∷ ops) → rest ≡ own ++ more → Repeats None ops more None → AreInTurn [] more → IsNoTake (scan_place (g ++ own)) → Given s (g ++ own) more ops
given_more s g rest own more o ops given parts repeats turn no_take = grind (arith, append_assoc, both_all, front_all, rest_all)

-- no page is in flight before the rest
none_flies : (s : Shape) (g rest : History) (ops : List Op) → Given s g rest ops → flight g 0 ≡ []
none_flies s g rest ops given = none_between s 0 g rest (legal_front s g rest given.legal) given.callers_before given.whole given.no_take (begins ops rest given.plain given.repeats)

-- a scan ends with no take
scan_no_take : (g takes tries puts : History) (c count : ℕ) → 1 ≤ count → length tries ≡ count → AllByRecursion (IsBy c Try) tries → AllByRecursion (IsBy c Put) puts → IsNoTake (scan_place (g ++ ((takes ++ tries) ++ puts)))
scan_no_take g takes tries puts c count some many by_tries by_puts =
    let first = first_of tries count many some in
    let tried : AllByRecursion (IsBy c Try) (first.0 ∷ first.1.0) = subst (AllByRecursion (IsBy c Try)) first.1.1 by_tries in
    let one : IsNoTake (scan_place ((g ++ takes) ++ first.0 ∷ [])) = one_no_take (g ++ takes) first.0 (subst IsNotTake (sym tried.0.1) tt) in
    let others : AllByRecursion (λ (e : Event). IsNotTake (kind_of e.what)) (first.1.0 ++ puts) =
    both_all (λ (e : Event). IsNotTake (kind_of e.what)) first.1.0 puts (wider_all (IsBy c Try) _ (λ e by. subst IsNotTake (sym by.1) tt) first.1.0 tried.1) (wider_all (IsBy c Put) _ (λ e by. subst IsNotTake (sym by.1) tt) puts by_puts) in
    let all : ((g ++ takes) ++ first.0 ∷ []) ++ (first.1.0 ++ puts) ≡ g ++ ((takes ++ tries) ++ puts) =
    append_assoc (g ++ takes) (first.0 ∷ []) (first.1.0 ++ puts) ∙ ap (λ es. (g ++ takes) ++ (es ++ puts)) (sym first.1.1)
    ∙ append_assoc g takes (tries ++ puts) ∙ ap (λ es. g ++ es) (sym (append_assoc takes tries puts)) in
    subst (λ h. IsNoTake (scan_place h)) all (some_no_take ((g ++ takes) ++ first.0 ∷ []) (first.1.0 ++ puts) one others)

module _ (shape : ℕ → Shape) (made : ℕ → History) (limit : ℕ → ℕ) where
  -- what a command repeats was done, and the other commands repeat the rest
  pub record Repeated (batches : ℕ → Option Open) (steps ms : List Made) (n : ℕ) (g rest : History) (ops : List Op) (other : ℕ → History) : Type 0 where
    pub own : History
    pub more : History
    pub parts : rest ≡ own ++ more
    pub given : Given (shape n) (g ++ own) more ops
    pub done : Done shape made 0 limit batches steps ms n (g ++ own) other

  module _ (batches : ℕ → Option Open) (t : Turn) (ms : List Made) (g rest : History) (ops : List Op) (other : ℕ → History) (is : IsTurn t) (shut : batches t.command.node ≡ None) (given : Given (shape t.command.node) g rest (t.command.op ∷ ops))
      (at : Stands shape made 0 limit batches (t.steps ++ ms) t.command.node g other) where
    call_repeated : CallPart t.command.op ops rest → Repeated batches t.steps ms t.command.node g rest ops other
    call_repeated part =
        let e : Event = part.event in
        let o : Op = t.command.op in
        let s : Shape = shape t.command.node in
        let first : e.caller ≡ 0 = (subst (AllByRecursion IsFirst) part.parts given.callers).0 in
        let event : by 0 e.what ≡ e = ap (λ d. by d e.what) (sym first) in
        let l : IsLegal s (g ++ e ∷ part.more) = subst (λ es. IsLegal s (g ++ es)) part.parts given.legal in
        let does = does_call e.what o part.kind s g 0 given.shape (subst (Fits s g) (sym event) (legal_at s g e part.more l)) in
        let l_own : IsLegal s (g ++ e ∷ []) = legal_front s (g ++ e ∷ []) part.more (subst (IsLegal s) (sym (append_assoc g (e ∷ []) part.more)) l) in
        let turn : AreInTurn [] (e ∷ part.more) = subst (AreInTurn []) part.parts given.in_turn in
        record {
          own = e ∷ [];
          more = part.more;
          parts = part.parts;
          given = given_more s g rest (e ∷ []) part.more o ops given part.parts part.repeats (subst (λ u. AreInTurn u part.more) (untried_of_call e.what o [] part.kind) turn.1) (one_no_take g e (subst IsNotTake (sym part.kind) tt));
          done = done_once shape made 0 limit batches t.steps ms t.command.node g (e ∷ []) other (record { step = One o; answer = t.answer }) does.0 (recursion_from_All _ t.steps is.on_node)
              (one_step_of e.what o part.kind (step_results t.steps) t.answer is.turns_out) l_own
              (subst (λ es. Does s g 0 (batches t.command.node) (One o) es does.0 None) (ap (λ x. x ∷ []) event) (subst (λ b. Does s g 0 b (One o) (by 0 e.what ∷ []) does.0 None) (sym shut) does.1)) at;
        }

    scan_repeated : ScanPart t.command.op ops rest → Repeated batches t.steps ms t.command.node g rest ops other
    scan_repeated part =
        let s : Shape = shape t.command.node in
        let caller : part.caller ≡ 0 = scan_caller part in
        let scan : IsScanBy 0 part.count part.own = subst (λ c. IsScanBy c part.count part.own) caller part.scan in
        let by_takes = recursion_from_All (IsBy 0 Take) scan.takes scan.takes_are.1 in
        let by_tries = recursion_from_All (IsBy 0 Try) scan.tries scan.tries_are.1 in
        let by_puts = recursion_from_All (IsBy 0 Put) scan.puts scan.puts_are in
        let parts : rest ≡ ((scan.takes ++ scan.tries) ++ scan.puts) ++ part.more = part.parts ∙ ap (λ es. es ++ part.more) scan.parts in
        let own : History = (scan.takes ++ scan.tries) ++ scan.puts in
        let no_take : IsNoTake (scan_place (g ++ own)) = scan_no_take g scan.takes scan.tries scan.puts 0 part.count part.some scan.tries_are.0 by_tries by_puts in
        let all : g ++ rest ≡ (g ++ own) ++ part.more = ap (λ es. g ++ es) parts ∙ sym (append_assoc g own part.more) in
        let l : IsLegal s (g ++ (own ++ part.more)) = subst (λ es. IsLegal s (g ++ es)) parts given.legal in
        let l_own : IsLegal s (g ++ own) = legal_front s (g ++ own) part.more (subst (IsLegal s) all given.legal) in
        let callers : AllByRecursion IsFirst (own ++ part.more) = subst (AllByRecursion IsFirst) parts given.callers in
        let ends : flight (g ++ own) 0 ≡ [] =
        none_between s 0 (g ++ own) part.more l_own (both_all IsFirst g own given.callers_before (front_all IsFirst own part.more callers)) (ap scan_place (sym all) ∙ given.whole) no_take
        (begins ops part.more given.plain.1 part.repeats) in
        let none : flight g 0 ≡ [] = none_flies s g rest (t.command.op ∷ ops) given in
        let scans = scans_as s g 0 part.count scan.takes scan.tries scan.puts part.more l none ends scan.takes_are.0 by_takes scan.tries_are.0 by_tries by_puts (subst (AreInTurn []) parts given.in_turn) in
        record {
          own = own;
          more = part.more;
          parts = parts;
          given = given_more s g rest own part.more t.command.op ops given parts part.repeats scans.1 no_take;
          done = scan_done shape made 0 limit t.command.node part.count g other own l_own none scans.0 batches t.steps ms t.answer shut (recursion_from_All _ t.steps is.on_node)
              (subst (λ o. TurnsOut o (step_results t.steps) t.answer) part.is is.turns_out) at;
        }
      where
        scan_caller : (part : ScanPart t.command.op ops rest) → part.caller ≡ 0
        scan_caller part =
            let takes = recursion_from_All (IsBy part.caller Take) part.scan.takes part.scan.takes_are.1 in
            let first = first_of part.scan.takes part.count part.scan.takes_are.0 part.some in
            let is : (first.0.caller ≡ part.caller) × (kind_of first.0.what ≡ Take) = (subst (AllByRecursion (IsBy part.caller Take)) first.1.1 takes).0 in
            let whole : rest ≡ first.0 ∷ (((first.1.0 ++ part.scan.tries) ++ part.scan.puts) ++ part.more) =
            part.parts ∙ ap (λ es. es ++ part.more) (part.scan.parts ∙ ap (λ es. (es ++ part.scan.tries) ++ part.scan.puts) first.1.1) in
            sym is.0 ∙ (subst (AllByRecursion IsFirst) whole given.callers).0

    pub command_repeated : Repeated batches t.steps ms t.command.node g rest ops other
    command_repeated = grind (arith, parted, call_repeated, scan_repeated)

  -- ---- all commands

  -- the run stands where each node has this history, except for blocks
  pub record AllStand (batches : ℕ → Option Open) (ms : List Made) (other : ℕ → History) : Type 0 where
    pub front : ℕ → History
    pub walk : Walk shape made 0 limit front batches ms
    pub same : (j : ℕ) → SameButBlocks (front j) (other j)

  -- another history of node n
  abbrev at_node : ℕ → History → (ℕ → History) → ℕ → History
  at_node n g other j = cond (nat_eq n j) g (other j)

  one_of_all : (batches : ℕ → Option Open) (ms : List Made) (other : ℕ → History) (n : ℕ) → AllStand batches ms other → Stands shape made 0 limit batches ms n (other n) other
  one_of_all batches ms other n all = record { front = all.front; walk = all.walk; here = all.same n; elsewhere = λ j away. all.same j }

  all_of_one : (batches : ℕ → Option Open) (ms : List Made) (other : ℕ → History) (n : ℕ) (g : History) → Stands shape made 0 limit batches ms n g other → AllStand batches ms (at_node n g other)
  all_of_one batches ms other n g at = grind (arith, nat_eq, eqb-true, eq-eqb)

  -- the commands on a node, with one more
  ops_here : (j : ℕ) (command : Command) (commands : List Command) → nat_eq command.node j ≡ true → ops_on j (command ∷ commands) ≡ command.op ∷ ops_on j commands
  ops_here j command commands e = ap (λ b. map (λ (x : Command). x.op) (cond b (command ∷ filter (λ (x : Command). nat_eq x.node j) commands) (filter (λ (x : Command). nat_eq x.node j) commands))) e

  ops_else : (j : ℕ) (command : Command) (commands : List Command) → nat_eq command.node j ≡ false → ops_on j (command ∷ commands) ≡ ops_on j commands
  ops_else j command commands e = ap (λ b. map (λ (x : Command). x.op) (cond b (command ∷ filter (λ (x : Command). nat_eq x.node j) commands) (filter (λ (x : Command). nat_eq x.node j) commands))) e

  -- the turns were done: each node has its whole history, and no batch is open
  pub record AllDone (batches : ℕ → Option Open) (turns : List Turn) (ms : List Made) (other rest : ℕ → History) : Type 0 where
    pub final : ℕ → History
    pub final_is : (j : ℕ) → final j ≡ other j ++ rest j
    pub shut : (j : ℕ) → batches_after batches (steps_of turns) j ≡ None
    pub stand : AllStand (batches_after batches (steps_of turns)) ms final

  turns_done : (turns : List Turn) (batches : ℕ → Option Open) (ms : List Made) (other rest : ℕ → History) → AllByRecursion IsTurn turns → ((j : ℕ) → batches j ≡ None) → ((j : ℕ) → Given (shape j) (other j) (rest j) (ops_on j (map turn_command turns))) →
      AllStand batches (steps_of turns ++ ms) other → AllDone batches turns ms other rest
  unfolding batches_after
  turns_done [] batches ms other rest each shut given all = record { final = other; final_is = λ j. sym (append_none (other j)) ∙ ap (λ es. other j ++ es) (sym (given j).repeats.0); shut = shut; stand = all }
  turns_done (t ∷ turns) batches ms other rest each shut given all =
      let n : ℕ = t.command.node in
      let cut : AllStand batches (t.steps ++ (steps_of turns ++ ms)) other = subst (λ xs. AllStand batches xs other) (append_assoc t.steps (steps_of turns) ms) all in
      let here : Given (shape n) (other n) (rest n) (t.command.op ∷ ops_on n (map turn_command turns)) =
      subst (Given (shape n) (other n) (rest n)) (ops_here n t.command (map turn_command turns) (eq-eqb n n refl)) (given n) in
      let one : Repeated batches t.steps (steps_of turns ++ ms) n (other n) (rest n) (ops_on n (map turn_command turns)) other =
      command_repeated batches t (steps_of turns ++ ms) (other n) (rest n) (ops_on n (map turn_command turns)) other each.0 (shut n) here (one_of_all batches (t.steps ++ (steps_of turns ++ ms)) other n cut) in
      let shut_on : (j : ℕ) (b : Bool) → nat_eq n j ≡ b → batches_after batches t.steps j ≡ None =
      λ j b. elim b as (λ b. nat_eq n j ≡ b → batches_after batches t.steps j ≡ None) [
        | true ↦ λ e. subst (λ i. batches_after batches t.steps i ≡ None) (eqb-true n j e) one.done.shut
        | false ↦ λ e. one.done.others_open j (λ there. let yes = eq-eqb n j (sym there) in absurd (cc)) ∙ shut j
      ] in
      let given_on : (j : ℕ) (b : Bool) → nat_eq n j ≡ b → Given (shape j) (cond b (other n ++ one.own) (other j)) (cond b one.more (rest j)) (ops_on j (map turn_command turns)) =
      λ j b. elim b as (λ b. nat_eq n j ≡ b → Given (shape j) (cond b (other n ++ one.own) (other j)) (cond b one.more (rest j)) (ops_on j (map turn_command turns))) [
        | true ↦ λ e. subst (λ i. Given (shape i) (other n ++ one.own) one.more (ops_on i (map turn_command turns))) (eqb-true n j e) one.given
        | false ↦ λ e. subst (Given (shape j) (other j) (rest j)) (ops_else j t.command (map turn_command turns) e) (given j)
      ] in
      let others = turns_done turns (batches_after batches t.steps) ms (at_node n (other n ++ one.own) other) (at_node n one.more rest) each.1 (λ j. shut_on j (nat_eq n j) refl) (λ j. given_on j (nat_eq n j) refl)
      (all_of_one (batches_after batches t.steps) (steps_of turns ++ ms) other n (other n ++ one.own) one.done.stands) in
      let final_on : (j : ℕ) (b : Bool) → nat_eq n j ≡ b → cond b (other n ++ one.own) (other j) ++ cond b one.more (rest j) ≡ other j ++ rest j =
      λ j b. elim b as (λ b. nat_eq n j ≡ b → cond b (other n ++ one.own) (other j) ++ cond b one.more (rest j) ≡ other j ++ rest j) [
        | true ↦ λ e. subst (λ i. (other n ++ one.own) ++ one.more ≡ other i ++ rest i) (eqb-true n j e) (append_assoc (other n) one.own one.more ∙ ap (λ es. other n ++ es) (sym one.parts))
        | false ↦ λ e. refl
      ] in
      let after : batches_after batches (steps_of (t ∷ turns)) ≡ batches_after (batches_after batches t.steps) (steps_of turns) = batches_after-append batches t.steps (steps_of turns) in
      record {
        final = others.final;
        final_is = λ j. others.final_is j ∙ final_on j (nat_eq n j) refl;
        shut = λ j. ap (λ (f : ℕ → Option Open). f j) after ∙ others.shut j;
        stand = subst (λ f. AllStand f ms others.final) (sym after) others.stand;
      }

-- ---- the run

-- where no batch is open nothing is put back at the end
none_closes : (bs : ℕ → Option Open) → ((n : ℕ) → bs n ≡ None) → (ns : List ℕ) → map put_back_on (filter (λ n. is_open (bs n)) ns) ≡ []
none_closes bs shut [] = refl
none_closes bs shut (n ∷ ns) = ap (λ (o : Option Open). map put_back_on (cond (is_open o) (n ∷ filter (λ n. is_open (bs n)) ns) (filter (λ n. is_open (bs n)) ns))) (shut n) ∙ none_closes bs shut ns

no_turns : (ts : List Turn) → map turn_command ts ≡ [] → ts ≡ []
no_turns [] e = refl
no_turns (t ∷ ts) e = absurd (cc)

-- the history of a node before the first command
given_all : (s : Shape) (h : History) (ops : List Op) → IsRepeated s h ops → Given s [] h ops
given_all s h ops is = grind (arith, recursion_from_All, all_in_turn)

pub repeats_histories : ScriptsRepeatHistories
repeats_histories nodes shape script history made sections r only given n =
    let there = answered nodes shape script made sections r 0 script.setup refl in
    let s : IsSection nodes shape made 0 script.setup there.0.answers.items = there.1.done in
    let limit : ℕ → ℕ = λ j. length (events_of 0 (made j)) in
    let walk : Walk shape made 0 limit (λ j. []) no_batches (steps_of (s.turns ++ s.closed)) =
    section_walk nodes shape made 0 script.setup there.0.answers.items s limit (λ j. []) r.legal (λ i d lt. omega arith) (s.within_setup refl) (λ j. omega arith) (λ j. refl) in
    let all : AllStand shape made limit no_batches (steps_of s.turns ++ steps_of s.closed) (λ j. []) =
    record { front = λ j. []; walk = subst (Walk shape made 0 limit (λ j. []) no_batches) (steps_of-append s.turns s.closed) walk; same = λ j. refl } in
    let each = recursion_from_All IsTurn (s.turns ++ s.closed) s.each in
    let done = turns_done shape made limit s.turns no_batches (steps_of s.closed) (λ j. []) history (front_all IsTurn s.turns s.closed each) (λ j. refl)
    (λ j. subst (λ commands. Given (shape j) [] (history j) (ops_on j commands)) (sym s.done) (given_all (shape j) (history j) (ops_on j script.setup) (given j))) all in
    let closed : s.closed ≡ [] = no_turns s.closed (s.closes ∙ none_closes _ done.shut (range_with_len 0 nodes)) in
    let end : Walk shape made 0 limit done.stand.front (batches_after no_batches (steps_of s.turns)) [] =
    subst (λ ts. Walk shape made 0 limit done.stand.front (batches_after no_batches (steps_of s.turns)) (steps_of ts)) closed done.stand.walk in
    let last : ℕ = length script.workers in
    let apart : (k : ℕ) (commands : List Command) → slice_get script.workers k ≡ Some commands → All (λ (command : Command). last ≡ k) commands =
    λ k commands at. subst (All (λ (command : Command). last ≡ k)) (sym (only k commands at)) (All-nil (λ (command : Command). last ≡ k)) in
    let both : length (events_of 0 (made n)) + length (events_of (suc last) (made n)) ≡ length (made n) = sole nodes shape script made sections r (λ j. last) apart last n refl in
    let nobody : length (events_of (suc last) (made n)) ≡ 0 = ap length (beyond last (suc last) (made n) (omega arith) (recursion_from_All _ (made n) (r.nobody_else n))) in
    let full : length (done.stand.front n) + 0 ≡ length (events_of 0 (made n)) = end.full n in
    let whole : take (length (done.stand.front n)) (made n) ≡ made n = take_all (length (done.stand.front n)) (made n) (omega (arith, both, nobody, full)) in
    let front : done.stand.front n ≡ made n = sym (end.stands n) ∙ whole in
    sym (subst (λ h. SameButBlocks h (history n)) front (subst (SameButBlocks (done.stand.front n)) (done.final_is n) (done.stand.same n)))
