-- Answers between logs and vectors.
use Rattle.std.proofs.Common.{◌≡◌, ◌≤◌, ◌+◌, ◌++◌, ◌∷◌, [], ◌∙◌, ℕ, List, ap, append_assoc, drop, length, map, refl, Some, Ok, Err, sym, slice_get, subst, inl, inr, All, Bool, IfOk, Result, Vec}
use Rattle.std.specs.declared.alloc.Global.{Global}
use Rattle.std.specs.declared.alloc.AllocError.{AllocError}
use Rattle.thp_run.proofs.AnswerLaws.{drop_at_get}
use Rattle.thp_worker.specs.declared.reply.Answer.{Answer}
use Rattle.thp_worker.specs.declared.reply.Rest.{Rest}
use Rattle.thp_worker.specs.declared.reply.SectionOutcome.{SectionOutcome}
use Rattle.thp_worker.specs.Prelude.{Fronts, HasNoBatch, IsWorkFor, LogState, Works, WorksTo}
use Rattle.thp_script.specs.declared.script.Command.{Command}
use Rattle.thp_run.specs.Listed.{SectionList, WorkedList, WorksOn, open_at, reported_section, reported_sections}
use Rattle.thp_run.proofs.OpenedLaws.{stopped_open}
use Rattle.thp_run.specs.Answers.{with_stored}

-- one answer more behind those that were had
pub one_more : (front all : List Answer) (place : ℕ) (answer : Answer) → front ++ drop place all ≡ all → slice_get all place ≡ Some answer → (front ++ answer ∷ []) ++ drop (place + 1) all ≡ all
one_more front all place answer had is =
    append_assoc front (answer ∷ []) (drop (place + 1) all) ∙ ap (λ left. front ++ left) (sym (drop_at_get all place answer (sym is))) ∙ had

-- such sections store all of their answers
pub all_stored : (sections : List SectionList) → map with_stored (reported_sections sections) ≡ reported_sections sections
all_stored [] = refl
all_stored (s ∷ sections) = ap (λ rest. reported_section s ∷ rest) (all_stored sections)

-- what a section leads to by a log, it leads to by the vector
pub listed_works : (c : ℕ) (old new : Fronts) (commands : List Command) (done : SectionOutcome) (r : Result WorkedList AllocError) →
    HasNoBatch c old → Works c old new commands done → IfOk r (λ l. l.answers ≡ done.answers.items) → IfOk r (λ l. l.rest ≡ done.rest) → IfOk r (WorksOn c old new commands)
listed_works c old new commands done (Err e) shut worked answers rest = tt
listed_works c old new commands done (Ok l) shut worked answers rest = record { shut = shut; opened = done.opened.items; works = rw (answers, rest) worked.to }

works_nodes : (c : ℕ) (old mid : Fronts) (commands : List Command) (answers : List Answer) (opened : List Bool) (rest : Rest) → WorksTo c old mid commands answers opened (Some rest) → mid.nodes ≡ old.nodes
works_nodes c old mid commands answers opened rest works =
    elim works.1 [
      | inl begins ↦ begins.1.grows.same.nodes
      | inr ends ↦ ends.1.grows.same.nodes
    ]

-- a section that stopped, with its log and the batches that are open
pub rest_begins : (c : ℕ) (old mid : Fronts) (commands : List Command) (w : WorkedList) (left : Rest) (log : LogState) (opened : Vec Bool Global) (room : ℕ) →
    w.rest ≡ Some left → log.items ≡ w.answers → opened.items ≡ open_at mid.nodes commands w.answers left → log.room ≡ room → length commands ≤ room → All (IsWorkFor mid.nodes) commands → WorksOn c old mid commands w →
    Works c old mid commands (record { answers = log; rest = Some left; opened = opened })
rest_begins c old mid commands w left log opened room stopped items flags is le are given =
    let works : WorksTo c old mid commands w.answers given.opened (Some left) = subst (WorksTo c old mid commands w.answers given.opened) stopped given.works in
    let nodes : mid.nodes ≡ old.nodes = works_nodes c old mid commands w.answers given.opened left works in
    let all : All (IsWorkFor old.nodes) commands = subst (λ n. All (IsWorkFor n) commands) nodes are in
    let same : given.opened ≡ opened.items = sym (stopped_open c old mid commands w.answers given.shut all given.opened left works) ∙ ap (λ n. open_at n commands w.answers left) (sym nodes) ∙ sym flags in
    let by_flags : WorksTo c old mid commands w.answers opened.items (Some left) = subst (λ (o : List Bool). WorksTo c old mid commands w.answers o (Some left)) same works in
    let to : WorksTo c old mid commands log.items opened.items (Some left) = subst (λ (a : List Answer). WorksTo c old mid commands a opened.items (Some left)) (sym items) by_flags in
    let room_is : length commands ≤ log.room = rw is le in
    record { to = to; room = room_is }

-- what a section's rest leads to by a log, it leads to by the vector
pub rest_works : (c : ℕ) (old mid new : Fronts) (commands : List Command) (w : WorkedList) (begun done : SectionOutcome) (r : Result WorkedList AllocError) →
    (Works c old mid commands begun → Works c old new commands done) → IfOk r (λ l. l.answers ≡ done.answers.items) → IfOk r (λ l. l.rest ≡ done.rest) → WorksOn c old mid commands w → Works c old mid commands begun → IfOk r (WorksOn c old new commands)
rest_works c old mid new commands w begun done r go answers rest given works = listed_works c old new commands done r given.shut (go works) answers rest
