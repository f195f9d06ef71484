-- All sections of a script, executed by the holder of all callers of the nodes.
use Rattle.std.specs.Prelude.{◌≡◌, ℕ, ◌+◌, ◌<◌, ◌≤◌, List, [], ◌∷◌, ◌++◌, All, None, length}
use Rattle.thp_history.specs.Prelude.{History, IsLegal}
use Rattle.thp_script.specs.declared.script.Command.{Command}
use Rattle.thp_script.specs.declared.script.ScriptSections.{ScriptSections}
use Rattle.thp_script.specs.Prelude.{max_workers}
use Rattle.thp_worker.specs.declared.answer_log.Answers.{Answers}
use Rattle.thp_worker.specs.declared.reply.SectionLog.{SectionLog}
use Rattle.thp_worker.specs.declared.reply.SectionOutcome.{SectionOutcome}
use Rattle.thp_worker.specs.Prelude.{Fronts, Goes, HoldsCaller, SameHolding, AllWork, KnowsOf, RangeDone, IsDoneFor, AreCommandsFor, Works}

-- nodes without events, held with caller 0 and a caller for each worker
pub record IsNew (workers : ℕ) (f : Fronts) : Type 0 where
  pub front : (n : ℕ) → f.front n ≡ []
  pub batches : (c n : ℕ) → f.batches c n ≡ None
  pub first : f.first ≡ 0
  pub end : f.end ≡ 1 + workers
  pub callers : f.callers ≡ 1 + workers

-- a script for so many nodes, with at least one worker and at most the greatest number
pub record IsFitScript (nodes : ℕ) (script : ScriptSections) : Type 0 where
  pub setup : AreCommandsFor nodes script.setup
  pub workers : All (AreCommandsFor nodes) script.workers
  pub some : 0 < length script.workers
  pub most : length script.workers ≤ max_workers

-- callers from `from` on made steps, and those below did nothing
pub record GoesFrom (from : ℕ) (old new : Fronts) : Type 0 where
  pub same : SameHolding old new
  pub grown : (n : ℕ) → (more : History) × (new.front n ≡ old.front n ++ more)
  pub others : (c : ℕ) → HoldsCaller old c → c < from → KnowsOf c old new
  pub legal : (n : ℕ) → IsLegal (old.shape n) (old.front n) → IsLegal (old.shape n) (new.front n)

-- what happened to the section's answers
abbrev pub SectionAnswersAre : Answers → SectionLog → Type 0
SectionAnswersAre are section = section.answers.are ≡ are

-- the results of sections, by number
abbrev pub numbered : ℕ → List SectionOutcome → List SectionLog
numbered k [] = []
numbered k (w ∷ ws) = record { worker = k; answers = w.answers } ∷ numbered (k + 1) ws

-- The rest of the sections of the workers from c on was executed, one worker after another: each began where the one before it
-- had ended.
unfoldable pub InOrder : ℕ → Fronts → Fronts → List (List Command) → List SectionOutcome → List SectionOutcome → Type 0
InOrder c old new [] [] [] = new ≡ old
InOrder c old new (v ∷ vs) (w ∷ ws) (d ∷ ds) =
    (next : Fronts) × Goes c old next × ((first : Fronts) → Works c first old v w → Works c first next v d) × InOrder (c + 1) next new vs ws ds
InOrder _ _ _ _ _ _ = ⊥

-- the whole of setup was executed, and then the workers' sections: concurrently, followed by the postponed commands, workers in
-- ascending order
pub record RunsTo (old new : Fronts) (script : ScriptSections) (sections : List SectionLog) : Type 0 where
  pub between : Fronts
  pub setup : SectionOutcome
  pub workers : List SectionOutcome
  pub begins : Goes 0 old between
  pub setup_works : Works 0 old between script.setup setup
  pub setup_done : IsDoneFor setup
  pub postponed : Fronts
  pub started : List SectionOutcome
  pub side_by_side : RangeDone 1 between postponed script.workers started
  pub ascending : InOrder 1 postponed new script.workers started workers
  pub goes : GoesFrom 1 between new
  pub workers_work : AllWork 1 between new script.workers workers
  pub workers_done : All IsDoneFor workers
  pub reported : sections ≡ numbered 0 (setup ∷ workers)

-- On nodes without events, caller 0 executed these commands, those of `setup`, all or up to where it stopped, and no other caller
-- did anything; the workers' sections follow.
pub record IsSetUp (first now : Fronts) (commands : List Command) (workers : List (List Command)) (setup : SectionOutcome) : Type 0 where
  pub new : IsNew (length workers) first
  pub fits : IsFitScript first.nodes (record { setup = commands; workers = workers })
  pub goes : Goes 0 first now
  pub works : Works 0 first now commands setup
