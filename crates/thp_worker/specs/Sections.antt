-- The effect of the commands of a section, as far as they were executed, in histories that are extended.
use Rattle.std.specs.Prelude.{◌≡◌, ◌⊎◌, ℕ, ◌+◌, ◌<◌, ◌≤◌, nat_eq, ⊤, Bool, List, [], ◌∷◌, ◌++◌, All, AllPairs, Option, Some, None, length, take, drop, map, flat_map, filter, slice_get, if◌then◌else◌}
use Rattle.std.specs.List.{range_with_len}
use Rattle.thp_history.specs.declared.events.Event.{Event}
use Rattle.thp_history.specs.declared.shape.Shape.{Shape}
use Rattle.thp_history.specs.Prelude.{History, events_of}
use Rattle.thp_script.specs.declared.script.Command.{Command}
use Rattle.thp_script.specs.declared.script.Op.{Op}
use Rattle.thp_script.specs.declared.script.Op.TheVariants as op
use Rattle.thp_worker.specs.declared.answer_log.Answers.{Answers}
use Rattle.thp_worker.specs.declared.reply.Answer.{Answer}
use Rattle.thp_worker.specs.declared.reply.Rest.{Rest}
use Rattle.thp_worker.specs.declared.reply.SectionOutcome.{SectionOutcome}
use Rattle.thp_worker.specs.declared.command.CommandProgress.{CommandProgress}
use Rattle.thp_worker.specs.Does.{Open, Reaction, Does, IsFit}
use Rattle.thp_worker.specs.Fronts.{Fronts, Goes, Grows, OutOf}
use Rattle.thp_worker.specs.OpenBatches.{is_open, OpenOn}
use Rattle.thp_worker.specs.Turns.{CommandState, On, Ended, StepAnswer, Turned, TurnsOut, IsProgressAfter, IsReady, StaysReady, next_step, no_progress}

-- A step that a caller made: its node, the number of the node's events before it, the caller's open batch there before it, its
-- own events, which follow directly, the step and its result, and the open batch after it.
pub record Made : Type 0 where
  pub node : ℕ
  pub before : ℕ
  pub batch : Option Open
  pub own : List Event
  pub reported : StepAnswer
  pub after : Option Open

-- the step of caller c is in the histories of the nodes
pub record IsMade (shape : ℕ → Shape) (history : ℕ → History) (c : ℕ) (m : Made) : Type 0 where
  pub within : m.before + length m.own ≤ length (history m.node)
  pub stands : take (length m.own) (drop m.before (history m.node)) ≡ m.own
  pub does : Does (shape m.node) (take m.before (history m.node)) c m.batch m.reported.step m.own m.reported.answer m.after

-- of two steps on one node, the later one comes after the events of the earlier one
abbrev pub ComesBefore : Made → Made → Type 0
ComesBefore a b = a.node ≡ b.node → a.before + length a.own ≤ b.before

-- the events of those steps that are on node n, in order
abbrev pub own_events : ℕ → List Made → List Event
own_events n ms = flat_map (λ (m : Made). m.own) (filter (λ (m : Made). nat_eq m.node n) ms)

-- the open batches, with this one on node n
abbrev pub with_batch : (ℕ → Option Open) → ℕ → Option Open → ℕ → Option Open
with_batch bs n b m = if nat_eq m n then b else bs m

-- the open batches after the steps
unfoldable pub batches_after : (ℕ → Option Open) → List Made → ℕ → Option Open
batches_after bs [] = bs
batches_after bs (m ∷ ms) = batches_after (with_batch bs m.node m.after) ms

-- each step begins with the open batch that the steps before it left on its node
unfoldable pub Carries : (ℕ → Option Open) → List Made → Type 0
Carries bs [] = ⊤
Carries bs (m ∷ ms) = (m.batch ≡ bs m.node) × Carries (with_batch bs m.node m.after) ms

-- Caller c made these steps, in order, after what the holder knew before, and they are all that it did.
pub record Steps (c : ℕ) (old new : Fronts) (ms : List Made) : Type 0 where
  pub each : All (IsMade old.shape new.front c) ms
  pub in_order : AllPairs ComesBefore ms
  pub behind : All (λ (m : Made). length (old.front m.node) ≤ m.before) ms
  pub own : (n : ℕ) → events_of c (new.front n) ≡ events_of c (old.front n) ++ own_events n ms
  pub carries : Carries (old.batches c) ms
  pub batches : (n : ℕ) → new.batches c n ≡ batches_after (old.batches c) ms n

-- the steps and their results
abbrev pub step_results : List Made → List StepAnswer
step_results ms = map (λ (m : Made). m.reported) ms

-- Caller c continued a command, from where it was begun.
pub record Proceeds (c : ℕ) (command : Command) (begun : CommandProgress) (old new : Fronts) (p : CommandState) : Type 0 where
  pub made : List Made
  pub steps : Steps c old new made
  pub on_node : All (λ (m : Made). m.node ≡ command.node) made
  pub turned : (reported : List StepAnswer) → IsProgressAfter command.op reported begun → Turned command.op (reported ++ step_results made) p
  pub ready : StaysReady (new.batches c command.node) p

-- memory was lacking for a step of this command on node n, which would have recorded an event
pub record WantsMemory (c n : ℕ) (o : Op) (old new : Fronts) : Type 0 where
  pub before : Fronts
  pub begun : CommandProgress
  pub goes : Goes c old before
  pub lacks : OutOf c n (next_step o begun) before new

-- memory was lacking for a step of one of these commands, or of a put back
pub record MayWant (c : ℕ) (commands : List Command) (old new : Fronts) : Type 0 where
  pub command : Command
  pub listed : ((k : ℕ) × (slice_get commands k ≡ Some command)) ⊎ (command.op ≡ op.PutBack)
  pub wants : WantsMemory c command.node command.op old new

-- a command that was executed: its steps, and its answer
pub record Turn : Type 0 where
  pub command : Command
  pub steps : List Made
  pub answer : Reaction

-- the steps are on the command's node, and are those of the command
pub record IsTurn (t : Turn) : Type 0 where
  pub on_node : All (λ (m : Made). m.node ≡ t.command.node) t.steps
  pub turns_out : TurnsOut t.command.op (step_results t.steps) t.answer

abbrev pub turn_command : Turn → Command
turn_command t = t.command

abbrev pub steps_of : List Turn → List Made
steps_of ts = flat_map (λ (t : Turn). t.steps) ts

abbrev pub put_back_on : ℕ → Command
put_back_on n = record { node = n; op = op.PutBack }

-- the put backs of the open batches on this many nodes from node `first` on, in ascending order
abbrev pub closing_from : (ℕ → Option Open) → ℕ → ℕ → List Command
closing_from bs first count = map put_back_on (filter (λ n. is_open (bs n)) (range_with_len first count))

-- the put backs of all open batches
abbrev pub closing : ℕ → (ℕ → Option Open) → List Command
closing nodes bs = closing_from bs 0 nodes

-- the answers to commands, numbered from k on, each with its command's node
abbrev pub answers_from : ℕ → List Turn → List Answer
answers_from k [] = []
answers_from k (t ∷ ts) = record { command = k; node = t.command.node; reply = t.answer } ∷ answers_from (k + 1) ts

-- a command for an existing node
pub record IsWorkFor (nodes : ℕ) (command : Command) : Type 0 where
  pub node_exists : command.node < nodes
  pub fits : IsFit command.op

-- the steps of a command that was begun, and can continue with these open batches
pub record IsProgressOn (bs : ℕ → Option Open) (command : Command) (ms : List Made) (b : CommandProgress) : Type 0 where
  pub on_node : All (λ (m : Made). m.node ≡ command.node) ms
  pub begun : IsProgressAfter command.op (step_results ms) b
  pub ready : IsReady (bs command.node) b

-- the steps belong to the command that comes next; there are none if there is no such command
abbrev pub IsNext : (ℕ → Option Open) → Option Command → List Made → CommandProgress → Type 0
IsNext bs (Some command) ms begun = IsProgressOn bs command ms begun
IsNext bs None ms begun = (ms ≡ []) × (begun ≡ no_progress)

-- Caller c executed the first commands of its section, and made the steps of the next one that `begun` counts. The steps and the
-- answers of each are its turn, and `opened` is the nodes on which they left a batch open.
pub record Begins (c : ℕ) (old new : Fronts) (commands : List Command) (answers : List Answer) (opened : List Bool) (begun : CommandProgress) : Type 0 where
  pub turns : List Turn
  pub made : List Made
  pub grows : Grows old new
  pub steps : Steps c old new (steps_of turns ++ made)
  pub each : All IsTurn turns
  pub done : map turn_command turns ≡ take (length turns) commands
  pub answered : answers ≡ answers_from 0 turns
  pub next : IsNext (new.batches c) (slice_get commands (length turns)) made begun
  pub known : OpenOn old.nodes opened (batches_after (old.batches c) (steps_of turns))

-- Caller c executed all commands of its section, and put back `back` of the batches left open, in ascending order of nodes;
-- `opened` is the nodes on which one is still open.
pub record Ends (c : ℕ) (old new : Fronts) (commands : List Command) (answers : List Answer) (opened : List Bool) (back : ℕ) : Type 0 where
  pub turns : List Turn
  pub closed : List Turn
  pub grows : Grows old new
  pub steps : Steps c old new (steps_of turns ++ steps_of closed)
  pub each : All IsTurn turns
  pub each_closed : All IsTurn closed
  pub done : map turn_command turns ≡ commands
  pub answered : answers ≡ answers_from 0 turns
  pub closes : closing old.nodes (batches_after (old.batches c) (steps_of turns)) ≡ map turn_command closed ++ closing old.nodes (new.batches c)
  pub count : length closed ≡ back
  pub known : OpenOn old.nodes opened (new.batches c)

-- The open batch on node n was put back, with this turn; the other open batches don't change.
pub record PutBackDone (c n : ℕ) (old new : Fronts) (answer : Reaction) : Type 0 where
  pub turn : Turn
  pub is : turn.command ≡ put_back_on n
  pub turns : IsTurn turn
  pub steps : Steps c old new turn.steps
  pub shut : new.batches c n ≡ None
  pub elsewhere : (k : ℕ) → (k ≡ n → ⊥) → new.batches c k ≡ old.batches c k

-- the put back of the open batch on node n, or no step if the node stayed busy
abbrev pub PutsBack : ℕ → ℕ → Fronts → Fronts → CommandState → Type 0
PutsBack c n old new (Ended answer) = PutBackDone c n old new answer
PutsBack c n old new (On begun) = Steps c old new []

abbrev pub progress_of : Rest → CommandProgress
progress_of r = record { steps = r.steps; so_far = r.so_far }

-- a section that was executed, with no open batch, or that stopped at a command or at a put back of its end
abbrev pub WorksTo : ℕ → Fronts → Fronts → List Command → List Answer → List Bool → Option Rest → Type 0
WorksTo c old new commands answers opened None = (n : ℕ) × Ends c old new commands answers opened n × (closing old.nodes (new.batches c) ≡ [])
WorksTo c old new commands answers opened (Some r) =
    (r.command ≡ length answers)
    × (((r.command < length commands) × Begins c old new commands answers opened (progress_of r)) ⊎ ((r.command ≡ length commands) × Ends c old new commands answers opened r.steps))

-- Caller c executed the commands of its section and the put backs at its end, all or up to where it stopped. There is room for
-- the answers to all commands.
pub record Works (c : ℕ) (old new : Fronts) (commands : List Command) (w : SectionOutcome) : Type 0 where
  pub to : WorksTo c old new commands w.answers.items w.opened.items w.rest
  pub room : length commands ≤ w.answers.room

-- what happens to the section's answers
abbrev pub AnswersAre : Answers → SectionOutcome → Type 0
AnswersAre are w = w.answers.are ≡ are

-- nothing of the section is left
abbrev pub IsDoneFor : SectionOutcome → Type 0
IsDoneFor w = w.rest ≡ None
