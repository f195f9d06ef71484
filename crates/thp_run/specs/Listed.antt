-- Sections whose answers are stored in vectors, which contracts see as lists.
use Rattle.std.specs.Prelude.{◌≡◌, ◌-◌, ◌&&◌, ℕ, nat_eq, Bool, true, false, List, [], ◌∷◌, length, map, replicate, None, Option, if◌then◌else◌}
use Rattle.thp_worker.specs.declared.answer_log.Answers.TheVariants.{Kept}
use Rattle.thp_worker.specs.declared.reply.Answer.{Answer}
use Rattle.thp_worker.specs.declared.reply.Rest.{Rest}
use Rattle.thp_worker.specs.declared.reply.SectionLog.{SectionLog}
use Rattle.thp_worker.specs.Prelude.{Fronts, HasNoBatch, WorksTo, marked}
use Rattle.thp_script.specs.declared.script.Command.{Command}

-- the result of a section: its answers, and where it stopped
pub record WorkedList : Type 0 where
  pub answers : List Answer
  pub rest : Option Rest

-- the answers of a worker's section
pub record SectionList : Type 0 where
  pub worker : ℕ
  pub answers : List Answer

-- Caller c, which had no open batch, executed the commands of its section and the put backs at its end, all or up to where it
-- stopped; `opened` is the nodes on which it left a batch open.
pub record WorksOn (c : ℕ) (old new : Fronts) (commands : List Command) (w : WorkedList) : Type 0 where
  pub shut : HasNoBatch c old
  pub opened : List Bool
  pub works : WorksTo c old new commands w.answers opened w.rest

-- for each node, whether a batch is open there after commands with these answers
abbrev pub left_open : List Bool → List Command → List Answer → List Bool
left_open opened [] answers = opened
left_open opened (command ∷ commands) [] = opened
left_open opened (command ∷ commands) (answer ∷ answers) = left_open (marked opened command answer.reply) commands answers

-- how many open batches are still to be put back, after a node on which one is open, or none
abbrev pub to_put_back : Bool → ℕ → ℕ
to_put_back true back = back - 1
to_put_back false back = back

-- whether a batch stays open, before which `back` open batches are still to be put back
abbrev pub stays_open : Bool → ℕ → Bool
stays_open open_here back = open_here && nat_eq back 0

-- for each node, whether a batch is open there after the first `back` of them were put back
abbrev pub without_first : ℕ → List Bool → List Bool
without_first back [] = []
without_first back (open_here ∷ opened) = stays_open open_here back ∷ without_first (to_put_back open_here back) opened

-- for each node, whether a batch is open there when a section stopped
abbrev pub open_at : ℕ → List Command → List Answer → Rest → List Bool
open_at nodes commands answers rest =
    without_first (if nat_eq rest.command (length commands) then rest.steps else 0) (left_open (replicate nodes false) commands answers)

-- nothing of the section is left
abbrev pub NothingIsLeft : WorkedList → Type 0
NothingIsLeft w = w.rest ≡ None

-- a section as reports see it: all of its answers are stored
abbrev pub reported_section : SectionList → SectionLog
reported_section s = record { worker = s.worker; answers = record { items = s.answers; are = Kept; room = length s.answers } }

abbrev pub reported_sections : List SectionList → List SectionLog
reported_sections = map reported_section
