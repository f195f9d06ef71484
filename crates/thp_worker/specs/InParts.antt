-- A section whose commands arrive in parts.
use Rattle.std.specs.Prelude.{◌≡◌, ℕ, ◌<◌, ◌≤◌, ◌^◌, List, All, length}
use Rattle.thp_script.specs.declared.script.Command.{Command}
use Rattle.thp_worker.specs.declared.reply.SectionOutcome.{SectionOutcome}
use Rattle.thp_worker.specs.Fronts.{Fronts}
use Rattle.thp_worker.specs.Sections.{Begins, IsWorkFor}
use Rattle.thp_worker.specs.Turns.{no_progress}

-- Caller c executed these commands, which are the first of its section and all that it did, and each has an answer.
pub record DidFirst (c : ℕ) (old new : Fronts) (commands : List Command) (section : SectionOutcome) : Type 0 where
  pub begins : Begins c old new commands section.answers.items section.opened.items no_progress
  pub each : length section.answers.items ≡ length commands
  pub few : length commands < 2 ^ 32
  pub fit : All (IsWorkFor old.nodes) commands
  pub room : length commands ≤ section.answers.room
