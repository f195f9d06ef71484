-- What handles hold, as types of the logic: an engine; a pass, or a check, and its room.
use denote.RattleType.{RattleType}
use Rattle.thp_node.specs.contracts.recorder.FullLog as kept
use Rattle.thp_node.specs.contracts.recorder.FullLogRecorder.TheImpl as keeps
use Rattle.thp_node.specs.contracts.recorder.CountOnly as counted
use Rattle.thp_node.specs.contracts.recorder.CountOnlyRecorder.TheImpl as counts
use Rattle.thp_capi.specs.contracts.checks.CheckStage as stage
use Rattle.thp_capi.specs.contracts.engine.Engine as engine
use Rattle.thp_capi.specs.contracts.held.Held as held
use Rattle.thp_capi.specs.contracts.room.Room as room
use Rattle.thp_capi.specs.contracts.shared_pass.SharedPass as pass

abbrev pub engine_row : RattleType
engine_row = held.the_row (engine.the_row kept.the_row keeps.ghosts) (engine.the_row counted.the_row counts.ghosts)

abbrev pub kept_pass : RattleType
kept_pass = pass.the_row kept.the_row keeps.ghosts

abbrev pub counted_pass : RattleType
counted_pass = pass.the_row counted.the_row counts.ghosts

abbrev pub pass_row : RattleType
pass_row = room.the_row (held.the_row kept_pass counted_pass)

abbrev pub check_row : RattleType
check_row = room.the_row stage.the_row
