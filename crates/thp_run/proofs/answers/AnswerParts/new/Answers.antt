use Rattle.std.proofs.Common.{map}
use Rattle.thp_run.specs.Answers.{with_stored}
use Rattle.thp_run.specs.Reports.{shape_of}
use Rattle.thp_run.proofs.PartLaws.{from_start}
use Rattle.thp_run.proofs.answers.AnswerParts.new.Goals as goal

pub returns : goal.returns
returns g c = from_start (map shape_of c.args.nodes.now) (map with_stored c.args.sections.now)
