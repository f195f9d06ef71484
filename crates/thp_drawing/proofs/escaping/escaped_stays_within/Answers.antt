use Rattle.thp_drawing.proofs.Escapes.{escaped_stays}
use Rattle.thp_drawing.proofs.escaping.escaped_stays_within.Goals as goal

pub returns : goal.returns
returns c = escaped_stays
