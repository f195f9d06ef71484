-- What came is one part longer.
use Rattle.thp_capi.proofs.TextSoFar.{reads_on_ok}
use Rattle.thp_capi.proofs.checks.read_on.Goals as goal

pub returns : goal.returns
returns c = reads_on_ok c.args.check c.args.part.now c.read_part.result c.read_part.ensures.text
