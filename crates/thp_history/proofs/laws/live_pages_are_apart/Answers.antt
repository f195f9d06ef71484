use Rattle.thp_history.proofs.BlockPages.{pages_apart}
use Rattle.thp_history.proofs.laws.live_pages_are_apart.Goals as goal

pub returns : goal.returns
returns c = pages_apart
