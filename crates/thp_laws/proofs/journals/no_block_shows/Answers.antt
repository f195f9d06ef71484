use Rattle.thp_laws.proofs.WithoutBlocks.{one_text}
use Rattle.thp_laws.proofs.journals.no_block_shows.Goals as goal

pub returns : goal.returns
returns c = one_text
