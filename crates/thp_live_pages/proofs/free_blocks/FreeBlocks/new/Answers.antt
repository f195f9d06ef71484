use Rattle.std.proofs.Common.{refl}
use Rattle.thp_live_pages.proofs.FreeSets.{all_unused}
use Rattle.thp_live_pages.proofs.free_blocks.FreeBlocks.new.Goals as goal

pub returns-clause-all : goal.returns-clause-all
returns-clause-all c = λ b. all_unused _ b refl
