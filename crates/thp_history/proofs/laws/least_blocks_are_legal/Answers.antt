use Rattle.thp_history.proofs.LeastBlocks.{least_same, least_is_legal, least_lasts}
use Rattle.thp_history.proofs.Blocks.{held_in_use}
use Rattle.thp_history.proofs.laws.least_blocks_are_legal.Goals as goal

pub returns-clause-held : goal.returns-clause-held
returns-clause-held c = held_in_use

pub returns-clause-same : goal.returns-clause-same
returns-clause-same c = least_same

pub returns-clause-legal : goal.returns-clause-legal
returns-clause-legal c = least_is_legal

pub returns-clause-longest : goal.returns-clause-longest
returns-clause-longest c = least_lasts
