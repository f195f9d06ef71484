use Rattle.thp_page.proofs.Recording.{split_is_recorded}
use Rattle.thp_page.proofs.bridge.split_is_recorded.Goals as goal

pub returns : goal.returns
returns c = split_is_recorded
