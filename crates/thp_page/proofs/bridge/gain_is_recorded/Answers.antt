use Rattle.thp_page.proofs.Recording.{gain_is_recorded}
use Rattle.thp_page.proofs.bridge.gain_is_recorded.Goals as goal

pub returns : goal.returns
returns c = gain_is_recorded
