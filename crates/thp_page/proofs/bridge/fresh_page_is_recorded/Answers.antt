use Rattle.thp_page.proofs.Recording.{fresh_page_is_recorded}
use Rattle.thp_page.proofs.bridge.fresh_page_is_recorded.Goals as goal

pub returns : goal.returns
returns c = fresh_page_is_recorded
