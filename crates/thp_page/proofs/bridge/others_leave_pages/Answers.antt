use Rattle.thp_page.proofs.Recording.{others_leave_pages}
use Rattle.thp_page.proofs.bridge.others_leave_pages.Goals as goal

pub returns : goal.returns
returns c = others_leave_pages
