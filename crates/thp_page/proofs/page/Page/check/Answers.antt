use Rattle.std.proofs.Common.{rules}
use Rattle.thp_page.proofs.page.Page.check.Goals as goal

pub returns-in-Gain-MapSub : goal.returns-in-Gain-MapSub
returns-in-Gain-MapSub c = search rules

pub returns-in-Gain-Write : goal.returns-in-Gain-Write
returns-in-Gain-Write c = search rules

pub returns-in-Gain-Zero : goal.returns-in-Gain-Zero
returns-in-Gain-Zero c = search rules

pub returns-in-Loss-UnmapSub : goal.returns-in-Loss-UnmapSub
returns-in-Loss-UnmapSub c = search rules
