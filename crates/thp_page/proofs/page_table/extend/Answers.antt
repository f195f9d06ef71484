use Rattle.std.proofs.Common.{arith, ◌∙◌}
use Rattle.thp_page.specs.Prelude.{blank_descriptor}
use Rattle.thp_page.proofs.Paddings.{grown_once}
use Rattle.thp_page.proofs.page_table.extend.Goals as goal

pub loop-descriptors-preserved : goal.loop-descriptors-preserved
loop-descriptors-preserved c = grind (arith, grown_once)
