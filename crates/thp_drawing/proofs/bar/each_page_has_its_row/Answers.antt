use Rattle.thp_drawing.proofs.RowLaws.{each_has_its_row}
use Rattle.thp_drawing.proofs.bar.each_page_has_its_row.Goals as goal

pub returns : goal.returns
returns c = each_has_its_row c.each_frame_once.ensures.sum
