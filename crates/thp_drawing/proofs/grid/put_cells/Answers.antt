use Rattle.std.proofs.Common.{◌≡◌, ◌+◌, drop, ap, refl}
use Rattle.thp_drawing.specs.Grids.{cells_drawn}
use Rattle.thp_drawing.proofs.Walks.{all_walked, at_place, piece_put}
use Rattle.thp_drawing.proofs.grid.put_cells.Goals as goal

pub loop-number-preserved : goal.loop-number-preserved
loop-number-preserved c =
    let n = c.loop-number.number in
    let d = c.index-nodes-number.result in
    let cut = at_place c.args.nodes.now n d c.loop-number-test.true c.index-nodes-number.is in
    piece_put _ _ _ c.in_ok-put_cell.ensures (ap (cells_drawn c.args.top c.args.extents n) cut) c.loop-number.invariant

pub returns : goal.returns
returns c =
    let n = c.loop-number.number in
    all_walked (cells_drawn c.args.top c.args.extents n) c.args.nodes.now n _ c.loop-number-test.false refl c.loop-number.invariant
