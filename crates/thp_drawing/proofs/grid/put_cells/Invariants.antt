use Rattle.std.proofs.Common.{◌≡◌, ◌++◌, drop}
use Rattle.thp_drawing.specs.Grids.{cells_drawn}
use Rattle.thp_drawing.proofs.grid.put_cells.Given as goal

abbrev pub invariant-loop-number : goal.invariant-loop-number
invariant-loop-number l =
    l.text.items ++ cells_drawn l.top l.extents l.number (drop l.number l.nodes)
    ≡ l.fn.text.items ++ cells_drawn l.top l.extents 0 l.nodes
