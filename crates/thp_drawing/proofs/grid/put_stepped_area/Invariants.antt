use Rattle.std.proofs.Common.{◌≡◌, ◌++◌, codes, drop, length}
use Rattle.thp_drawing.specs.Grids.{stepped}
use Rattle.thp_drawing.specs.Quantities.{quantity_class}
use Rattle.thp_drawing.proofs.grid.put_stepped_area.Given as goal

abbrev pub invariant-loop-place : goal.invariant-loop-place
invariant-loop-place l =
    l.text.items ++ stepped l.sign l.quantity l.high l.most l.wide (length l.columns) l.place l.so_far (drop l.place l.columns)
    ≡ l.fn.text.items ++ (codes "<path class=\"" ++ quantity_class l.quantity ++ codes "\" d=\"M0 0")
    ++ stepped l.sign l.quantity l.high l.most l.wide (length l.columns) 0 0 l.columns
