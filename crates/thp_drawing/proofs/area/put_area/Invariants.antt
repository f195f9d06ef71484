use Rattle.std.proofs.Common.{◌≡◌, ◌++◌, codes, drop, length}
use Rattle.thp_drawing.specs.Areas.{outline}
use Rattle.thp_drawing.proofs.area.put_area.Given as goal

abbrev pub invariant-loop-place : goal.invariant-loop-place
invariant-loop-place l =
    l.text.items ++ outline l.sign l.height (length l.columns) l.place (drop l.place l.columns)
    ≡ l.fn.text.items ++ (codes "<path class=\"" ++ l.kind ++ l.shade ++ codes "\" d=\"M0 0")
    ++ outline l.sign l.height (length l.columns) 0 l.columns
