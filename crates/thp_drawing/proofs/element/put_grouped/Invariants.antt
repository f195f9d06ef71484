use Rattle.std.proofs.Common.{◌≡◌, ◌++◌, drop, length}
use Rattle.thp_drawing.specs.Grouped.{in_groups}
use Rattle.thp_drawing.proofs.element.put_grouped.Given as goal

abbrev pub invariant-loop-place : goal.invariant-loop-place
invariant-loop-place l =
    l.text.items ++ in_groups (length l.digits) l.place (drop l.place l.digits) ≡ l.fn.text.items ++ in_groups (length l.digits) 0 l.digits
