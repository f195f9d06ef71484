use Rattle.std.proofs.Common.{◌≡◌, ◌++◌, drop, length}
use Rattle.thp_drawing.specs.Bars.{bar_at, bar_lines}
use Rattle.thp_drawing.proofs.bar.put_bar.Given as goal

abbrev pub invariant-loop-place : goal.invariant-loop-place
invariant-loop-place l =
    l.text.items ++ bar_lines l.bar l.y (length l.columns) l.place l.before (drop l.place l.columns)
    ≡ l.fn.text.items ++ bar_at l.bar l.y l.columns
