use Rattle.std.proofs.Common.{◌≡◌, ◌++◌, drop}
use Rattle.thp_drawing.specs.Stucks.{stuck_lines}
use Rattle.thp_drawing.proofs.title.put_stuck_text.Given as goal

abbrev pub invariant-loop-place : goal.invariant-loop-place
invariant-loop-place l =
    l.text.items ++ stuck_lines l.y l.place (drop l.place l.front)
    ≡ l.fn.text.items ++ stuck_lines l.y 0 l.front
