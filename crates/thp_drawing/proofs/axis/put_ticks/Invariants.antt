use Rattle.std.proofs.Common.{◌≡◌, ◌++◌}
use Rattle.thp_drawing.specs.Axes.{ticks}
use Rattle.thp_drawing.proofs.axis.put_ticks.Given as goal

abbrev pub invariant-loop-before : goal.invariant-loop-before
invariant-loop-before l = l.text.items ≡ l.fn.text.items ++ ticks l.sign l.step l.most l.before
