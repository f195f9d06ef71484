use Rattle.std.proofs.Common.{◌≡◌, ◌++◌, codes}
use Rattle.thp_drawing.specs.Axes.{uprights}
use Rattle.thp_drawing.proofs.axis.put_event_rules.Given as goal

abbrev pub invariant-loop-before : goal.invariant-loop-before
invariant-loop-before l =
    l.text.items ≡ l.fn.text.items ++ codes "<path class=\"rule\" d=\"" ++ uprights l.high l.step l.room l.before
