use Rattle.std.proofs.Common.{◌≡◌, ◌++◌, codes}
use Rattle.thp_drawing.specs.Axes.{event_numbers}
use Rattle.thp_drawing.specs.Elements.{group_start}
use Rattle.thp_drawing.proofs.axis.put_event_axis.Given as goal

abbrev pub invariant-loop-before : goal.invariant-loop-before
invariant-loop-before l =
    l.text.items
    ≡ l.fn.text.items ++ group_start 900 l.y ++ codes "<text class=\"soft e\" x=\"-130\" y=\"0\">event</text>\n"
    ++ event_numbers l.step l.room l.before
