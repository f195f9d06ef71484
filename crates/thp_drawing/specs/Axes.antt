-- Axes: numbers next to lines.
use Rattle.std.specs.Prelude.{ℕ, zero, suc, ◌-◌, List, [], ◌++◌, length, codes, decimal}
use Rattle.thp_drawing.specs.Elements.{group_end, group_start, text_at}
use Rattle.thp_drawing.specs.Grouped.{grouped}
use Rattle.thp_drawing.specs.Scales.{plus, round_step, scaled, steps_in, times}
use Rattle.thp_drawing.specs.declared.node.DrawnNode.{DrawnNode}

-- a number, and a line at its height
unfoldable pub tick : List ℕ → ℕ → ℕ → List ℕ
tick sign n high =
    codes "<path class=\"rule\" d=\"M0 " ++ sign ++ decimal high ++ codes "h6000\"/>\n<text class=\"soft e\" x=\"-60\" y=\""
    ++ sign ++ decimal high ++ codes "\" dy=\"40\">" ++ grouped n ++ codes "</text>\n"

-- the first k of them, one for each step
abbrev pub ticks : List ℕ → ℕ → ℕ → ℕ → List ℕ
ticks sign step most zero = []
ticks sign step most (suc k) = ticks sign step most k ++ tick sign (times step (suc k)) (scaled 1000 (times step (suc k)) most)

-- the line from which areas extend upwards and downwards, and the end of their group
abbrev pub base_line : List ℕ
base_line = codes "<path class=\"zero\" d=\"M0 0h6000\"/>\n<text class=\"soft e\" x=\"-60\" y=\"0\" dy=\"40\">0</text>\n</g>\n"

-- the number of a node's events that are drawn, and the number that there is room for
abbrev pub drawn_events : DrawnNode → ℕ
drawn_events d = d.prefixes - 1

abbrev pub room_of : DrawnNode → ℕ
room_of d = times d.width (length d.columns.items)

-- the step of their numbers, and how many there are, from 0 on
abbrev pub event_step : DrawnNode → ℕ
event_step d = round_step (drawn_events d)

abbrev pub event_marks : DrawnNode → ℕ
event_marks d = plus (steps_in (event_step d) (drawn_events d)) 1

-- the position of an event: the first column begins before any
abbrev pub event_at : ℕ → ℕ → ℕ
event_at room event = scaled 6000 event room

-- a vertical line of this height at a position
abbrev pub upright : ℕ → ℕ → List ℕ
upright high x = codes "M" ++ decimal x ++ codes " 0v" ++ decimal high

-- the first k vertical lines, one for each step of events; the axis is the first
abbrev pub uprights : ℕ → ℕ → ℕ → ℕ → List ℕ
uprights high step room zero = []
uprights high step room (suc k) = uprights high step room k ++ upright high (event_at room (times step k))

-- all of them, in a panel of this height
unfoldable pub event_rules : ℕ → DrawnNode → List ℕ
event_rules high d =
    codes "<path class=\"rule\" d=\"" ++ uprights high (event_step d) (room_of d) (event_marks d) ++ codes "\"/>\n"

-- the number of an event, below its line
abbrev pub event_number : ℕ → ℕ → List ℕ
event_number room event = text_at (codes "soft c") (event_at room event) 0 (grouped event)

-- the first k of them
abbrev pub event_numbers : ℕ → ℕ → ℕ → List ℕ
event_numbers step room zero = []
event_numbers step room (suc k) = event_numbers step room k ++ event_number room (times step k)

-- the numbers of events, at this height
unfoldable pub event_axis : ℕ → DrawnNode → List ℕ
event_axis y d =
    group_start 900 y ++ codes "<text class=\"soft e\" x=\"-130\" y=\"0\">event</text>\n"
    ++ event_numbers (event_step d) (room_of d) (event_marks d) ++ group_end
