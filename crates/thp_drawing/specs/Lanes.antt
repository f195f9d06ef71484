-- The callers of a node: a lane for each that ever had pages in its batch, whose bars show when.
use Rattle.std.specs.Prelude.{ℕ, zero, suc, Bool, false, ◌+◌, List, [], ◌++◌, codes, if◌then◌else◌, nat_le, nat_lt}
use Rattle.thp_metrics.specs.declared.column.Column.{Column}
use Rattle.thp_metrics.specs.Prelude.{shown_callers}
use Rattle.thp_drawing.specs.Axes.{tick}
use Rattle.thp_drawing.specs.Bars.{bar_at, bar_turns}
use Rattle.thp_drawing.specs.Rows.{max_turns, row_middle}
use Rattle.thp_drawing.specs.Scales.{times}
use Rattle.thp_drawing.specs.declared.bar.Bar.TheVariants.{BatchOf}
use Rattle.thp_drawing.specs.declared.node.DrawnNode.{DrawnNode}

-- the bar of caller c begins somewhere
abbrev pub has_lane : List Column → ℕ → Bool
has_lane columns c = nat_lt 0 (bar_turns (BatchOf c) false columns)

-- the number of the first k callers that have lanes
abbrev pub lanes_below : List Column → ℕ → ℕ
lanes_below columns zero = 0
lanes_below columns (suc k) = lanes_below columns k + (if has_lane columns k then 1 else 0)

-- the number of starts and ends of the bars of the first k callers
abbrev pub lane_turns_below : List Column → ℕ → ℕ
lane_turns_below columns zero = 0
lane_turns_below columns (suc k) = lane_turns_below columns k + bar_turns (BatchOf k) false columns

-- the number of lanes
unfoldable pub lane_count : List Column → ℕ
lane_count columns = lanes_below columns shown_callers

-- the number of starts and ends of all bars
unfoldable pub all_turns : List Column → ℕ
all_turns columns = lane_turns_below columns shown_callers

-- the height of a lane
abbrev pub lane_height : ℕ
lane_height = 140

-- the lane of caller c, at this height: the caller's number, and its bar
unfoldable pub lane_drawn : List Column → ℕ → ℕ → List ℕ
lane_drawn columns y c =
    tick [] c y ++ codes "<path class=\"lane s3\" d=\"" ++ bar_at (BatchOf c) y columns ++ codes "\"/>\n"

-- these, or nothing if the caller never had pages in its batch
abbrev pub lane_at : List Column → ℕ → ℕ → List ℕ
lane_at columns lane c = if has_lane columns c then lane_drawn columns (row_middle lane_height lane) c else []

-- the lanes of the first k callers
abbrev pub lanes : List Column → ℕ → List ℕ
lanes columns zero = []
lanes columns (suc k) = lanes columns k ++ lane_at columns (lanes_below columns k) k

-- all of them
unfoldable pub all_lanes : List Column → List ℕ
all_lanes columns = lanes columns shown_callers

-- their height: 0 if there are none, or if their bars can't be distinguished
abbrev pub lanes_height : DrawnNode → ℕ
lanes_height d =
    if nat_le (all_turns d.columns.items) max_turns then times lane_height (lane_count d.columns.items) else 0
