-- Many nodes, each drawn small: its queue, and the frames that it gave back, over its events, on the same scales for all.
use Rattle.std.specs.Prelude.{ℕ, Bool, ◌+◌, ◌-◌, ◌/◌, ◌%◌, ◌||◌, max, min, List, [], ◌∷◌, ◌++◌, length, take, codes, if◌then◌else◌, nat_eq, Option, Some, None, decimal}
use Rattle.thp_metrics.specs.declared.column.Column.{Column}
use Rattle.thp_drawing.specs.Areas.{step_to}
use Rattle.thp_drawing.specs.Axes.{room_of}
use Rattle.thp_drawing.specs.Elements.{group_end, group_start, item_at, text_at}
use Rattle.thp_drawing.specs.Grouped.{grouped, many}
use Rattle.thp_drawing.specs.Quantities.{most_of, quantity_class, span_in}
use Rattle.thp_drawing.specs.Scales.{plus, scaled, times}
use Rattle.thp_drawing.specs.declared.grid.Extents.{Extents}
use Rattle.thp_drawing.specs.declared.node.IllegalEvent.{IllegalEvent}
use Rattle.thp_drawing.specs.declared.node.DrawnNode.{DrawnNode}
use Rattle.thp_drawing.specs.declared.quantity.Quantity.{Quantity}
use Rattle.thp_drawing.specs.declared.quantity.Quantity.TheVariants.{Given, Queue}

-- at most so many nodes are drawn: the first
abbrev pub most_cells : ℕ
most_cells = 256

abbrev pub cells_of : List DrawnNode → List DrawnNode
cells_of nodes = take most_cells nodes

-- ---- scales

-- the greatest number of a quantity in any node
abbrev pub most_among : Quantity → List DrawnNode → ℕ
most_among q [] = 0
most_among q (d ∷ more) = max (most_of q d.columns.items) (most_among q more)

-- the greatest number of events that a node has room for
abbrev pub most_room : List DrawnNode → ℕ
most_room [] = 0
most_room (d ∷ more) = max (room_of d) (most_room more)

-- the numbers that are drawn in full width and height
abbrev pub extents_of : List DrawnNode → Extents
extents_of nodes = record { events = most_room nodes; queued = most_among Queue nodes; given = most_among Given nodes }

-- ---- areas

-- columns are drawn in steps of four; the last step may have fewer: column j of n is the last of its step
abbrev pub ends_step : ℕ → ℕ → Bool
ends_step n j = nat_eq ((j + 1) % 4) 0 || nat_eq (j + 1) n

-- the width of the step that ends with column j of n, if all are this wide
abbrev pub step_width : ℕ → ℕ → ℕ → ℕ
step_width wide n j = scaled wide (j + 1) n - scaled wide (j - j % 4) n

-- a step to this height and this far to the right, if it ends here
abbrev pub step_if : Bool → List ℕ → ℕ → ℕ → List ℕ
step_if ends sign high wide = if ends then step_to sign high wide else []

-- the greatest number so far of the step that column j is in, for the next column: 0 if that begins a step
abbrev pub greatest_left : Bool → ℕ → ℕ
greatest_left ends number = if ends then 0 else number

-- the outline over columns from column j on, of n in all: to the greatest number of each step, given that of the step so far
abbrev pub stepped : List ℕ → Quantity → ℕ → ℕ → ℕ → ℕ → ℕ → ℕ → List Column → List ℕ
stepped sign q high most wide n j sofar [] = []
stepped sign q high most wide n j sofar (c ∷ more) =
    step_if (ends_step n j) sign (scaled high (max (span_in q c).greatest sofar) most) (step_width wide n j)
    ++ stepped sign q high most wide n (j + 1) (greatest_left (ends_step n j) (max (span_in q c).greatest sofar)) more

-- the area below it, on a scale where `most` is `high`
unfoldable pub stepped_area : List ℕ → Quantity → ℕ → ℕ → ℕ → List Column → List ℕ
stepped_area sign q high most wide columns =
    (codes "<path class=\"" ++ quantity_class q ++ codes "\" d=\"M0 0")
    ++ stepped sign q high most wide (length columns) 0 0 columns ++ codes "V0z\"/>\n"

-- ---- nodes

-- the number of nodes in a row, and the height of a row
abbrev pub cells_across : ℕ
cells_across = 4

abbrev pub cell_height : ℕ
cell_height = 1250

-- the line of an illegal event
abbrev pub cell_mark : Option IllegalEvent → List ℕ
cell_mark None = []
cell_mark (Some illegal) = text_at (codes "bad") 660 0 (codes "illegal line " ++ decimal illegal.line)

-- the width of a node's events
abbrev pub cell_wide : Extents → DrawnNode → ℕ
cell_wide e d = scaled 1575 (room_of d) e.events

-- lines at the heights of the greatest numbers of all nodes, and between the areas
abbrev pub cell_rules : List ℕ
cell_rules = codes "<path class=\"rule\" d=\"M0 -500h1575M0 300h1575M0 -500v800\"/>\n"

abbrev pub cell_line : List ℕ
cell_line = codes "<path class=\"zero\" d=\"M0 0h1575\"/>\n</g>\n"

-- the areas of a node
unfoldable pub cell_areas : Extents → DrawnNode → List ℕ
cell_areas e d =
    group_start 0 720 ++ cell_rules ++ stepped_area (codes "-") Queue 500 e.queued (cell_wide e d) d.columns.items
    ++ stepped_area [] Given 300 e.given (cell_wide e d) d.columns.items ++ cell_line

-- the title of node n: its number, an illegal event, and its greatest queue
unfoldable pub cell_title : ℕ → DrawnNode → List ℕ
cell_title n d =
    text_at (codes "ink") 0 0 (codes "node " ++ decimal n) ++ cell_mark d.illegal
    ++ text_at (codes "soft") 0 150 (codes "most queued " ++ grouped (most_of Queue d.columns.items))

-- node n, at its place in the grid below this height
unfoldable pub cell_at : ℕ → Extents → ℕ → DrawnNode → List ℕ
cell_at top e n d =
    group_start (plus 150 (times 1740 (n % cells_across))) (plus top (times cell_height (n / cells_across)))
    ++ cell_title n d ++ cell_areas e d ++ group_end

-- nodes from node n on
abbrev pub cells_drawn : ℕ → Extents → ℕ → List DrawnNode → List ℕ
cells_drawn top e n [] = []
cells_drawn top e n (d ∷ more) = cell_at top e n d ++ cells_drawn top e (n + 1) more

-- the lower end of so many nodes
abbrev pub cells_foot : ℕ → ℕ → ℕ
cells_foot top count = plus top (times cell_height (plus count 3 / cells_across))

-- ---- words

-- which nodes are drawn, of all
abbrev pub chosen_words : ℕ → List ℕ
chosen_words count =
    (codes "Nodes 0 to " ++ grouped (min most_cells count - 1) ++ codes " of " ++ grouped count)
    ++ codes ", all on the same scales; thpdraw --node draws any of them alone, with all its panels."

-- the quantities, with the numbers that have full height and width
unfoldable pub extent_items : Extents → List ℕ
extent_items e =
    item_at (codes "s2") 0 (codes "queue: up to " ++ many e.queued (codes "page"))
    ++ item_at (codes "given") 2400 (codes "given back: up to " ++ many e.given (codes "frame"))
    ++ text_at (codes "soft") 5100 150 (codes "width: " ++ many e.events (codes "event"))

-- both, below the picture's title
unfoldable pub grid_heads : ℕ → Extents → List ℕ
grid_heads count e =
    text_at (codes "soft") 150 640 (chosen_words count) ++ group_start 150 660 ++ extent_items e ++ group_end

-- the upper end of the grid
abbrev pub cells_top : ℕ
cells_top = 1100
