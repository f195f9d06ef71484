-- The picture of a journal's nodes, as SVG: 7,200 units wide, and as high as its nodes are.
use Rattle.std.specs.Prelude.{ℕ, ◌+◌, List, [], ◌∷◌, ◌++◌, length, Option, Some, None, codes, decimal, if◌then◌else◌, nat_le}
use Rattle.thp_drawing.specs.Axes.{event_axis}
use Rattle.thp_drawing.specs.Elements.{group_end, group_start, text_at}
use Rattle.thp_drawing.specs.Grids.{cells_drawn, cells_foot, cells_of, cells_top, extents_of, grid_heads}
use Rattle.thp_drawing.specs.Overviews.{overview, overview_foot, title_foot}
use Rattle.thp_drawing.specs.Panels.{panels_drawn, panels_foot, panels_of}
use Rattle.thp_drawing.specs.Scales.{plus}
use Rattle.thp_drawing.specs.Stucks.{stuck_height, stuck_text}
use Rattle.thp_drawing.specs.Styles.{style}
use Rattle.thp_drawing.specs.Titles.{illegal_title, node_title_words}
use Rattle.thp_drawing.specs.declared.node.IllegalEvent.{IllegalEvent}
use Rattle.thp_drawing.specs.declared.node.DrawnNode.{DrawnNode}

-- where the text about a node's stuck pages begins, below its first illegal event
abbrev pub stuck_top : Option IllegalEvent → ℕ
stuck_top None = 280
stuck_top (Some illegal) = 460

-- where its panels begin
abbrev pub pages_top : DrawnNode → ℕ
pages_top d = plus (stuck_top d.illegal) (stuck_height d)

-- where they end
abbrev pub axis_top : DrawnNode → ℕ
axis_top d = panels_foot (pages_top d) (panels_of d) d

abbrev pub node_height : DrawnNode → ℕ
node_height d = plus (axis_top d) 300

-- node n, from this height on
unfoldable pub node_drawn : ℕ → ℕ → DrawnNode → List ℕ
node_drawn y n d =
    group_start 0 y ++ text_at (codes "ink h") 150 240 (node_title_words n d) ++ illegal_title d.illegal
    ++ stuck_text (plus (stuck_top d.illegal) 140) d ++ panels_drawn (pages_top d) (panels_of d) d
    ++ event_axis (plus (axis_top d) 110) d ++ group_end

-- nodes from node n on, one below the other
abbrev pub nodes_drawn : ℕ → ℕ → List DrawnNode → List ℕ
nodes_drawn y n [] = []
nodes_drawn y n (d ∷ more) = node_drawn y n d ++ nodes_drawn (plus y (node_height d)) (n + 1) more

-- their lower end
abbrev pub foot_of : ℕ → List DrawnNode → ℕ
foot_of y [] = y
foot_of y (d ∷ more) = foot_of (plus y (node_height d)) more

-- the name and the description for screen readers
abbrev pub name_words : List ℕ
name_words =
    codes "<title id=\"title\">Deferred split queues</title>\n"
    ++ codes "<desc id=\"desc\">Queue, batches, frames and pages of each node over its events; thpdraw --table lists them.</desc>\n"

abbrev pub picture_order_words : List ℕ
picture_order_words = codes "The events of a node follow each other from left to right; those of two nodes have no common time."

abbrev pub column_words : List ℕ
column_words = codes "Full colour: a column's least number; pale: its greatest; stacks: its mean; bars of pages: its last stage."

-- the beginning of a picture of this height
unfoldable pub picture_start : ℕ → List ℕ
picture_start high =
    codes "<svg xmlns=\"http://www.w3.org/2000/svg\" viewBox=\"0 0 7200 " ++ decimal high
    ++ codes "\" role=\"img\" aria-labelledby=\"title desc\">\n" ++ name_words ++ style
    ++ codes "<rect class=\"bg\" x=\"0\" y=\"0\" width=\"7200\" height=\"" ++ decimal high ++ codes "\"/>\n"

-- the title, and the caption about the order of events
unfoldable pub picture_titles : List ℕ
picture_titles = text_at (codes "ink hh") 150 300 (codes "Deferred split queues") ++ text_at (codes "soft") 150 480 picture_order_words

-- the beginning of a picture of this height, with its title and captions
unfoldable pub head : ℕ → List ℕ
head high = picture_start high ++ picture_titles ++ text_at (codes "soft") 150 640 column_words

-- the picture of nodes with all their panels
unfoldable pub full_picture : List DrawnNode → List ℕ
full_picture nodes =
    head (foot_of (overview_foot nodes) nodes) ++ overview nodes
    ++ nodes_drawn (overview_foot nodes) 0 nodes ++ codes "</svg>\n"

-- the picture of the first nodes, each drawn small
unfoldable pub grid_picture : List DrawnNode → List ℕ
grid_picture nodes =
    picture_start (cells_foot cells_top (length (cells_of nodes))) ++ picture_titles
    ++ grid_heads (length nodes) (extents_of (cells_of nodes))
    ++ cells_drawn cells_top (extents_of (cells_of nodes)) 0 (cells_of nodes) ++ codes "</svg>\n"

-- up to so many nodes are drawn with all their panels
abbrev pub full_nodes : ℕ
full_nodes = 8

-- the picture of nodes
abbrev pub picture_text : List DrawnNode → List ℕ
picture_text nodes = if nat_le (length nodes) full_nodes then full_picture nodes else grid_picture nodes

-- the picture of node n alone, with its number
unfoldable pub node_picture : ℕ → DrawnNode → List ℕ
node_picture n d = head (plus title_foot (node_height d)) ++ node_drawn title_foot n d ++ codes "</svg>\n"
