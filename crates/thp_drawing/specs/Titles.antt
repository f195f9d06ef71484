-- The title of a node above its panels.
use Rattle.std.specs.Prelude.{ℕ, ◌-◌, List, [], ◌++◌, Option, Some, None, codes, decimal}
use Rattle.thp_journal_writer.specs.Prelude.{event_line}
use Rattle.thp_drawing.specs.Elements.{shortened, text_at}
use Rattle.thp_drawing.specs.Grouped.{many}
use Rattle.thp_drawing.specs.declared.node.IllegalEvent.{IllegalEvent}
use Rattle.thp_drawing.specs.declared.node.DrawnNode.{DrawnNode}

abbrev pub threshold_words : Option ℕ → List ℕ
threshold_words None = codes "off"
threshold_words (Some threshold) = codes "above " ++ decimal threshold

-- the title of node n: its size, its threshold, and the number of events drawn
unfoldable pub node_title_words : ℕ → DrawnNode → List ℕ
node_title_words n d =
    codes "node " ++ decimal n ++ codes ": " ++ many d.shape.blocks (codes "block") ++ codes " of 2^" ++ decimal d.shape.order
    ++ codes " frames, underused " ++ threshold_words d.shape.underused
    ++ (codes ", " ++ many (d.prefixes - 1) (codes "legal event"))

-- an illegal event, and the number of its line in the journal's text
abbrev pub illegal_title : Option IllegalEvent → List ℕ
illegal_title None = []
illegal_title (Some illegal) =
    text_at (codes "bad") 900 420
    (codes "illegal line " ++ decimal illegal.line ++ codes ": " ++ shortened (event_line illegal.event))
