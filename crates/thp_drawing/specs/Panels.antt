-- The panels of a node. A panel without content is left out.
use Rattle.std.specs.Prelude.{ℕ, List, [], ◌∷◌, ◌++◌, codes, if◌then◌else◌, nat_eq}
use Rattle.thp_metrics.specs.declared.stage.Stage.{Stage}
use Rattle.thp_metrics.specs.Prelude.{shown_pages}
use Rattle.thp_metrics.specs.declared.stage.Stage.TheVariants.{Allocated, PartlyMapped, Queued, InBatch, Split}
use Rattle.thp_drawing.specs.Areas.{quantity_areas, stage_area}
use Rattle.thp_drawing.specs.Axes.{base_line, event_rules, ticks}
use Rattle.thp_drawing.specs.Elements.{group_start, item_at, text_at}
use Rattle.thp_drawing.specs.Grouped.{grouped}
use Rattle.thp_drawing.specs.Lanes.{all_lanes, lanes_height}
use Rattle.thp_drawing.specs.Quantities.{last_of, most_in, most_of, pages_most, quantity_class, quantity_name, quantity_step, quantity_unit}
use Rattle.thp_drawing.specs.Quantities.{stage_class, stage_name}
use Rattle.thp_drawing.specs.Rows.{allocated_pages, first_rows_height, has_rows, rows_drawn, rows_height}
use Rattle.thp_drawing.specs.Scales.{plus, round_step, scaled, steps_in, times}
use Rattle.thp_drawing.specs.declared.node.DrawnNode.{DrawnNode}
use Rattle.thp_drawing.specs.declared.quantity.Quantity.{Quantity}
use Rattle.thp_drawing.specs.declared.quantity.Quantity.TheVariants.{Queue, InBatches, Held, Given, Splits, PinnedTries, UnderusedSplits, Wait, Nothing}
use Rattle.thp_drawing.specs.declared.panel.Panel.{Panel}
use Rattle.thp_drawing.specs.declared.panel.Panel.TheVariants.{FirstRows, Lanes, Quantities, Rows, Stages}

-- the panels of a node, from top to bottom; one has a row for each page, or the number of pages in each stage
abbrev pub panels_of : DrawnNode → List Panel
panels_of d =
    Quantities Queue InBatches ∷ Lanes ∷ Quantities Wait Nothing ∷ Quantities Held Given ∷ Quantities Splits PinnedTries
    ∷ Quantities UnderusedSplits Nothing ∷ (if has_rows d then Rows else Stages) ∷ FirstRows ∷ []

-- what the numbers of a panel count
abbrev pub unit_of : Panel → List ℕ
unit_of (Quantities up down) = quantity_unit up
unit_of Lanes = codes "caller"
unit_of Rows = codes "page"
unit_of Stages = codes "pages"
unit_of FirstRows = codes "page"

-- the height of what is drawn on a scale whose greatest number is this
abbrev pub height_of : ℕ → ℕ
height_of most = if nat_eq most 0 then 0 else 1000

-- the height of a panel's content: 0 if the panel is left out
abbrev pub content_height : Panel → DrawnNode → ℕ
content_height (Quantities up down) d = height_of (plus (most_of up d.columns.items) (most_of down d.columns.items))
content_height Lanes d = lanes_height d
content_height Rows d = rows_height (allocated_pages d)
content_height Stages d = height_of (pages_most d)
content_height FirstRows d = first_rows_height d

-- a quantity's name, its greatest number, and its number after the last event
abbrev pub quantity_words : Quantity → DrawnNode → List ℕ
quantity_words q d =
    quantity_name q ++ codes ": most " ++ grouped (most_of q d.columns.items) ++ codes ", last " ++ grouped (last_of q d.last)

-- these, in a panel's title, or nothing if all its numbers are 0
abbrev pub quantity_item : Quantity → ℕ → DrawnNode → List ℕ
quantity_item q x d = if nat_eq (most_of q d.columns.items) 0 then [] else item_at (quantity_class q) x (quantity_words q d)

-- its lines and areas, or nothing if all its numbers are 0
unfoldable pub quantity_half : List ℕ → Quantity → ℕ → DrawnNode → List ℕ
quantity_half sign q most d =
    if nat_eq (most_of q d.columns.items) 0 then []
    else ticks sign (quantity_step q most) most (steps_in (quantity_step q most) (most_of q d.columns.items))
    ++ quantity_areas sign q most d

-- the number that is 1,000 high on the scale of a quantity, by its own greatest number and that of the panel's other quantity: each
-- of two has a half
abbrev pub half_most : ℕ → ℕ → ℕ
half_most own other = if nat_eq other 0 then own else times 2 own

-- the content above and below the base line, on scales where these numbers are 1,000 high
unfoldable pub scaled_halves : Quantity → Quantity → ℕ → ℕ → DrawnNode → List ℕ
scaled_halves up down above lower_end d =
    group_start 0 (scaled 1000 (most_of up d.columns.items) above)
    ++ quantity_half (codes "-") up above d ++ quantity_half [] down lower_end d ++ base_line

-- the same, each quantity on its own scale
abbrev pub quantity_halves : Quantity → Quantity → DrawnNode → List ℕ
quantity_halves up down d =
    scaled_halves up down (half_most (most_of up d.columns.items) (most_of down d.columns.items))
    (half_most (most_of down d.columns.items) (most_of up d.columns.items)) d

-- the colour and the name of a stage that occurs
abbrev pub stage_item : Stage → ℕ → DrawnNode → List ℕ
stage_item x at d = if nat_eq (most_in x d.columns.items) 0 then [] else item_at (stage_class x) at (stage_name x)

unfoldable pub stage_items : DrawnNode → List ℕ
stage_items d =
    stage_item Allocated 0 d ++ stage_item PartlyMapped 1200 d ++ stage_item Queued 2400 d
    ++ stage_item InBatch 3600 d ++ stage_item Split 4800 d

-- the areas of the stages, the last on top, for means up to pages_most
unfoldable pub stages_drawn : DrawnNode → List ℕ
stages_drawn d =
    group_start 0 1000 ++ ticks (codes "-") (round_step (pages_most d)) (pages_most d) (steps_in (round_step (pages_most d)) (pages_most d))
    ++ stage_area Split d ++ stage_area InBatch d ++ stage_area Queued d ++ stage_area PartlyMapped d ++ stage_area Allocated d
    ++ base_line

-- which pages have rows, of so many
abbrev pub first_words : ℕ → List ℕ
first_words count =
    text_at (codes "ink") 0 150 (codes "rows of 60 of " ++ grouped count ++ codes " pages: those allocated first")

-- the colours and words above a panel's content
abbrev pub panel_title : Panel → DrawnNode → List ℕ
panel_title (Quantities up down) d = quantity_item up 0 d ++ quantity_item down 3000 d
panel_title Lanes d = item_at (codes "s3") 0 (codes "pages in its batch at least once in a column")
panel_title Rows d = stage_items d
panel_title Stages d = stage_items d
panel_title FirstRows d = first_words (allocated_pages d)

abbrev pub panel_content : Panel → DrawnNode → List ℕ
panel_content (Quantities up down) d = quantity_halves up down d
panel_content Lanes d = all_lanes d.columns.items
panel_content Rows d = rows_drawn (allocated_pages d) d
panel_content Stages d = stages_drawn d
panel_content FirstRows d = rows_drawn shown_pages d

-- the beginning of a panel, from this height on: what its numbers count
unfoldable pub panel_start : ℕ → List ℕ → List ℕ
panel_start y unit =
    group_start 900 y ++ codes "<text class=\"soft e\" x=\"-60\" y=\"150\">" ++ unit ++ codes "</text>\n"

-- a panel from this height on, whose content is this high
unfoldable pub panel_at : Panel → ℕ → ℕ → DrawnNode → List ℕ
panel_at p y high d =
    if nat_eq high 0 then []
    else panel_start y (unit_of p) ++ panel_title p d ++ group_start 0 260 ++ event_rules high d ++ panel_content p d ++ codes "</g>\n</g>\n"

-- the lower end of a panel that begins at this height
abbrev pub lower_end : ℕ → ℕ → ℕ
lower_end y high = if nat_eq high 0 then y else plus y (plus 360 high)

-- panels, one below the other from this height on
abbrev pub panels_drawn : ℕ → List Panel → DrawnNode → List ℕ
panels_drawn y [] d = []
panels_drawn y (p ∷ more) d = panel_at p y (content_height p d) d ++ panels_drawn (lower_end y (content_height p d)) more d

-- their lower end
abbrev pub panels_foot : ℕ → List Panel → DrawnNode → ℕ
panels_foot y [] d = y
panels_foot y (p ∷ more) d = panels_foot (lower_end y (content_height p d)) more d
