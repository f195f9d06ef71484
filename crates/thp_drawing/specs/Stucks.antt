-- The pages whose split is prevented by pins, above a node's panels.
use Rattle.std.specs.Prelude.{ℕ, ◌+◌, ◌-◌, min, List, [], ◌∷◌, ◌++◌, length, take, codes, if◌then◌else◌, nat_le, decimal}
use Rattle.thp_metrics.specs.declared.waiting.StuckPage.{StuckPage}
use Rattle.thp_drawing.specs.Elements.{text_at}
use Rattle.thp_drawing.specs.Grouped.{grouped, many}
use Rattle.thp_drawing.specs.Scales.{plus, times}
use Rattle.thp_drawing.specs.declared.node.DrawnNode.{DrawnNode}

-- the text about a page: how often it was found pinned, and since which event it waits
unfoldable pub stuck_words : StuckPage → List ℕ
stuck_words x =
    codes "stuck by pins: page " ++ decimal x.page ++ codes ", found pinned " ++ many x.finds (codes "time")
    ++ codes ", waits since event " ++ grouped x.since

-- the lines of pages from page n on, below each other from this height on
abbrev pub stuck_lines : ℕ → ℕ → List StuckPage → List ℕ
stuck_lines y n [] = []
stuck_lines y n (x ∷ more) = text_at (codes "ink") 900 (plus y (times 165 n)) (stuck_words x) ++ stuck_lines y (n + 1) more

-- the number of pages that have a line each, those that have waited longest
abbrev pub listed_stuck : ℕ
listed_stuck = 5

-- the text about the number of further pages
unfoldable pub more_words : ℕ → List ℕ
more_words n = codes "stuck by pins: " ++ many n (codes "more page")

abbrev pub more_line : ℕ → ℕ → List ℕ
more_line y count =
    if nat_le count listed_stuck then []
    else text_at (codes "ink") 900 (plus y (times 165 listed_stuck)) (more_words (count - listed_stuck))

-- the text about the stuck pages of a node, from this height on
unfoldable pub stuck_text : ℕ → DrawnNode → List ℕ
stuck_text y d = stuck_lines y 0 (take listed_stuck d.stuck.items) ++ more_line y (length d.stuck.items)

-- its height
abbrev pub stuck_height : DrawnNode → ℕ
stuck_height d = times 165 (min (length d.stuck.items) (listed_stuck + 1))
