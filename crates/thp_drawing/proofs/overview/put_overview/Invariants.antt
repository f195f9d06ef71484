use Rattle.std.proofs.Common.{◌≡◌, ◌++◌, drop}
use Rattle.thp_drawing.specs.Overviews.{overview_heads, overview_lines}
use Rattle.thp_drawing.proofs.overview.put_overview.Given as goal

abbrev pub invariant-loop-number : goal.invariant-loop-number
invariant-loop-number l =
    l.text.items ++ overview_lines 1060 l.number (drop l.number l.nodes)
    ≡ l.fn.text.items ++ overview_heads ++ overview_lines 1060 0 l.nodes
