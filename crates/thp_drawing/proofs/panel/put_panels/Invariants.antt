use Rattle.std.proofs.Common.{◌≡◌, ◌++◌, drop}
use Rattle.thp_drawing.specs.Panels.{panels_drawn}
use Rattle.thp_drawing.proofs.panel.put_panels.Given as goal

abbrev pub invariant-loop-panel : goal.invariant-loop-panel
invariant-loop-panel l =
    l.text.items ++ panels_drawn l.y (drop l.panel-index l.panel-items) l.node
    ≡ l.fn.text.items ++ panels_drawn l.top l.panel-items l.node
