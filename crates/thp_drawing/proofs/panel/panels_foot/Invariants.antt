use Rattle.std.proofs.Common.{◌≡◌, drop}
use Rattle.thp_drawing.specs.Panels.{panels_foot}
use Rattle.thp_drawing.proofs.panel.panels_foot.Given as goal

abbrev pub invariant-loop-panel : goal.invariant-loop-panel
invariant-loop-panel l = panels_foot l.y (drop l.panel-index l.panel-items) l.node ≡ panels_foot l.top l.panel-items l.node
