use Rattle.std.proofs.Common.{◌≡◌, ◌∙◌, ◌+◌, ◌++◌, ◌<◌, ℕ, List, ap, arith, drop, get_or, length, sym, refl}
use Rattle.thp_drawing.specs.Panels.{content_height, lower_end, panel_at, panels_drawn}
use Rattle.thp_drawing.specs.declared.node.DrawnNode.{DrawnNode}
use Rattle.thp_drawing.specs.declared.panel.Panel.{Panel}
use Rattle.thp_drawing.proofs.Walks.{piece_put, same_place}
use Rattle.thp_drawing.proofs.panel.put_panels.Goals as goal

-- the panels from panel i on
drawn_at : (y i high : ℕ) (ps : List Panel) (p : Panel) (d : DrawnNode) {foot : ℕ} → i < length ps →
    high ≡ content_height (get_or ps i p) d → foot ≡ lower_end y high →
    panels_drawn y (drop i ps) d ≡ panel_at (get_or ps i p) y high d ++ panels_drawn foot (drop (i + 1) ps) d
drawn_at y i high ps p d inside is down =
    let x = get_or ps i p in
    let more = drop (i + 1) ps in
    ap (λ (left : List Panel). panels_drawn y left d) (same_place ps ps i p refl inside)
    ∙ ap (λ (z : ℕ). panel_at x y z d ++ panels_drawn (lower_end y z) more d) (sym is)
    ∙ ap (λ (z : ℕ). panel_at x y high d ++ panels_drawn z more d) (sym down)

pub loop-panel-preserved : goal.loop-panel-preserved
loop-panel-preserved c =
    let inside : c.loop-panel.panel-index < length c.panels_of-panels.result = omega (arith, ap length c.panels_of-panels.ensures) in
    piece_put _ _ _ c.in_ok-put_panel.ensures (drawn_at _ _ _ _ _ _ inside c.content_height-high.ensures c.below-y.ensures) c.loop-panel.invariant
