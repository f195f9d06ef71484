use Rattle.std.proofs.Common.{◌≡◌, ◌∙◌, ◌+◌, ◌<◌, ℕ, List, ap, arith, drop, get_or, length, sym, refl}
use Rattle.thp_drawing.specs.Panels.{content_height, lower_end, panels_foot}
use Rattle.thp_drawing.specs.declared.node.DrawnNode.{DrawnNode}
use Rattle.thp_drawing.specs.declared.panel.Panel.{Panel}
use Rattle.thp_drawing.proofs.Walks.{same_place}
use Rattle.thp_drawing.proofs.panel.panels_foot.Goals as goal

-- the lower end of the panels from panel i on
foot_at : (y i : ℕ) (ps : List Panel) (p : Panel) (d : DrawnNode) {high foot : ℕ} → i < length ps →
    high ≡ content_height (get_or ps i p) d → foot ≡ lower_end y high →
    panels_foot foot (drop (i + 1) ps) d ≡ panels_foot y (drop i ps) d
foot_at y i ps p d inside is down =
    ap (λ (z : ℕ). panels_foot z (drop (i + 1) ps) d) (down ∙ ap (lower_end y) is)
    ∙ ap (λ (left : List Panel). panels_foot y left d) (sym (same_place ps ps i p refl inside))

pub loop-panel-preserved : goal.loop-panel-preserved
loop-panel-preserved c =
    let inside : c.loop-panel.panel-index < length c.panels_of-panels.result = omega (arith, ap length c.panels_of-panels.ensures) in
    foot_at _ _ _ _ _ inside c.content_height.ensures c.below-y.ensures ∙ c.loop-panel.invariant
