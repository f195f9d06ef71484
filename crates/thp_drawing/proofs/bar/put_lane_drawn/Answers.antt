use Rattle.std.proofs.Common.{◌≡◌, ◌++◌, [], OnOk, List, ℕ, codes, subst}
use Rattle.thp_drawing.specs.Axes.{tick}
use Rattle.thp_drawing.specs.Bars.{bar_at}
use Rattle.thp_drawing.specs.Lanes.{lane_drawn}
use Rattle.thp_drawing.specs.declared.bar.Bar.TheVariants.{BatchOf}
use Rattle.thp_drawing.proofs.Pieces.{four_after}
use Rattle.thp_drawing.proofs.bar.put_lane_drawn.Goals as goal

pub returns : goal.returns
unfolding lane_drawn
returns c =
    let put : ℕ → List ℕ = λ caller. tick [] caller c.args.y ++ codes "<path class=\"lane s3\" d=\"" ++ bar_at (BatchOf c.args.caller) c.args.y c.args.columns.now ++ codes "\"/>\n" in
    let P : List ℕ → Type 0 = λ t. OnOk c.put-2.result (c.put-2.new.text.items ≡ t) in
    subst (λ caller. P (c.args.text.now.items ++ put caller)) c.from.ensures
    (subst P (four_after _ _ _ _ _ c.in_ok-put_tick.ensures c.in_ok-put.ensures.text c.in_ok-put_bar.ensures) c.put-2.ensures.text)
