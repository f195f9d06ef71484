use Rattle.std.proofs.Common.{◌≡◌, ◌∙◌, ◌++◌, ℕ, List, OnOk, ap, codes, subst}
use Rattle.thp_drawing.specs.Axes.{event_axis}
use Rattle.thp_drawing.specs.Elements.{text_at}
use Rattle.thp_drawing.specs.Panels.{panels_drawn, panels_of}
use Rattle.thp_drawing.specs.Pictures.{node_drawn}
use Rattle.thp_drawing.specs.Scales.{plus}
use Rattle.thp_drawing.specs.Stucks.{stuck_text}
use Rattle.thp_drawing.specs.Titles.{node_title_words}
use Rattle.thp_drawing.proofs.Pieces.{seven}
use Rattle.thp_drawing.proofs.picture.put_node.Goals as goal

-- texts each of which is the one before and a piece behind it
seven_after : (t a b c d e f g : List ℕ) {u v w x y z : List ℕ} → u ≡ t ++ a → v ≡ u ++ b → w ≡ v ++ c → x ≡ w ++ d →
    y ≡ x ++ e → z ≡ y ++ f → z ++ g ≡ t ++ (a ++ b ++ c ++ d ++ e ++ f ++ g)
seven_after t a b c d e f g p q r s o i =
    ap (λ m. m ++ g) (i ∙ ap (λ m. m ++ f) (o ∙ ap (λ m. m ++ e) (s ∙ ap (λ m. m ++ d) (r ∙ ap (λ m. m ++ c) (q ∙ ap (λ m. m ++ b) p)))))
    ∙ seven t a b c d e f g

pub returns : goal.returns
unfolding node_drawn
returns c =
    let d = c.args.node.now in
    let P : List ℕ → Type 0 = λ t. OnOk c.put.result (c.put.new.text.items ≡ t) in
    let words = c.as_slice.ensures.value ∙ c.in_ok-put_node_words.ensures ∙ ap (λ (x : List ℕ). x ++ node_title_words c.args.number d) c.new-words.ensures.items in
    let stuck = c.plus.ensures ∙ ap (λ (z : ℕ). plus z 140) c.stuck_top.ensures in
    let axis = c.plus-2.ensures ∙ ap (λ (z : ℕ). plus z 110) c.axis_top.ensures in
    let title = c.in_ok-put_text.ensures ∙ ap (λ (x : List ℕ). c.put_group.new.text.items ++ text_at (codes "ink h") 150 240 x) words in
    let pages = c.in_ok-put_stuck_text.ensures ∙ ap (λ (z : ℕ). c.put_illegal_text.new.text.items ++ stuck_text z d) stuck in
    let panels = c.in_ok-put_panels.ensures ∙ ap (λ (z : ℕ). c.put_stuck_text.new.text.items ++ panels_drawn z (panels_of d) d) c.pages_top.ensures in
    let events = c.in_ok-put_event_axis.ensures ∙ ap (λ (z : ℕ). c.put_panels.new.text.items ++ event_axis z d) axis in
    subst P (seven_after c.args.text.now.items _ _ _ _ _ _ _ c.in_ok-put_group.ensures title c.in_ok-put_illegal_text.ensures pages panels events) c.put.ensures.text
