use Rattle.std.proofs.Common.{◌≡◌, OnOk, List, ℕ, subst}
use Rattle.thp_drawing.specs.Pictures.{head}
use Rattle.thp_drawing.proofs.Pieces.{three_after}
use Rattle.thp_drawing.proofs.picture.put_head.Goals as goal

pub returns : goal.returns
unfolding head
returns c =
    let P : List ℕ → Type 0 = λ t. OnOk c.put_text.result (c.put_text.new.text.items ≡ t) in
    subst P (three_after _ _ _ _ c.in_ok-put_start.ensures c.in_ok-put_titles.ensures) c.put_text.ensures
