use Rattle.std.proofs.Common.{◌≡◌, OnOk, List, ℕ, subst}
use Rattle.thp_drawing.specs.Pictures.{picture_titles}
use Rattle.thp_drawing.proofs.Pieces.{two_after}
use Rattle.thp_drawing.proofs.picture.put_titles.Goals as goal

pub returns : goal.returns
unfolding picture_titles
returns c =
    let P : List ℕ → Type 0 = λ t. OnOk c.put_text-2.result (c.put_text-2.new.text.items ≡ t) in
    subst P (two_after _ _ _ c.in_ok-put_text.ensures) c.put_text-2.ensures
