use Rattle.std.proofs.Common.{◌≡◌, OnOk, List, ℕ, subst, sym}
use Rattle.thp_drawing.specs.Elements.{item_at}
use Rattle.thp_drawing.proofs.Pieces.{two_after}
use Rattle.thp_drawing.proofs.element.put_item.Goals as goal

pub returns : goal.returns
unfolding item_at
returns c =
    let P : List ℕ → Type 0 = λ t. OnOk c.put_words.result (c.put_words.new.text.items ≡ t) in
    rw (sym c.plus.ensures) (subst P (two_after _ _ _ c.in_ok-put_pieces.ensures) c.put_words.ensures)
