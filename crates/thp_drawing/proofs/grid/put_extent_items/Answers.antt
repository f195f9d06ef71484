use Rattle.std.proofs.Common.{◌≡◌, OnOk, List, ℕ, subst}
use Rattle.thp_drawing.specs.Grids.{extent_items}
use Rattle.thp_drawing.proofs.Pieces.{three_after}
use Rattle.thp_drawing.proofs.grid.put_extent_items.Goals as goal

pub returns : goal.returns
unfolding extent_items
returns c =
    let P : List ℕ → Type 0 = λ t. OnOk c.put_words.result (c.put_words.new.text.items ≡ t) in
    subst P (three_after _ _ _ _ c.in_ok-put_item.ensures c.in_ok-put_item-2.ensures) c.put_words.ensures
