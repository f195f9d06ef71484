use Rattle.std.proofs.Common.{◌≡◌, OnOk, List, ℕ, subst, sym}
use Rattle.thp_drawing.specs.Titles.{node_title_words}
use Rattle.thp_drawing.proofs.Pieces.{three_after}
use Rattle.thp_drawing.proofs.title.put_node_words.Goals as goal

pub returns : goal.returns
unfolding node_title_words
returns c =
    let P : List ℕ → Type 0 = λ t. OnOk c.put_pieces-2.result (c.put_pieces-2.new.text.items ≡ t) in
    rw (sym c.from.ensures, sym c.from-2.ensures, sym c.saturating_sub.ensures)
    (subst P (three_after _ _ _ _ c.in_ok-put_pieces.ensures c.in_ok-put_threshold_words.ensures) c.put_pieces-2.ensures)
