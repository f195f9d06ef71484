use Rattle.std.proofs.Common.{◌≡◌, ◌++◌, drop, flat_map}
use Rattle.thp_drawing.specs.Elements.{piece_text}
use Rattle.thp_drawing.proofs.element.put_pieces.Given as goal

abbrev pub invariant-loop-piece : goal.invariant-loop-piece
invariant-loop-piece l =
    l.text.items ++ flat_map piece_text (drop l.piece-index l.pieces) ≡ l.fn.text.items ++ flat_map piece_text l.pieces
