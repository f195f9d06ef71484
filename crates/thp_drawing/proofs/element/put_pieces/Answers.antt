use Rattle.std.proofs.Common.{arith}
use Rattle.thp_drawing.proofs.Pieces.{all_put}
use Rattle.thp_drawing.proofs.element.put_pieces.Goals as goal

pub returns : goal.returns
returns c =
    all_put c.args.pieces.now c.loop-piece.piece-index c.args.text.now.items c.loop-piece.text.items (omega arith) c.loop-piece.invariant
