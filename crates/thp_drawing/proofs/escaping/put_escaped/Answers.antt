use Rattle.std.proofs.Common.{ap, refl}
use Rattle.std.proofs.lemmas.List.{drop_more}
use Rattle.thp_drawing.specs.Escapes.{escaped}
use Rattle.thp_drawing.proofs.Walks.{all_walked, piece_put}
use Rattle.thp_drawing.proofs.escaping.put_escaped.Goals as goal

pub loop-byte-preserved : goal.loop-byte-preserved
loop-byte-preserved c =
    let cut = drop_more c.args.words.now c.loop-byte.byte-index 0 c.loop-byte-test.true in
    piece_put _ _ _ c.in_ok-put_byte.ensures (ap escaped cut) c.loop-byte.invariant

pub returns : goal.returns
returns c = all_walked escaped c.args.words.now c.loop-byte.byte-index _ c.loop-byte-test.false refl c.loop-byte.invariant
