use Rattle.std.proofs.Common.{ap, refl}
use Rattle.thp_drawing.specs.Tables.{heads, table_lines_from}
use Rattle.thp_drawing.proofs.Pieces.{two_after}
use Rattle.thp_drawing.proofs.Walks.{all_walked, at_place, piece_put}
use Rattle.thp_drawing.proofs.table.put_table.Goals as goal

pub loop-number-init : goal.loop-number-init
unfolding heads
loop-number-init c = two_after _ _ (table_lines_from 0 c.args.nodes.now) c.in_ok-put.ensures.text

pub loop-number-preserved : goal.loop-number-preserved
loop-number-preserved c =
    let n = c.loop-number.number in
    let cut = at_place c.args.nodes.now n c.index-nodes-number.result c.loop-number-test.true c.index-nodes-number.is in
    piece_put _ _ _ c.in_ok-put_node.ensures (ap (table_lines_from n) cut) c.loop-number.invariant

pub returns : goal.returns
returns c =
    let n = c.loop-number.number in
    all_walked (table_lines_from n) c.args.nodes.now n _ c.loop-number-test.false refl c.loop-number.invariant
