use Rattle.std.proofs.Common.{◌∙◌, ◌≤◌, length, sym, subst, arith}
use Rattle.thp_check.proofs.Showing.{got, number_is, pages_more}
use Rattle.thp_check.proofs.replay.reading.pages_of.Goals as goal

pub loop-block-preserved : goal.loop-block-preserved
loop-block-preserved c = record {
  pages = c.push_reserved.ensures.items
      ∙ pages_more c.args.places.now.table c.args.blocks.now c.loop-block.pages.items c.loop-block.block-index c.number.result c.loop-block-test.true c.loop-block.invariant.pages
      (number_is c.args.places.now.table _ c.number.result (c.requires c.loop-block.block-index _ (got c.args.blocks.now c.loop-block.block-index 0 c.loop-block-test.true)) c.number.ensures);
  count = omega (arith, c.push_reserved.ensures.len, c.loop-block.invariant.count);
  room = subst (λ n. length c.args.blocks.now ≤ n) (sym c.push_reserved.ensures.capacity) c.loop-block.invariant.room;
}
