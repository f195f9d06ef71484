use Rattle.std.proofs.Common.{◌∙◌, ap}
use Rattle.std.proofs.lemmas.List.Elements.{All-contains_itself}
use Rattle.thp_history.proofs.ListPlaces.{get_at}
use Rattle.thp_metrics.proofs.Stuck.{passed_none, passed_one}
use Rattle.thp_metrics.proofs.waiting.stuck_among.Goals.{then-found-gt0+in_ok-push, else-found-gt0}
use Rattle.thp_metrics.proofs.waiting.stuck_among.Goals as goal

pub bounds-finds-block : goal.bounds-finds-block
bounds-finds-block c = (c.requires _ (All-contains_itself c.args.blocks.now c.loop-block.block-index 0 c.loop-block-test.true)).0

pub since-requires : goal.since-requires
since-requires c = (c.requires _ (All-contains_itself c.args.blocks.now c.loop-block.block-index 0 c.loop-block-test.true)).1

pub loop-block-preserved : goal.loop-block-preserved
loop-block-preserved c = record {
  passed = elim c.if-found-gt0.branch [
    | then-found-gt0+in_ok-push w ↦
        passed_one c.args.finds.now c.args.arrivals.now c.args.blocks.now c.loop-block.block-index c.index-finds-block.result c.loop-block.pages.items c.if-found-gt0.pages.items w.since.result c.loop-block-test.true (get_at c.args.finds.now _ c.index-finds-block.result (c.requires _ (All-contains_itself c.args.blocks.now c.loop-block.block-index 0 c.loop-block-test.true)).0 c.index-finds-block.is) c.loop-block.invariant.passed w.if-found-gt0.true w.since.ensures
        (ap (λ v. v.items) w.pages-is ∙ w.in_ok-push.ensures.items)
    | else-found-gt0 w ↦
        passed_none c.args.finds.now c.args.arrivals.now c.args.blocks.now c.loop-block.block-index c.index-finds-block.result c.loop-block.pages.items c.if-found-gt0.pages.items c.loop-block-test.true (get_at c.args.finds.now _ c.index-finds-block.result (c.requires _ (All-contains_itself c.args.blocks.now c.loop-block.block-index 0 c.loop-block-test.true)).0 c.index-finds-block.is) c.loop-block.invariant.passed w.if-found-gt0.false
        (ap (λ v. v.items) w.pages-is)
  ];
}
