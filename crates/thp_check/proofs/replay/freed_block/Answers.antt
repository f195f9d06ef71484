use Rattle.thp_check.proofs.FreeMarks.{freed_found}
use Rattle.thp_check.proofs.replay.freed_block.Goals as goal

pub returns : goal.returns
returns c = λ s h m.
    let places = c.args.state.now.places in
    freed_found s h places.table places.queue c.args.what.now c.in_ok-page.page c.find.result m.kept.node c.in_ok-page.ensures.frees c.in_ok-page.ensures.no_other c.find.ensures
