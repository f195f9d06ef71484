use Rattle.std.proofs.Common.{refl, arith}
use Rattle.thp_journal_reader.proofs.Lookups.{last_insert}
use Rattle.thp_journal_reader.proofs.page_blocks.LastAllocations.set.Goals as goal

pub returns-clause-done : goal.returns-clause-done
returns-clause-done c = λ q.
    last_insert c.args.self.now _ c.page.inside.0 c.args.page c.args.last q c.page.view_is (omega arith) refl (c.in_ok-insert.ensures.updates.0 q)
