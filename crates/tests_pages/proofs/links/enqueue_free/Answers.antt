-- The index came out of the chain, so that it is in neither list when it is pushed.
use Rattle.std.proofs.Common.{◌≡◌, Some, sym, ◌∙◌, slice_get}
use Rattle.thp_links.proofs.OneTable.{one_table}
use Rattle.tests_pages.proofs.links.enqueue_free.Goals as goal

pub push_back-requires-clause-stands : goal.push_back-requires-clause-stands
push_back-requires-clause-stands g c = search one_table

pub push_back-requires-clause-absent : goal.push_back-requires-clause-absent
push_back-requires-clause-absent g c =
    let first : slice_get c.args.free.now 0 ≡ Some c.in_ok-i.i = sym c.pop.ensures.value ∙ c.in_ok-i.was in
    search one_table

pub returns-clause-free_stands : goal.returns-clause-free_stands
returns-clause-free_stands g c =
    let first : slice_get c.args.free.now 0 ≡ Some c.in_ok-i.i = sym c.pop.ensures.value ∙ c.in_ok-i.was in
    search one_table depth 7 fits 4000

pub returns-clause-apart : goal.returns-clause-apart
returns-clause-apart g c =
    let first : slice_get c.args.free.now 0 ≡ Some c.in_ok-i.i = sym c.pop.ensures.value ∙ c.in_ok-i.was in
    search one_table
