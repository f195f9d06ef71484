-- The index that was taken out of the queue can be pushed again.
use Rattle.thp_links.proofs.OneTable.{one_table}
use Rattle.tests_pages.proofs.counting.calls_counted.Goals as goal

pub push_back-requires-clause-absent : goal.push_back-requires-clause-absent
push_back-requires-clause-absent g c = search one_table
