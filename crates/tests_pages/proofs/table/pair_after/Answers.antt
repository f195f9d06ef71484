-- What was written is found, and the rest of the table stays by both accesses.
use Rattle.std.proofs.Common.{arith}
use Rattle.thp_links.proofs.Replacing.{slice_get-set_same}
use Rattle.tests_pages.proofs.table.pair_after.Goals as goal

pub returns-clause-value : goal.returns-clause-value
returns-clause-value g c = cc (slice_get-set_same (g.T.LinkTable.links c.args.table.now) c.args.i c.args.link c.requires)

pub returns-clause-accesses : goal.returns-clause-accesses
returns-clause-accesses g c = omega arith

pub returns-clause-rest : goal.returns-clause-rest
returns-clause-rest g c = g.met.T.LinkTable.same_rest_trans _ _ _ c.set_link.ensures.rest c.link.ensures.rest
