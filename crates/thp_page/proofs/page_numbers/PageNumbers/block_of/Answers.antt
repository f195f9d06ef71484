use Rattle.thp_page.proofs.PaddedNumbers.{found_seen, inside_seen, absent_seen}
use Rattle.thp_page.proofs.page_numbers.PageNumbers.block_of.Goals as goal

pub returns-clause-found : goal.returns-clause-found
returns-clause-found c = found_seen c.self.inside.blocks c.self.inside.trees.numbers.items c.args.self.now c.args.id c.block_of.result c.self.view_is c.block_of.ensures.found

pub returns-clause-inside : goal.returns-clause-inside
returns-clause-inside c = inside_seen c.self.inside.blocks c.self.inside.trees.numbers.items c.args.self.now c.args.id c.block_of.result c.self.invariant.1.few c.self.view_is c.block_of.ensures.found

pub returns-clause-absent : goal.returns-clause-absent
returns-clause-absent c = absent_seen c.self.inside.blocks c.self.inside.trees.numbers.items c.args.self.now c.args.id c.block_of.result c.self.view_is c.block_of.ensures.absent
