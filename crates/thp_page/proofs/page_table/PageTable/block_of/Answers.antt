use Rattle.std.proofs.Common.{ℕ, Option, IfSome, ◌<◌, ◌≡◌, ◌∙◌, sym, subst, arith}
use Rattle.thp_page.specs.Prelude.{descriptors_of}
use Rattle.thp_page.proofs.TableSteps.{number_found, number_absent}
use Rattle.thp_page.proofs.StoredDescriptors.{numbers_alike, links_all, stored_read, stored_taken, reached, length-reached, sized_grown, sized_placed}
use Rattle.thp_page.proofs.page_table.PageTable.block_of.Goals as goal

pub returns-clause-found : goal.returns-clause-found
returns-clause-found c = number_found c.self.inside.order c.self.inside.numbers (descriptors_of c.self.inside.order c.self.inside.blocks c.self.inside.descriptors.items) c.self.inside.accesses c.args.id _ _ c.self.view_is (numbers_alike _ _ _ _ _ c.self.invariant) c.block_of.ensures.found

pub returns-clause-absent : goal.returns-clause-absent
returns-clause-absent c = number_absent c.self.inside.order c.self.inside.numbers (descriptors_of c.self.inside.order c.self.inside.blocks c.self.inside.descriptors.items) c.self.inside.accesses c.args.id _ _ c.self.view_is c.block_of.ensures.absent

pub returns-clause-inside : goal.returns-clause-inside
returns-clause-inside c = subst (λ (n : ℕ). IfSome c.block_of.result (λ b. b < n)) (c.self.invariant.numbered ∙ sym (links_all c.self.inside.order c.self.inside.blocks _ c.self.inside.numbers c.self.inside.descriptors.items c.self.inside.accesses _ c.self.invariant c.self.view_is)) c.block_of.ensures.inside
