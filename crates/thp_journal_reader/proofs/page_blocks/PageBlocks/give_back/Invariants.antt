use Rattle.thp_journal_reader.specs.Chains.{IsWalked, chain_place}
use Rattle.thp_journal_reader.proofs.page_blocks.PageBlocks.give_back.Given as goal

-- how far the chain was walked along
abbrev pub invariant-loop-next : goal.invariant-loop-next
invariant-loop-next l = IsWalked l.self.allocations.items l.fn.last l.next l.fn.holders l.holders

-- the place falls along the chain
abbrev pub decreases-loop-next : goal.decreases-loop-next
decreases-loop-next l = chain_place l.next
