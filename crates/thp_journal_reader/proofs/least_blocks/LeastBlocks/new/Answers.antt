use Rattle.std.proofs.Common.{ℕ, List, [], sym, subst, replicate}
use Rattle.thp_history.specs.Prelude.{History}
use Rattle.thp_journal_reader.specs.declared.page_blocks.Allocation.{Allocation}
use Rattle.thp_journal_reader.specs.HeldBlocks.{KeepsBlocks}
use Rattle.thp_journal_reader.specs.LastAllocations.{last_allocation}
use Rattle.thp_journal_reader.proofs.KeepSteps.{keeps_first}
use Rattle.thp_journal_reader.proofs.least_blocks.LeastBlocks.new.Goals as goal

pub invariant_of-result : goal.invariant_of-result
invariant_of-result c =
    let P : History → Type 0 = λ h. KeepsBlocks c.args.shape h c.in_ok-holders.holders (last_allocation c.new-3.result.last) c.new-3.result.allocations.items in
    let Q : List ℕ → Type 0 = λ ns. KeepsBlocks c.args.shape [] ns (last_allocation c.new-3.result.last) c.new-3.result.allocations.items in
    let R : List Allocation → Type 0 = λ cs. KeepsBlocks c.args.shape [] (replicate c.args.shape.blocks 0) (last_allocation c.new-3.result.last) cs in
    subst P (sym c.new-2.ensures) (subst Q (sym c.in_ok-holders.ensures) (subst R (sym c.new-3.ensures.none)
    (keeps_first c.args.shape (last_allocation c.new-3.result.last) c.requires c.new-3.ensures.pages)))
