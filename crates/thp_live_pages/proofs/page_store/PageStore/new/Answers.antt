-- A new store has no page, and its queue is empty.
use Rattle.std.proofs.Common.{ℕ, List, sym, subst}
use Rattle.thp_live_pages.specs.Prelude.{QueueIsLinked}
use Rattle.thp_live_pages.proofs.Emptying.{linked_none}
use Rattle.thp_live_pages.proofs.page_store.PageStore.new.Goals as goal

pub invariant_of-result : goal.invariant_of-result
invariant_of-result c = subst (λ (q : List ℕ). QueueIsLinked c.in_ok-table.table q) (sym c.new-2.ensures) (linked_none c.in_ok-table.table c.args.shape.blocks c.in_ok-table.ensures.empty c.in_ok-table.ensures.size)
