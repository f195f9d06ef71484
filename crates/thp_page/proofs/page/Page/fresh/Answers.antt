use Rattle.std.proofs.Common.{sym, subst}
use Rattle.thp_history.specs.Prelude.{PageState, IsFresh}
use Rattle.thp_page.proofs.PageChanges.{fresh_page_is_fresh, fresh_made, fresh_kept}
use Rattle.thp_page.proofs.page.Page.fresh.Goals as goal

pub invariant_of-result : goal.invariant_of-result
invariant_of-result c = fresh_kept c.args.order _ c.requires.least c.requires.most (fresh_made c.args.order c.none.result c.full.result c.none.ensures c.full.ensures)

pub returns-clause-fresh : goal.returns-clause-fresh
returns-clause-fresh c =
    subst (λ (t : PageState). IsFresh c.args.order t) (sym (fresh_made c.args.order c.none.result c.full.result c.none.ensures c.full.ensures)) (fresh_page_is_fresh c.args.order c.requires.most)
