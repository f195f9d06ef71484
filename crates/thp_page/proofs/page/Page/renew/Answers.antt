use Rattle.std.proofs.Common.{sym, subst}
use Rattle.thp_history.specs.Prelude.{PageState, IsFresh}
use Rattle.thp_page.proofs.PageChanges.{fresh_page_is_fresh, fresh_made, fresh_kept}
use Rattle.thp_page.proofs.page.Page.renew.Goals as goal

pub invariant_of-self : goal.invariant_of-self
invariant_of-self c =
    fresh_kept c.args.order _ c.requires.least c.requires.most (fresh_made c.args.order c.clear.new.self c.full-self-inside.result c.clear.ensures c.full-self-inside.ensures)

pub returns-clause-fresh : goal.returns-clause-fresh
returns-clause-fresh c =
    subst (λ (t : PageState). IsFresh c.args.order t) (sym (fresh_made c.args.order c.clear.new.self c.full-self-inside.result c.clear.ensures c.full-self-inside.ensures))
    (fresh_page_is_fresh c.args.order c.requires.most)
