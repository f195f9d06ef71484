use Rattle.std.proofs.Common.{ap, sym, ◌∙◌, arith}
use Rattle.std.proofs.lemmas.Bool.Decides.{nat_tests}
use Rattle.thp_history.specs.Prelude.{PageState, has_use}
use Rattle.thp_page.specs.Prelude.{state_of}
use Rattle.thp_page.proofs.Trailing.{some_inside}
use Rattle.thp_page.proofs.PageUse.{has_use-mapped, has_use-unmapped}
use Rattle.thp_page.proofs.page.Page.has_use.Goals as goal

pub returns-then-self-gt0 : goal.returns-then-self-gt0
returns-then-self-gt0 c =
    let s : PageState = state_of c.self.inside in
    grind (arith, nat_tests, has_use-mapped s c.self.invariant.page.least_order c.if-self-gt0.true, ap has_use c.self.view_is)

pub returns-else-self-gt0 : goal.returns-else-self-gt0
returns-else-self-gt0 c =
    let s : PageState = state_of c.self.inside in
    c.has_mapped.ensures ∙ some_inside s c.self.invariant.page.most_order c.self.invariant.behind ∙ sym (has_use-unmapped s (omega arith)) ∙ ap has_use c.self.view_is
