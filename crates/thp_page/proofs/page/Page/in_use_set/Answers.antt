use Rattle.std.proofs.Common.{ap, ◌∙◌, arith}
use Rattle.thp_history.specs.Prelude.{PageState, used_set}
use Rattle.thp_page.specs.Prelude.{state_of}
use Rattle.thp_page.proofs.PageUse.{used_set-mapped, used_set-unmapped}
use Rattle.thp_page.proofs.page.Page.in_use_set.Goals as goal

pub returns-then-self-gt0 : goal.returns-then-self-gt0
returns-then-self-gt0 c = c.full.ensures ∙ used_set-mapped (state_of c.self.inside) c.if-self-gt0.true ∙ ap used_set c.self.view_is

pub returns-else-self-gt0 : goal.returns-else-self-gt0
returns-else-self-gt0 c =
    let s : PageState = state_of c.self.inside in
    used_set-unmapped s c.mapped.result c.self.invariant.behind (omega arith) c.mapped.ensures ∙ ap used_set c.self.view_is
