use Rattle.std.proofs.Common.{refl, sym, ◌∙◌}
use Rattle.thp_check.proofs.Steps.{alloc_new, alloc_goes, alloc_closed, alloc_other, alloc_taken}
use Rattle.thp_check.proofs.node_state.NodeState.alloc.Goals as goal

pub returns-then-self : goal.returns-then-self
returns-then-self c = λ n s h m. alloc_closed s h n c.args.page c.args.block c.args.self.now m c.if-self.true

pub returns-then-page-self : goal.returns-then-page-self
returns-then-page-self c = λ n s h m. alloc_other s h n c.args.page c.args.block c.args.self.now m c.if-self.false (λ e. c.if-page-self.true (c.page.view_is ∙ e))

pub returns-then-not-is_free : goal.returns-then-not-is_free
returns-then-not-is_free c = λ n s h m.
    alloc_taken s h n c.args.page c.args.block c.args.self.now m c.if-self.false (sym c.page.view_is ∙ c.if-page-self.false) c.if-not-is_free.ensures.taken

pub place-requires-clause-new : goal.place-requires-clause-new
place-requires-clause-new c =
    let k = c.requires.known in alloc_new k.shape k.history c.args.page c.args.self.now k.means (sym c.page.view_is ∙ c.if-page-self.false)

pub returns : goal.returns
returns c = λ n s h m.
    alloc_goes s h n c.args.page c.args.block c.shrinks_underused-queued.result c.args.self.now _ m c.if-self.false (sym c.page.view_is ∙ c.if-page-self.false) c.if-not-is_free.ensures.inside
    c.if-not-is_free.ensures.empty c.shrinks_underused-queued.ensures c.place.ensures refl refl refl refl
