use Rattle.std.proofs.Common.{rules, not, ap, ◌∙◌}
use Rattle.thp_history.specs.Prelude.{allocates, frees}
use Rattle.thp_history.proofs.Asked.{and_then, and_else}
use Rattle.thp_model.proofs.slow_check.pages.is_live.Goals as goal

pub returns-then-allocated : goal.returns-then-allocated
returns-then-allocated c =
    ap not (c.any_event-freed.ensures (frees c.args.p) (λ w b k. search rules))
    ∙ and_then _ _ _ (c.any_event-allocated.ensures (allocates c.args.p) (λ w b k. search rules)) c.if-allocated.true

pub returns-else-allocated : goal.returns-else-allocated
returns-else-allocated c =
    c.if-allocated.false
    ∙ and_else _ _ _ (c.any_event-allocated.ensures (allocates c.args.p) (λ w b k. search rules)) c.if-allocated.false
