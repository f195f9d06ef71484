use Rattle.std.proofs.Common.{◌∙◌, ap}
use Rattle.thp_history.specs.Prelude.{least_free}
use Rattle.thp_check.specs.Prelude.{Replayed}
use Rattle.thp_check.proofs.FreeMarks.{least_found, least_missing}
use Rattle.thp_check.proofs.replay.Replay.least_free_block.Goals as goal

pub returns-in-Some : goal.returns-in-Some
returns-in-Some c =
    let i = c.self.inside in
    least_found i.state.value.shape i.past i.free c.self.invariant.0.kept.node.legal c.self.invariant.1 c.in-Some.block c.in-Some.ensures.there c.in-Some.ensures.least ∙ ap (λ (r : Replayed). least_free r.shape r.history) c.self.view_is

pub returns-in-None : goal.returns-in-None
returns-in-None c =
    let i = c.self.inside in
    least_missing i.state.value.shape i.past i.free c.self.invariant.0.kept.node.legal c.self.invariant.1 c.in-None.ensures.none ∙ ap (λ (r : Replayed). least_free r.shape r.history) c.self.view_is
