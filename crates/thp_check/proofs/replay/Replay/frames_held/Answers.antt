use Rattle.std.proofs.Common.{◌∙◌, ap, arith}
use Rattle.thp_history.specs.declared.tally.Tally.{Tally}
use Rattle.thp_history.specs.Prelude.{frames_held, subpages}
use Rattle.thp_check.specs.Prelude.{NodeState, Replayed}
use Rattle.thp_history.proofs.Totals.{all_frames}
use Rattle.thp_check.proofs.replay.Replay.frames_held.Goals as goal

pub overflow_sub-result : goal.overflow_sub-result
overflow_sub-result c =
    let i = c.self.inside in
    let m = c.self.invariant in
    omega (
      arith,
      all_frames i.state.value.shape i.past c.from.result c.from-2.result c.deref-3.result.now.frames_given m.0.kept.low m.0.kept.node.legal
          (c.from.ensures ∙ c.subpages.ensures ∙ ap (λ (r : NodeState). subpages r.shape) c.deref.ensures)
          (c.from-2.ensures ∙ ap (λ (r : NodeState). r.next) c.deref-2.ensures ∙ m.0.kept.next_is)
          (ap (λ (t : Tally). t.frames_given) c.deref-3.ensures ∙ m.2.frames_given),
    )

pub returns : goal.returns
returns c =
    let i = c.self.inside in
    let m = c.self.invariant in
    omega (
      arith,
      all_frames i.state.value.shape i.past c.from.result c.from-2.result c.deref-3.result.now.frames_given m.0.kept.low m.0.kept.node.legal
          (c.from.ensures ∙ c.subpages.ensures ∙ ap (λ (r : NodeState). subpages r.shape) c.deref.ensures)
          (c.from-2.ensures ∙ ap (λ (r : NodeState). r.next) c.deref-2.ensures ∙ m.0.kept.next_is)
          (ap (λ (t : Tally). t.frames_given) c.deref-3.ensures ∙ m.2.frames_given),
      ap (λ (r : Replayed). frames_held r.shape r.history) c.self.view_is,
    )
