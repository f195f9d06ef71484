use Rattle.std.proofs.Common.{◌∙◌, ap, arith}
use Rattle.thp_history.specs.Prelude.{frames_held}
use Rattle.thp_node.specs.Prelude.{JournalState}
use Rattle.thp_history.proofs.Totals.{all_frames}
use Rattle.thp_node.proofs.journal.Journal.frames_held.Goals as goal

pub overflow_sub-result : goal.overflow_sub-result
overflow_sub-result g c =
    let j = c.self.invariant in
    omega (
      arith,
      all_frames c.self.inside.shape (g.R.Recorder.history c.self.inside.events) _ _ _ (omega (arith, j.has_shape.most_order)) j.legal (c.from.ensures ∙ c.subpages.ensures) (c.from-2.ensures ∙ j.next_is) j.adds_up.frames_given,
    )

pub returns : goal.returns
returns g c =
    let j = c.self.invariant in
    omega (
      arith,
      all_frames c.self.inside.shape (g.R.Recorder.history c.self.inside.events) _ _ _ (omega (arith, j.has_shape.most_order)) j.legal (c.from.ensures ∙ c.subpages.ensures) (c.from-2.ensures ∙ j.next_is) j.adds_up.frames_given,
      ap (λ (s : JournalState). frames_held s.shape s.events) c.self.view_is,
    )
