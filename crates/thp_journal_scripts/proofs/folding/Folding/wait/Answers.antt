use Rattle.std.proofs.Common.{◌∙◌, ap}
use Rattle.thp_journal_scripts.specs.Prelude.{Moved, extends_late}
use Rattle.thp_journal_scripts.proofs.FoldingLaws.{same_so_far, take_moves}
use Rattle.thp_journal_scripts.proofs.folding.Folding.wait.Goals as goal

pub returns-then-extend_waiting-clause-moves : goal.returns-then-extend_waiting-clause-moves
returns-then-extend_waiting-clause-moves c =
    take_moves c.args.caller c.args.self.now c.count_event.new.self c.extend_waiting.new.self c.count_event.ensures.moved (ap (λ (v : Moved). v.events) c.extend_waiting.ensures.moved) (ap (λ (v : Moved). v.calls) c.extend_waiting.ensures.moved)
    (extends_late (c.extend_waiting.ensures.extends c.if-extend_waiting.true) (ap (λ (v : Moved). v.batches) c.extend_waiting.ensures.moved))

pub returns-clause-moves : goal.returns-clause-moves
returns-clause-moves c =
    let m = c.count_event.new.self in
    let d = c.extend_waiting.new.self in
    take_moves c.args.caller c.args.self.now d c.begin_waiting.new.self
    (same_so_far m d c.extend_waiting.ensures.moved (c.extend_waiting.ensures.unchanged c.if-extend_waiting.false) ∙ c.count_event.ensures.moved)
    c.begin_waiting.ensures.events c.begin_waiting.ensures.calls c.in_ok-begin_waiting.ensures.begins
