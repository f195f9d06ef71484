use Rattle.std.proofs.Common.{◌∙◌, ap, arith, sym}
use Rattle.thp_check.specs.Prelude.{Replayed}
use Rattle.thp_metrics.specs.Prelude.{longest_wait}
use Rattle.thp_metrics.proofs.Arriving.{by_first, first_was, longest_is}
use Rattle.thp_metrics.proofs.waiting.Waiting.longest.Goals as goal

pub overflow_add-result : goal.overflow_add-result
overflow_add-result c =
    let i = c.self.inside in
    let was = first_was i.shape i.past i.events i.arrivals c.in-Some.event c.self.invariant.0 (sym c.first.ensures ∙ c.in-Some.is) in
    omega (arith, was.0, was.1, c.self.invariant.0.few, c.self.invariant.0.events_are)

pub returns-in-Some : goal.returns-in-Some
returns-in-Some c =
    let i = c.self.inside in
    sym (longest_is i.shape i.past i.events i.arrivals c.self.invariant.0 ∙ ap (by_first i.events) (sym c.first.ensures ∙ c.in-Some.is))
    ∙ ap (λ (r : Replayed). longest_wait r.shape r.history) c.self.view_is

pub returns-in-None : goal.returns-in-None
returns-in-None c =
    let i = c.self.inside in
    sym (longest_is i.shape i.past i.events i.arrivals c.self.invariant.0 ∙ ap (by_first i.events) (sym c.first.ensures ∙ c.in-None.is))
    ∙ ap (λ (r : Replayed). longest_wait r.shape r.history) c.self.view_is
