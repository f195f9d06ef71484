use Rattle.std.proofs.Common.{ℕ, List, ◌∙◌, ◌<◌, Contains, ap, length, subst, sym}
use Rattle.std.proofs.lemmas.Result.{IfOk-weaker}
use Rattle.thp_check.specs.Prelude.{Replayed}
use Rattle.thp_metrics.specs.Prelude.{AreStuck, PinCount, stuck_among}
use Rattle.thp_metrics.proofs.Stuck.{are_stuck, in_range}
use Rattle.thp_metrics.proofs.waiting.Waiting.stuck.Goals as goal

pub stuck_among-requires : goal.stuck_among-requires
stuck_among-requires c b m =
    let i = c.self.inside in
    subst (λ (fs : List PinCount). (b < length fs) × (b < length i.arrivals.since)) (sym c.deref.ensures.value) (in_range i.shape i.past i.events i.arrivals i.finds.items c.self.invariant.0 c.self.invariant.1 b
    (subst (λ (bs : List ℕ). Contains bs b) (c.deref-2.ensures.value ∙ c.in_ok-blocks.ensures) m))

pub returns : goal.returns
returns c =
    let i = c.self.inside in
    IfOk-weaker c.stuck_among.result _ _
    (λ pages is.
    subst (λ (r : Replayed). AreStuck r.shape r.history pages.items) c.self.view_is
    (are_stuck i.shape i.past i.events i.arrivals i.finds.items c.self.invariant.0 c.self.invariant.1 pages.items (is ∙ ap (λ fs. stuck_among fs i.arrivals c.deref-2.result.now) c.deref.ensures.value ∙ ap (stuck_among i.finds.items i.arrivals) (c.deref-2.ensures.value ∙ c.in_ok-blocks.ensures))))
    c.stuck_among.ensures
