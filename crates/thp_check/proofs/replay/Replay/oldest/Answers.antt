use Rattle.std.proofs.Common.{◌≡◌, List, ℕ, ap, sym, ◌∙◌, subst, slice_get, IsSome}
use Rattle.thp_history.specs.Prelude.{queue}
use Rattle.thp_page.specs.Prelude.{slot_at}
use Rattle.thp_live_pages.specs.Prelude.{AtSlot}
use Rattle.thp_check.specs.Prelude.{NodeState, Replayed}
use Rattle.thp_check.proofs.Reading.{oldest_there, oldest_number, none_queued}
use Rattle.thp_check.proofs.replay.Replay.oldest.Goals as goal

pub number-requires : goal.number-requires
number-requires c =
    let i = c.self.inside in
    let P : NodeState → Type 0 = λ r. IsSome (slot_at r.places.table c.in_ok-block.block) in
    let first = sym (ap (λ (q : List ℕ). slice_get q 0) (c.queue.ensures.value ∙ ap (λ (r : NodeState). r.places.queue) c.deref.ensures)) ∙ sym c.front.ensures ∙ c.in_ok-block.was in
    subst P (sym c.deref-2.ensures) (oldest_there i.state.value.shape i.past c.in_ok-block.block i.state.value c.self.invariant.0 first)

pub returns : goal.returns
returns c =
    let i = c.self.inside in
    let P : NodeState → Type 0 = λ r. AtSlot r.places.table c.in_ok-block.block (λ x. c.number.result ≡ x.id) in
    let first = sym (ap (λ (q : List ℕ). slice_get q 0) (c.queue.ensures.value ∙ ap (λ (r : NodeState). r.places.queue) c.deref.ensures)) ∙ sym c.front.ensures ∙ c.in_ok-block.was in
    oldest_number i.state.value.shape i.past c.in_ok-block.block c.number.result i.state.value c.self.invariant.0 first (subst P c.deref-2.ensures c.number.ensures)
    ∙ ap (λ (r : Replayed). slice_get (queue r.shape r.history) 0) c.self.view_is

pub returns-in_err-block : goal.returns-in_err-block
returns-in_err-block c =
    let i = c.self.inside in
    let none = sym (ap (λ (q : List ℕ). slice_get q 0) (c.queue.ensures.value ∙ ap (λ (r : NodeState). r.places.queue) c.deref.ensures)) ∙ sym c.front.ensures ∙ c.in_err-block.was in
    rw c.from_residual.ensures (none_queued i.state.value.shape i.past i.state.value c.self.invariant.0 none ∙ ap (λ (r : Replayed). slice_get (queue r.shape r.history) 0) c.self.view_is)
