-- What a replay's numbers and lists say of its history.
use Rattle.std.proofs.Common.{◌≡◌, ℕ, Some, None, length, refl, ap, sym, ◌∙◌, slice_get, IsSome}
use Rattle.std.proofs.lemmas.List.{length-map}
use Rattle.thp_history.specs.declared.shape.Shape.{Shape}
use Rattle.thp_history.specs.Prelude.{History, queue}
use Rattle.thp_page.specs.Prelude.{slot_at}
use Rattle.thp_live_pages.specs.Prelude.{block_of, AtSlot}
use Rattle.thp_live_pages.proofs.Admitting.{Found, at_home}
use Rattle.thp_check.specs.Prelude.{NodeState, Means}
use Rattle.thp_check.proofs.FlightBlocks.{first_lies, none_first}

-- the queue is as long as its list of blocks
pub queue_length : (s : Shape) (h : History) (r : NodeState) → Means s h r → length r.places.queue ≡ length (queue s h)
queue_length s h r m =
    sym (length-map r.places.queue (λ b. Some b)) ∙ sym (ap length m.kept.node.queue_is) ∙ length-map (queue s h) (block_of h)

-- the page of the queue's first block
pub oldest_there : (s : Shape) (h : History) (b : ℕ) (r : NodeState) → Means s h r → slice_get r.places.queue 0 ≡ Some b → IsSome (slot_at r.places.table b)
oldest_there s h b r m first =
    let w = first_lies h (queue s h) r.places.queue b m.kept.node.queue_is first in
    let there : Found s h r.places.table w.0 b = at_home s h r.places.table r.places.queue w.0 b m.kept.node w.2 in
    rw there.at refl

pub oldest_number : (s : Shape) (h : History) (b p : ℕ) (r : NodeState) → Means s h r → slice_get r.places.queue 0 ≡ Some b → AtSlot r.places.table b (λ x. p ≡ x.id) → Some p ≡ slice_get (queue s h) 0
oldest_number s h b p r m first read =
    let w = first_lies h (queue s h) r.places.queue b m.kept.node.queue_is first in
    let there : Found s h r.places.table w.0 b = at_home s h r.places.table r.places.queue w.0 b m.kept.node w.2 in
    ap (λ (n : ℕ). Some n) (read there.slot there.at ∙ there.id_is) ∙ sym w.1

pub none_queued : (s : Shape) (h : History) (r : NodeState) → Means s h r → slice_get r.places.queue 0 ≡ None → None ≡ slice_get (queue s h) 0
none_queued s h r m none = sym (none_first h (queue s h) r.places.queue m.kept.node.queue_is none)
