use Rattle.std.proofs.Common.{◌≡◌, ℕ, List, refl, ap, sym, ◌∙◌, subst, IfOk}
use Rattle.thp_history.specs.Prelude.{queue, AddsUp}
use Rattle.thp_check.specs.Prelude.{NodeState, MarksFree, Means, Replayed}
use Rattle.thp_check.proofs.Showing.{each_of, pages_are, means_read}
use Rattle.thp_check.proofs.replay.Replay.queue.Goals as goal

abbrev queued : NodeState → List ℕ
queued r = r.places.queue

pub invariant_of-self : goal.invariant_of-self
invariant_of-self c =
    let i = c.self.inside in
    let d = c.deref_mut.result.now in
    let P : NodeState → Type 0 = λ r. Means r.shape i.past r × MarksFree r.shape i.past i.free × AddsUp r.shape i.past i.tally.value in
    let m = subst P (sym c.deref_mut.ensures.value) c.self.invariant in
    (means_read d.shape i.past d c.queued.new.self _ m.0 c.queued.ensures.same, m.1, m.2)

pub pages_of-requires : goal.pages_of-requires
pages_of-requires c =
    let i = c.self.inside in
    let d = c.deref_mut.result.now in
    let t : NodeState = record d { places = c.queued.new.self } in
    let P : NodeState → Type 0 = λ r. Means r.shape i.past r in
    let m : Means d.shape i.past t = means_read d.shape i.past d c.queued.new.self _ (subst P (sym c.deref_mut.ensures.value) c.self.invariant.0) c.queued.ensures.same in
    each_of d.shape i.past t m queued (queue d.shape i.past) m.kept.node.queue_is t c.deref.result.now refl c.deref.ensures c.in_ok-blocks.blocks.items c.deref-2.result.now (c.in_ok-blocks.ensures.blocks ∙ sym c.queued.ensures.same.queue_is) c.deref-2.ensures.value

pub returns : goal.returns
returns c =
    let i = c.self.inside in
    let d = c.deref_mut.result.now in
    let t : NodeState = record d { places = c.queued.new.self } in
    let P : NodeState → Type 0 = λ r. Means r.shape i.past r in
    let m : Means d.shape i.past t = means_read d.shape i.past d c.queued.new.self _ (subst P (sym c.deref_mut.ensures.value) c.self.invariant.0) c.queued.ensures.same in
    let V : NodeState → Replayed = λ r. record { shape = r.shape; history = i.past } in
    let view : V d ≡ c.args.self.now = ap V c.deref_mut.ensures.value ∙ c.self.view_is in
    let Q : List ℕ → Type 0 = λ ps. IfOk c.pages_of.result (λ pages. pages.items ≡ ps) in
    record {
      pages =
          subst Q
          (pages_are d.shape i.past t m queued (queue d.shape i.past) m.kept.node.queue_is t c.deref.result.now refl c.deref.ensures c.in_ok-blocks.blocks.items c.deref-2.result.now (c.in_ok-blocks.ensures.blocks ∙ sym c.queued.ensures.same.queue_is) c.deref-2.ensures.value
          ∙ ap (λ (r : Replayed). queue r.shape r.history) view)
          c.pages_of.ensures;
      same = view;
    }
