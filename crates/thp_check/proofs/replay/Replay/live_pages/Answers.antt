use Rattle.std.proofs.Common.{◌≡◌, ℕ, List, Some, map, length, ap, sym, ◌∙◌, subst}
use Rattle.std.specs.List.{filter, range_with_len}
use Rattle.thp_history.specs.Prelude.{block_in_use}
use Rattle.thp_live_pages.specs.Prelude.{block_of}
use Rattle.thp_check.specs.Prelude.{NodeState, Replayed, is_taken, page_at}
use Rattle.thp_check.proofs.Showing.{each_of, pages_are, lie_there, live_lie, if_ok_then}
use Rattle.thp_check.proofs.replay.Replay.live_pages.Goals as goal

abbrev taken : NodeState → List ℕ
taken r = filter (is_taken r.places.table) (range_with_len 0 r.shape.blocks)

pub taken_blocks-requires : goal.taken_blocks-requires
taken_blocks-requires c =
    let m = c.self.invariant.0 in
    ap (λ (r : NodeState). length r.places.table.slots) c.deref.ensures ∙ m.kept.node.size ∙ ap (λ (r : NodeState). r.shape.blocks) (sym c.deref-2.ensures)

pub pages_of-requires : goal.pages_of-requires
pages_of-requires c =
    let i = c.self.inside in
    let r = i.state.value in
    let m = c.self.invariant.0 in
    let reported = c.in_ok-blocks.ensures ∙ ap (λ (q : NodeState). filter (is_taken c.deref.result.now.places.table) (range_with_len 0 q.shape.blocks)) (c.deref-2.ensures ∙ sym c.deref.ensures) in
    each_of r.shape i.past r m taken (map (page_at r.places.table) (taken r)) (lie_there r.shape i.past r.places.table r.places.queue m.kept.node (range_with_len 0 r.shape.blocks)) c.deref.result.now c.deref.result.now c.deref.ensures c.deref.ensures c.in_ok-blocks.blocks.items c.deref-3.result.now reported c.deref-3.ensures.value

pub returns : goal.returns
returns c =
    let i = c.self.inside in
    let r = i.state.value in
    let m = c.self.invariant.0 in
    let reported = c.in_ok-blocks.ensures ∙ ap (λ (q : NodeState). filter (is_taken c.deref.result.now.places.table) (range_with_len 0 q.shape.blocks)) (c.deref-2.ensures ∙ sym c.deref.ensures) in
    let are =
    pages_are r.shape i.past r m taken (map (page_at r.places.table) (taken r)) (lie_there r.shape i.past r.places.table r.places.queue m.kept.node (range_with_len 0 r.shape.blocks)) c.deref.result.now c.deref.result.now c.deref.ensures c.deref.ensures c.in_ok-blocks.blocks.items c.deref-3.result.now reported c.deref-3.ensures.value in
    if_ok_then c.pages_of.result _ _
    (λ pages e.
    let P : Replayed → Type 0 = λ v. map (block_of v.history) pages.items ≡ map (λ b. Some b) (filter (block_in_use v.history) (range_with_len 0 v.shape.blocks)) in
    subst P c.self.view_is (ap (map (block_of i.past)) (e ∙ are) ∙ live_lie r.shape i.past r.places.table r.places.queue m.kept.node r.shape.blocks))
    c.pages_of.ensures
