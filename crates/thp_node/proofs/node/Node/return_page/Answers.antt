use Rattle.std.proofs.Common.{true, false, [], ◌∷◌, ◌++◌, sym, ◌∙◌, subst, ap, arith, slice_get}
use Rattle.thp_history.specs.declared.events.What.TheVariants as what
use Rattle.thp_history.specs.Prelude.{by, flight, goes_back}
use Rattle.thp_live_pages.specs.Prelude.{IsFlyingAt}
use Rattle.thp_node.specs.Prelude.{NodeState}
use Rattle.thp_node.proofs.CallLemmas.{did_one}
use Rattle.thp_node.proofs.ReturnLemmas.{back_all, dropped_all, back_may, drop_may, goes_back_reported, did_return}
use Rattle.thp_node.proofs.node.Node.return_page.Goals as goal

pub invariant_of-self : goal.invariant_of-self
invariant_of-self g c =
    let j = c.self.inside.journal in
    let b = c.self.inside.blocks in
    let is = c.self.view_is in
    let w : IsFlyingAt b.table c.args.caller c.args.page c.args.block = subst (λ (n : NodeState). IsFlyingAt n.table c.args.caller c.args.page c.args.block) (sym is) c.requires.flies in
    let first = ap (λ (n : NodeState). slice_get (flight n.journal c.args.caller) 0) is ∙ c.requires.first in
    let goes = sym (c.joins_queue-is_back.ensures ∙ goes_back_reported j.shape j.events c.args.caller c.args.page c.args.block b c.is_closed-closed.result c.is_partly-partly.result c.self.invariant w c.is_closed-closed.ensures (rw c.store.ensures at c.is_partly-partly.ensures)) in
    back_all j.shape c.record.new.self.shape j.events c.record.new.self.events c.args.caller c.args.page c.args.block b c.enqueue.new.self c.self.invariant w
    (back_may j.shape j.events c.args.caller c.args.page (goes ∙ c.if-is_back.true) first)
    c.enqueue.ensures c.record.ensures.shape c.record.ensures.events

pub returns-then-is_back-clause-did : goal.returns-then-is_back-clause-did
returns-then-is_back-clause-did g c =
    let j = c.self.inside.journal in
    let b = c.self.inside.blocks in
    let is = c.self.view_is in
    let w : IsFlyingAt b.table c.args.caller c.args.page c.args.block = subst (λ (n : NodeState). IsFlyingAt n.table c.args.caller c.args.page c.args.block) (sym is) c.requires.flies in
    let first = ap (λ (n : NodeState). slice_get (flight n.journal c.args.caller) 0) is ∙ c.requires.first in
    let goes = sym (c.joins_queue-is_back.ensures ∙ goes_back_reported j.shape j.events c.args.caller c.args.page c.args.block b c.is_closed-closed.result c.is_partly-partly.result c.self.invariant w c.is_closed-closed.ensures (rw c.store.ensures at c.is_partly-partly.ensures)) in
    did_return c.args.self.now _ c.args.caller c.args.page true
    (ap (λ (n : NodeState). goes_back n.shape n.journal c.args.page) (sym is) ∙ goes ∙ c.if-is_back.true)
    (did_one c.args.self.now _ c.args.caller (what.Back c.args.page) j.room 4
    (c.record.ensures.shape ∙ ap (λ (n : NodeState). n.shape) is)
    (c.record.ensures.events ∙ ap (λ (n : NodeState). n.journal ++ by c.args.caller (what.Back c.args.page) ∷ []) is)
    c.record.ensures.legal
    (omega (arith, ap (λ (n : NodeState). n.room) is))
    c.record.ensures.room
    (omega (arith, (c.enqueue.ensures w.slot w.at).work, ap (λ (n : NodeState). n.table.accesses) is))
    (omega arith))

pub invariant_of-self-else-is_back : goal.invariant_of-self-else-is_back
invariant_of-self-else-is_back g c =
    let j = c.self.inside.journal in
    let b = c.self.inside.blocks in
    let is = c.self.view_is in
    let w : IsFlyingAt b.table c.args.caller c.args.page c.args.block = subst (λ (n : NodeState). IsFlyingAt n.table c.args.caller c.args.page c.args.block) (sym is) c.requires.flies in
    let first = ap (λ (n : NodeState). slice_get (flight n.journal c.args.caller) 0) is ∙ c.requires.first in
    let goes = sym (c.joins_queue-is_back.ensures ∙ goes_back_reported j.shape j.events c.args.caller c.args.page c.args.block b c.is_closed-closed.result c.is_partly-partly.result c.self.invariant w c.is_closed-closed.ensures (rw c.store.ensures at c.is_partly-partly.ensures)) in
    dropped_all j.shape c.record-else-is_back.new.self.shape j.events c.record-else-is_back.new.self.events c.args.caller c.args.page c.args.block b c.drop_out.new.self c.self.invariant w
    (drop_may j.shape j.events c.args.caller c.args.page (goes ∙ c.if-is_back.false) first)
    c.drop_out.ensures c.record-else-is_back.ensures.shape c.record-else-is_back.ensures.events

pub returns-else-is_back-clause-did : goal.returns-else-is_back-clause-did
returns-else-is_back-clause-did g c =
    let j = c.self.inside.journal in
    let b = c.self.inside.blocks in
    let is = c.self.view_is in
    let w : IsFlyingAt b.table c.args.caller c.args.page c.args.block = subst (λ (n : NodeState). IsFlyingAt n.table c.args.caller c.args.page c.args.block) (sym is) c.requires.flies in
    let first = ap (λ (n : NodeState). slice_get (flight n.journal c.args.caller) 0) is ∙ c.requires.first in
    let goes = sym (c.joins_queue-is_back.ensures ∙ goes_back_reported j.shape j.events c.args.caller c.args.page c.args.block b c.is_closed-closed.result c.is_partly-partly.result c.self.invariant w c.is_closed-closed.ensures (rw c.store.ensures at c.is_partly-partly.ensures)) in
    did_return c.args.self.now _ c.args.caller c.args.page false
    (ap (λ (n : NodeState). goes_back n.shape n.journal c.args.page) (sym is) ∙ goes ∙ c.if-is_back.false)
    (did_one c.args.self.now _ c.args.caller (what.Dropped c.args.page) j.room 0
    (c.record-else-is_back.ensures.shape ∙ ap (λ (n : NodeState). n.shape) is)
    (c.record-else-is_back.ensures.events ∙ ap (λ (n : NodeState). n.journal ++ by c.args.caller (what.Dropped c.args.page) ∷ []) is)
    c.record-else-is_back.ensures.legal
    (omega (arith, ap (λ (n : NodeState). n.room) is))
    c.record-else-is_back.ensures.room
    (omega (arith, (c.drop_out.ensures w.slot w.at).work, ap (λ (n : NodeState). n.table.accesses) is))
    (omega arith))
