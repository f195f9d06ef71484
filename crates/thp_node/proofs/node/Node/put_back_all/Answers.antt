use Rattle.std.proofs.Common.{◌-◌, length, map, Some, Option, ℕ, sym, ap, ap₂, ◌∙◌, subst, arith}
use Rattle.thp_history.specs.Prelude.{History, still_flying}
use Rattle.thp_live_pages.specs.Prelude.{block_of}
use Rattle.thp_node.specs.Prelude.{NodeState, BeginsIn}
use Rattle.thp_node.proofs.Fronts.{fronts_grown, return_takes_none}
use Rattle.thp_node.proofs.ReturnLemmas.{batch_begins, batch_did, batch_reply, the_reply}
use Rattle.thp_node.proofs.node.Node.put_back_all.Goals as goal

pub return_all-back-requires-clause-front : goal.return_all-back-requires-clause-front
return_all-back-requires-clause-front g c =
    let h : History = c.args.self.now.journal in
    let same = c.in_ok-reserve.ensures.events ∙ ap (λ (n : NodeState). n.journal) c.self.view_is in
    let caller = c.args.batch.now.caller in
    let begins : BeginsIn h caller c.deref.result.now =
    batch_begins h caller (still_flying h caller c.args.batch.now.pages) c.requires.front.others c.deref.result.now c.requires.front.front
    (ap₂ (λ x ps. map (block_of h) (still_flying h x ps)) (sym c.caller.ensures.value) (sym c.pages.ensures.value) ∙ c.flying_blocks-blocks.ensures.blocks
    ∙ ap (map (λ n. let o : Option ℕ = Some n in o)) (sym c.deref.ensures.0)) in
    subst (λ k. BeginsIn k c.caller-2.result c.deref.result.now) (sym same) (subst (λ x. BeginsIn h x c.deref.result.now) (sym c.caller-2.ensures.value) begins)

pub returns-clause-recorded : goal.returns-clause-recorded
returns-clause-recorded g c =
    let h : History = c.args.self.now.journal in
    batch_did c.args.self.now _ c.return_all-back.new.self c.caller-2.result (length c.deref.result.now) c.args.batch.now
    (c.in_ok-reserve.ensures.shape ∙ ap (λ (n : NodeState). n.shape) c.self.view_is)
    (c.in_ok-reserve.ensures.events ∙ ap (λ (n : NodeState). n.journal) c.self.view_is)
    (omega (arith, c.in_ok-reserve.ensures.room, ap (λ (n : NodeState). n.room) c.self.view_is))
    (ap (λ (n : NodeState). n.table.accesses) c.self.view_is)
    c.caller-2.ensures.value c.requires.front
    (ap length c.deref.ensures.0 ∙ c.flying_blocks-blocks.ensures.count ∙ ap₂ (λ x ps. length (still_flying h x ps)) c.caller.ensures.value c.pages.ensures.value)
    c.return_all-back.ensures.did

pub overflow_sub-result : goal.overflow_sub-result
overflow_sub-result g c =
    let h : History = c.args.self.now.journal in
    omega (
      arith,
      (batch_reply c.args.self.now.shape c.reserve.new.self.shape h c.reserve.new.self.events c.caller-2.result (length c.deref.result.now) c.return_all-back.result c.args.batch.now
          (c.in_ok-reserve.ensures.shape ∙ ap (λ (n : NodeState). n.shape) c.self.view_is)
          (c.in_ok-reserve.ensures.events ∙ ap (λ (n : NodeState). n.journal) c.self.view_is)
          c.caller-2.ensures.value c.requires.front
          (ap length c.deref.ensures.0 ∙ c.flying_blocks-blocks.ensures.count ∙ ap₂ (λ x ps. length (still_flying h x ps)) c.caller.ensures.value c.pages.ensures.value)
          c.return_all-back.ensures.back).0,
      ap length c.deref.ensures.0,
      c.len-count.ensures.value,
    )

pub returns-clause-reply : goal.returns-clause-reply
returns-clause-reply g c =
    let h : History = c.args.self.now.journal in
    ap (λ n. the_reply c.return_all-back.result (n - c.return_all-back.result)) (c.len-count.ensures.value ∙ sym (ap length c.deref.ensures.0))
    ∙ (batch_reply c.args.self.now.shape c.reserve.new.self.shape h c.reserve.new.self.events c.caller-2.result (length c.deref.result.now) c.return_all-back.result c.args.batch.now
    (c.in_ok-reserve.ensures.shape ∙ ap (λ (n : NodeState). n.shape) c.self.view_is)
    (c.in_ok-reserve.ensures.events ∙ ap (λ (n : NodeState). n.journal) c.self.view_is)
    c.caller-2.ensures.value c.requires.front
    (ap length c.deref.ensures.0 ∙ c.flying_blocks-blocks.ensures.count ∙ ap₂ (λ x ps. length (still_flying h x ps)) c.caller.ensures.value c.pages.ensures.value)
    c.return_all-back.ensures.back).1

pub returns-clause-fronts : goal.returns-clause-fronts
returns-clause-fronts g c =
    fronts_grown c.args.self.now.journal _ _ (returns-clause-recorded g c).journal
    (λ d. return_takes_none d c.args.self.now.shape c.args.self.now.journal c.args.batch.now.caller c.args.batch.now.pages)
