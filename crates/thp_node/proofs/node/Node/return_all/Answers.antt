use Rattle.std.proofs.Common.{take, get_or, refl, arith, subst, length-take}
use Rattle.std.proofs.lemmas.List.Sums.{count_by-le-length}
use Rattle.thp_history.specs.Prelude.{flight, goes_back}
use Rattle.thp_node.specs.Prelude.{OneBack}
use Rattle.thp_node.proofs.CallLemmas.{did_none}
use Rattle.thp_node.proofs.Recording.{few_one}
use Rattle.thp_node.proofs.ReturnLemmas.{NextReturn, next_return, returned_more, from_cond}
use Rattle.thp_node.proofs.node.Node.return_all.Goals as goal

pub loop-block-init : goal.loop-block-init
loop-block-init g c = record {
  did = did_none c.args.self.now c.args.self.now c.args.caller refl refl c.requires.legal (omega arith) refl;
  back = refl;
}

pub return_first-requires-clause-front : goal.return_first-requires-clause-front
return_first-requires-clause-front g c =
    (next_return c.args.self.now.shape c.args.self.now.journal c.loop-block.self.journal c.args.caller c.loop-block.block-index (get_or c.args.blocks.now c.loop-block.block-index 0) 0 c.args.blocks.now
    c.requires.legal c.requires.front c.loop-block.invariant.did.journal c.loop-block-test.true refl).begins

pub overflow_add-back : goal.overflow_add-back
overflow_add-back g c =
    let h = c.args.self.now.journal in
    let t = goes_back c.args.self.now.shape h in
    omega (
      arith,
      c.loop-block.invariant.back,
      count_by-le-length t (take c.loop-block.block-index (flight h c.args.caller)),
      length-take c.loop-block.block-index (flight h c.args.caller),
      c.loop-block-test.true,
      c.requires.few,
      c.from-back.ensures,
      few_one c.return_first.result,
    )

pub loop-block-preserved : goal.loop-block-preserved
loop-block-preserved g c =
    let i = c.loop-block.block-index in
    let b = get_or c.args.blocks.now i 0 in
    let a = c.args.self.now in
    let n : NextReturn a.shape a.journal c.loop-block.self.journal c.args.caller i b =
    next_return a.shape a.journal c.loop-block.self.journal c.args.caller i b 0 c.args.blocks.now c.requires.legal c.requires.front c.loop-block.invariant.did.journal c.loop-block-test.true refl in
    let one : OneBack a.shape c.loop-block.self.journal c.args.caller c.return_first.result =
    subst (λ s. OneBack s c.loop-block.self.journal c.args.caller c.return_first.result) c.loop-block.invariant.did.shape c.return_first.ensures.back in
    record {
      did = returned_more a c.loop-block.self c.return_first.new.self c.args.caller i b n c.loop-block.invariant.did c.return_first.ensures.did;
      back = omega (arith, c.loop-block.invariant.back, c.from-back.ensures, from_cond c.return_first.result, n.count c.return_first.result one);
    }
