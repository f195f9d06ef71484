use Rattle.std.proofs.Common.{ℕ, ◌<◌, List, length, take, ap, ◌∙◌, arith, length-take-le}
use Rattle.std.proofs.lemmas.List.Sums.{count_by-le-length}
use Rattle.thp_node.specs.Prelude.{is_tried_used, NodeState, rest}
use Rattle.thp_node.proofs.ScanLemmas.{used_more, few_used, tried_more, tried_after, no_refusal, room_to_try}
use Rattle.thp_node.proofs.node.Node.try_all.Goals as goal

pub unreachable-requires : goal.unreachable-requires
unreachable-requires g c =
    let a : NodeState = c.args.self.now in
    let b : NodeState = c.loop-tried.self in
    no_refusal b c.split_next.new.self _ _ c.in-Err.ensures.refused
    (room_to_try a.shape b.shape a.journal b.journal c.args.batch.now.caller c.loop-tried.batch.caller c.loop-tried._tried a.room b.room c.args.batch.now.pages (rest c.loop-tried.batch)
    (omega (arith, c.loop-tried-test.true, ap length c.pages-tried-end.ensures.value)) c.requires.room c.loop-tried.invariant.did.room)

pub overflow_add-used : goal.overflow_add-used
overflow_add-used g c =
    let a : NodeState = c.args.self.now in
    let ps : List ℕ = c.args.batch.now.pages in
    omega (
      arith,
      c.loop-tried.invariant.used,
      count_by-le-length (is_tried_used a.shape a.journal) (take c.loop-tried._tried ps),
      length-take-le c.loop-tried._tried ps,
      c.loop-tried-test.true,
      ap length c.pages-tried-end.ensures.value,
      c.pages-tried-end.ensures.few,
      few_used c.in-Ok.tried,
      c.found_used-used.ensures,
    )

pub loop-tried-preserved : goal.loop-tried-preserved
loop-tried-preserved g c =
    let a : NodeState = c.args.self.now in
    let b : NodeState = c.loop-tried.self in
    let i : ℕ = c.loop-tried._tried in
    let ps : List ℕ = c.args.batch.now.pages in
    let inv = c.loop-tried.invariant in
    let below : i < length ps = omega (arith, c.loop-tried-test.true, ap length c.pages-tried-end.ensures.value) in
    record {
      did = tried_more a b c.args.batch.now.caller i ps c.loop-tried.batch c.requires.legal c.requires.flies below inv.did inv.caller inv.left c.split_next.new.self c.in-Ok.ensures.recorded;
      used =
          omega (
            arith,
            inv.used,
            c.found_used-used.ensures,
            used_more a b c.args.batch.now.caller i ps c.loop-tried.batch c.requires.legal c.requires.flies below inv.did inv.caller inv.left c.in-Ok.tried c.in-Ok.ensures.tried,
          );
      left = c.in-Ok.ensures.rest ∙ tried_after a b c.args.batch.now.caller i ps c.loop-tried.batch c.requires.legal c.requires.flies below inv.did inv.caller inv.left;
      caller = c.split_next.ensures.same_caller ∙ inv.caller;
      pages = c.split_next.ensures.same_pages ∙ inv.pages;
    }
