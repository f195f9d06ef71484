use Rattle.std.proofs.Common.{refl}
use Rattle.thp_check.proofs.Deciding.{no_both}
use Rattle.thp_check.proofs.PageEvents.{frames_in, outcome_in, recorded_loss}
use Rattle.thp_check.proofs.Steps.{loss_goes, loss_refused, loss_absent, loss_differs}
use Rattle.thp_check.proofs.TakeSteps.{lost_there}
use Rattle.thp_check.proofs.node_state.NodeState.lose.Goals as goal

pub returns-in-None : goal.returns-in-None
returns-in-None c =
    let o = outcome_in c.args.what.now in
    let set = frames_in c.args.what.now in
    let is = recorded_loss c.args.what.now c.args.page c.args.loss c.requires.call in
    rw (c.refused.ensures, is) (λ n s h m. loss_absent s h n c.args.page c.args.loss o set c.args.self.now m c.in-None.ensures)

pub returns-in-Err : goal.returns-in-Err
returns-in-Err c =
    let o = outcome_in c.args.what.now in
    let set = frames_in c.args.what.now in
    let is = recorded_loss c.args.what.now c.args.page c.args.loss c.requires.call in
    rw (c.refused-in-Err.ensures, is) (λ n s h m.
    loss_refused s h n c.args.page c.in-Some.block c.args.self.now m c.in-Some.ensures c.args.loss o set _ (λ x e q. c.in-Err.ensures.refusal x e q))

pub leave-requires : goal.leave-requires
leave-requires c =
    let k = c.requires.known in
    lost_there k.shape k.history c.args.page c.in-Some.block c.args.self.now k.means c.in-Some.ensures c.args.loss c.lose.new.self c.lose.new.done c.in-Ok.left c.in-Ok.ensures.lost

pub returns-then-not-is_recorded : goal.returns-then-not-is_recorded
returns-then-not-is_recorded c =
    let o = outcome_in c.args.what.now in
    let set = frames_in c.args.what.now in
    let is = recorded_loss c.args.what.now c.args.page c.args.loss c.requires.call in
    rw (c.other_outcome.ensures, is) (λ n s h m.
    loss_differs s h n c.args.page c.in-Some.block c.args.self.now m c.in-Some.ensures c.args.loss o set c.lose.new.self c.lose.new.done c.in-Ok.left
    (λ x e q. c.in-Ok.ensures.refusal x e q) c.in-Ok.ensures.lost (λ y. no_both c.is_recorded.result c.if-not-is_recorded.true ((c.is_recorded.ensures c.args.loss c.args.page o set is).1 y)))

pub returns : goal.returns
returns c =
    let o = outcome_in c.args.what.now in
    let set = frames_in c.args.what.now in
    let is = recorded_loss c.args.what.now c.args.page c.args.loss c.requires.call in
    let reported = (c.is_recorded.ensures c.args.loss c.args.page o set is).0 c.if-not-is_recorded.false in
    rw is (λ n s h m.
    loss_goes s h n c.args.page c.in-Some.block c.args.self.now m c.in-Some.ensures c.args.loss o set _ c.lose.new.done c.in-Ok.left
    (λ x e q. c.in-Ok.ensures.refusal x e q) c.in-Ok.ensures.lost c.leave.ensures.left c.leave.ensures.size refl refl refl reported.0 reported.1)
