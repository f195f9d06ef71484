use Rattle.std.proofs.Common.{◌∙◌, ℕ, ap, sym}
use Rattle.std.proofs.lemmas.Result.{IfOk-weaker}
use Rattle.thp_history.specs.declared.events.Event.{Event}
use Rattle.thp_history.specs.declared.events.What.TheVariants.{Alloc}
use Rattle.thp_history.specs.Prelude.{event_with, least_free}
use Rattle.thp_journal_reader.proofs.follower.Follower.place.Goals as goal

pub returns : goal.returns
returns g c =
    let replay = g.F.FollowsNode.replayed c.args.node in
    let in_block : ℕ → Event = λ b. record { caller = c.args.caller; what = Alloc c.args.page b } in
    IfOk-weaker c.go_on.result _ _
    (λ u goes nodes reported block known is. goes nodes reported known (ap in_block c.free_block-block.ensures ∙ ap (event_with (least_free replay.shape replay.history)) (sym is)))
    c.go_on.ensures
