use Rattle.std.proofs.Common.{subst, sym}
use Rattle.thp_journal_reader.specs.Prelude.{nodes_read, FollowerKnows, journals_in}
use Rattle.thp_journal_reader.specs.declared.follower.FollowedNodes.{FollowedNodes}
use Rattle.thp_journal_tools.proofs.keeping_check.KeepingCheck.finish.Goals as goal

pub returns-in_ok-finish-in-Ok-clause-kept : goal.returns-in_ok-finish-in-Ok-clause-kept
returns-in_ok-finish-in-Ok-clause-kept g c =
    let F = g.F.FollowsNode in
    let nodes = nodes_read c.self.inside.text.nodes.lines in
    let P : FollowedNodes _ _ → Type 0 = λ kept. FollowerKnows F.replayed F.keeps F.FOLLOWS_ALL nodes kept.follower in
    (journals_in nodes, rw (← c.self.view_is) c.in-Ok.ensures.reported, c.in_ok-finish-in-Ok.ensures nodes (subst P (sym c.in-Ok.ensures.nodes) c.self.invariant.0.follows))
