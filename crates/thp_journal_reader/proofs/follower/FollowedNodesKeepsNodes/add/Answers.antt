use Rattle.std.proofs.Common.{◌∙◌, ap}
use Rattle.thp_journal_reader.specs.Prelude.{nodes_read}
use Rattle.thp_journal_reader.proofs.CheckLaws.{reported_push}
use Rattle.thp_journal_reader.proofs.FollowLaws.{goes_on, room}
use Rattle.thp_journal_reader.proofs.NodeLaws.{within_any}
use Rattle.thp_journal_reader.proofs.follower.FollowedNodesKeepsNodes.add.Goals as goal

pub follow-requires-clause-room : goal.follow-requires-clause-room
follow-requires-clause-room g c = let F = g.F.FollowsNode in room F.keeps F.replayed F.FOLLOWS_ALL c.args.number c.args.self.now c.requires.along c.requires.room

pub follow-requires-clause-in_range : goal.follow-requires-clause-in_range
follow-requires-clause-in_range g c = within_any c.requires.in_range.0 c.args.line.now c.requires.in_range.2

pub returns-clause-nodes : goal.returns-clause-nodes
returns-clause-nodes g c = ap nodes_read c.push.ensures ∙ reported_push c.args.self.now.lines c.args.number c.args.line.now

pub returns-clause-along : goal.returns-clause-along
returns-clause-along g c =
    let F = g.F.FollowsNode in
    let old = c.args.self.now in
    goes_on F.keeps F.replayed F.FOLLOWS_ALL c.args.number old (record { follower = c.follow.new.self; lines = c.push.new.self }) c.args.line.now c.requires.along (within_any c.requires.in_range.0 c.args.line.now c.requires.in_range.2) c.push.ensures
    (c.in_ok-follow.ensures (nodes_read old.lines) c.requires.along.follows)
