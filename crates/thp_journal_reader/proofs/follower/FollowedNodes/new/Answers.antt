use Rattle.std.proofs.Common.{refl}
use Rattle.thp_journal_reader.proofs.FollowLaws.{goes_first}
use Rattle.thp_journal_reader.proofs.follower.FollowedNodes.new.Goals as goal

pub returns-clause-follows : goal.returns-clause-follows
returns-clause-follows g c = let F = g.F.FollowsNode in goes_first F.keeps F.replayed F.FOLLOWS_ALL _ c.new-2.ensures refl refl c.new.ensures.items
