use Rattle.std.proofs.Common.{subst, sym, List, OnOk}
use Rattle.thp_journal_reader.specs.Prelude.{ReadNode, Line, FollowerKnows, with_line}
use Rattle.thp_journal_reader.proofs.follower.Follower.follow.Goals as goal

pub returns-in-Node : goal.returns-in-Node
returns-in-Node g c =
    let F = g.F.FollowsNode in
    let P : Line → Type 0 = λ line. OnOk c.begin.result ((nodes : List ReadNode) → FollowerKnows F.replayed F.keeps F.FOLLOWS_ALL nodes c.args.self.now → FollowerKnows F.replayed F.keeps F.FOLLOWS_ALL (with_line c.args.number nodes line) c.begin.new.self) in
    subst P (sym c.in-Node.is) c.begin.ensures

pub returns-in-Happened : goal.returns-in-Happened
returns-in-Happened g c =
    let F = g.F.FollowsNode in
    let P : Line → Type 0 = λ line. OnOk c.admit.result ((nodes : List ReadNode) → FollowerKnows F.replayed F.keeps F.FOLLOWS_ALL nodes c.args.self.now → FollowerKnows F.replayed F.keeps F.FOLLOWS_ALL (with_line c.args.number nodes line) c.admit.new.self) in
    subst P (sym c.in-Happened.is) c.admit.ensures
