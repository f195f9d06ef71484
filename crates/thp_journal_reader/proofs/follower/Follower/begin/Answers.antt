use Rattle.std.proofs.Common.{◌∙◌, ◌++◌, ◌∷◌, [], inr, sym}
use Rattle.thp_journal_reader.specs.Prelude.{began}
use Rattle.thp_journal_reader.proofs.CheckLaws.{first_begins}
use Rattle.thp_journal_reader.proofs.FollowLaws.{begins, follows_none, not_stopped}
use Rattle.thp_journal_reader.proofs.follower.Follower.begin.Goals as goal

pub returns-then-has_stopped : goal.returns-then-has_stopped
returns-then-has_stopped g c = λ nodes f.
    let F = g.F.FollowsNode in
    let new = c.end.new.self in
    let ended = c.in_ok-end.ensures.ended nodes f in
    follows_none F.keeps F.replayed F.FOLLOWS_ALL (nodes ++ began c.args.first_line c.args.shape ∷ []) new c.end.ensures.none (first_begins nodes new.illegal c.args.first_line c.args.shape ended.0) (inr (sym c.has_stopped.ensures ∙ c.if-has_stopped.true))

pub returns : goal.returns
returns g c = λ nodes f.
    let F = g.F.FollowsNode in
    let new = c.end.new.self in
    let ended = c.in_ok-end.ensures.ended nodes f in
    record {
      first = first_begins nodes new.illegal c.args.first_line c.args.shape ended.0;
      known = begins F.keeps nodes new.kept.items (F.replayed c.in_ok-node.node) c.args.first_line c.args.shape
          (not_stopped F.keeps F.FOLLOWS_ALL nodes new.illegal new.kept.items ended.1 (sym c.has_stopped.ensures ∙ c.if-has_stopped.false)) c.in_ok-node.ensures.shape c.in_ok-node.ensures.none;
    }
