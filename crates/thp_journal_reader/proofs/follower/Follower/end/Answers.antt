use Rattle.std.proofs.Common.{◌≡◌, ◌∙◌, None, inl, sym}
use Rattle.thp_history.proofs.Options.{not_there}
use Rattle.thp_journal_reader.proofs.FollowLaws.{at_hand_is, ends, none_ended, none_is}
use Rattle.thp_journal_reader.proofs.follower.Follower.end.Goals as goal

pub returns-in_default-clause-ended : goal.returns-in_default-clause-ended
returns-in_default-clause-ended g c = λ nodes f.
    let F = g.F.FollowsNode in
    let old = c.args.self.now in
    let none : old.at_hand ≡ None = sym c.take.ensures.value ∙ not_there c.take.result c.in_default.not-Some in
    (f.first, none_ended F.keeps F.FOLLOWS_ALL nodes old.illegal old.kept.items (none_is F.keeps F.replayed F.FOLLOWS_ALL nodes old.at_hand old.next_line old.illegal old.kept.items f.known none))

pub returns-clause-ended : goal.returns-clause-ended
returns-clause-ended g c = λ nodes f.
    let F = g.F.FollowsNode in
    let old = c.args.self.now in (
      f.first,
      inl (ends F.keeps nodes (F.replayed c.in-Some.node) old.next_line old.kept.items c.push.new.self.items c.in_ok-kept.kept
          (at_hand_is F.keeps F.replayed F.FOLLOWS_ALL nodes old.at_hand old.next_line old.illegal old.kept.items f.known c.in-Some.node (sym c.take.ensures.value ∙ c.in-Some.is)) c.in_ok-kept.ensures c.in_ok-push.ensures.items),
    )
