use Rattle.thp_journal_reader.proofs.follower.FollowedNodes.finish.Goals as goal

pub returns : goal.returns
returns g c = λ nodes f. c.in_ok-end.ensures.ended nodes f
