use Rattle.std.proofs.Common.{◌∙◌, inl}
use Rattle.std.proofs.lemmas.Result.{IfOk-weaker}
use Rattle.thp_journal_reader.specs.Prelude.{on_last, with_event}
use Rattle.thp_journal_reader.proofs.FollowLaws.{follows_none, grows, stops}
use Rattle.thp_journal_reader.proofs.follower.Follower.go_on.Goals as goal

pub returns-in-Ok : goal.returns-in-Ok
returns-in-Ok g c = λ nodes reported known placed.
    let F = g.F.FollowsNode in
    let old = c.args.self.now in
    let grown = grows F.keeps nodes (F.replayed c.args.node) old.next_line old.kept.items known.1 reported c.args.event.now placed (F.replayed c.in-Ok.node) c.in-Ok.ensures.followed c.in-Ok.ensures.fits old.illegal known.0 in
    record { first = grown.0; known = grown.1 }

pub returns-in-Err : goal.returns-in-Err
returns-in-Err g c =
    let F = g.F.FollowsNode in
    let old = c.args.self.now in
    let new = c.stop.new.self in
    IfOk-weaker c.stop.result _ _
    (λ u s nodes reported known placed.
    let stopped = stops F.keeps nodes (F.replayed c.args.node) old.next_line old.kept.items known.1 reported c.args.event.now placed c.in-Err.stopped.misfit c.in-Err.ensures.misfit c.in-Err.ensures.why F.leaves c.in-Err.stopped.rest old.illegal new.illegal new.kept.items known.0 c.in-Err.ensures.rest s in
    follows_none F.keeps F.replayed F.FOLLOWS_ALL (on_last (with_event reported) nodes) new (c.stop.ensures.at_hand ∙ c.requires.none) stopped.0 (inl (stopped.1, stopped.2)))
    c.stop.ensures.stops
