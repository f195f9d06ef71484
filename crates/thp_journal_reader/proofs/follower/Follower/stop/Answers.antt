use Rattle.thp_journal_reader.proofs.follower.Follower.stop.Goals as goal

pub returns-clause-stops : goal.returns-clause-stops
returns-clause-stops g c = record {
  more = c.in_ok-kept.kept;
  more_is = c.in_ok-kept.ensures;
  kept_are = c.in_ok-push.ensures.items;
  illegal_is = c.or-self.ensures;
}
