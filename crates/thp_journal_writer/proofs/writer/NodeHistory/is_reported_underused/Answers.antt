use Rattle.thp_journal_writer.proofs.LineLemmas.{reported_by_switch, reported_by_events}
use Rattle.thp_journal_writer.specs.Prelude.{journal_of}
use Rattle.thp_journal_writer.proofs.writer.NodeHistory.is_reported_underused.Goals as goal

pub returns-then-shrinks_underused : goal.returns-then-shrinks_underused
returns-then-shrinks_underused c = reported_by_switch (journal_of c.args.self.now) c.shrinks_underused.result c.shrinks_underused.ensures c.if-shrinks_underused.true

pub returns-else-shrinks_underused : goal.returns-else-shrinks_underused
returns-else-shrinks_underused c =
    reported_by_events (journal_of c.args.self.now) c.shrinks_underused.result c.has_access.result c.shrinks_underused.ensures c.if-shrinks_underused.false c.has_access.ensures
