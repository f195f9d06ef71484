use Rattle.thp_journal_writer.proofs.StreamLaws.{version_first, node_follows, event_follows, least_is_journal_text}
use Rattle.thp_journal_writer.proofs.stream.lines_make_a_journal.Goals as goal

pub returns-clause-version : goal.returns-clause-version
returns-clause-version c = version_first

pub returns-clause-node : goal.returns-clause-node
returns-clause-node c = node_follows

pub returns-clause-event : goal.returns-clause-event
returns-clause-event c = event_follows

pub returns-clause-whole : goal.returns-clause-whole
returns-clause-whole c = least_is_journal_text
