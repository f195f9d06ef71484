-- The histories of nodes as the journals in a text.
use Rattle.thp_journal_writer.specs.declared.writer.NodeHistory.{NodeHistory}
use Rattle.thp_journal_writer.specs.Journals.{Journal}

-- the node's shape and events
abbrev pub journal_of : NodeHistory → Journal
journal_of node = (node.shape, node.events.now)
