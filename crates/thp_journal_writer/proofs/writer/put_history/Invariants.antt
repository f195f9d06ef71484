use Rattle.std.proofs.Common.{◌≡◌, ◌++◌, take}
use Rattle.thp_journal_writer.proofs.JournalLemmas.{event_lines}
use Rattle.thp_journal_writer.proofs.writer.put_history.Given as goal

abbrev pub invariant-loop-event : goal.invariant-loop-event
invariant-loop-event l = l.text.items ≡ l.initial.text.items ++ event_lines (take l.event-index l.event-items)
