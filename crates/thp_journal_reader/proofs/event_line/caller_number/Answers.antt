use Rattle.thp_journal_reader.proofs.event_line.caller_number.Goals as goal

pub returns : goal.returns
returns c = rw c.limits.ensures at c.small_number.ensures.value
