use Rattle.thp_journal_reader.proofs.event_line.range_number.Goals as goal

pub returns : goal.returns
returns c = rw c.from.ensures at c.small_number.ensures.value
