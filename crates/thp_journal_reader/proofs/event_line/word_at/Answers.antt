use Rattle.std.proofs.Common.{sym}
use Rattle.thp_journal_reader.proofs.FastParsingLaws.{word_stands}
use Rattle.thp_journal_reader.proofs.event_line.word_at.Goals as goal

pub returns : goal.returns
returns c = word_stands c.args.version c.args.name.now c.args.text.now c.in_ok-rest.rest.now c.in-Ok.word (sym c.in-Ok.ensures) c.in_ok-rest.ensures
