use Rattle.thp_journal_reader.proofs.FastParsingLaws.{event_read}
use Rattle.thp_journal_reader.proofs.parse_event_fast.parse_event_fast.Goals as goal

pub returns : goal.returns
returns c =
    event_read c.args.version c.args.text.now c.in_ok-caller.rest.now c.in_ok-word.rest.now c.in_ok-caller.caller c.in_ok-word.word c.parse_operands_fast.result _ _
    (rw (c.from.ensures, c.limits-last.ensures) at c.in_ok-caller.ensures.number) c.in_ok-word.ensures (c.parse_operands_fast.ensures c.args.version)
