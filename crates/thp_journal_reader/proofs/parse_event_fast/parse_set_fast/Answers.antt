use Rattle.thp_journal_reader.proofs.FastParsingLaws.{parse_no_frame_fast, parse_set_fast, set_read}
use Rattle.thp_journal_reader.proofs.parse_event_fast.parse_set_fast.Goals as goal

pub returns : goal.returns
returns c =
    parse_set_fast c.in_ok-set.field-0 c.in_ok-word.word.now c.args.text.now c.in_ok-word.rest.now c.in_ok-word.ensures
    (set_read c.in_ok-word.word.now c.set_of_text.result c.ok.result c.in_ok-set.field-0 c.set_of_text.ensures c.ok.ensures.value c.in_ok-set.was)

pub returns-in-Some : goal.returns-in-Some
returns-in-Some c = rw c.empty.ensures (parse_no_frame_fast c.args.text.now c.in-Some.rest.now c.in-Some.ensures)
