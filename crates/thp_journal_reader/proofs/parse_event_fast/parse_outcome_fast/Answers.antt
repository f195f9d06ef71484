use Rattle.thp_journal_reader.proofs.FastParsingLaws.{parse_freed_fast, parse_queued_fast, parse_stays_fast}
use Rattle.thp_journal_reader.proofs.parse_event_fast.parse_outcome_fast.Goals as goal

pub returns-in-Some : goal.returns-in-Some
returns-in-Some c = parse_stays_fast c.args.text.now c.in-Some.rest.now c.in-Some.ensures

pub returns-in-Some-after_name : goal.returns-in-Some-after_name
returns-in-Some-after_name c = parse_queued_fast c.args.text.now c.in-Some-after_name.rest.now c.in-Some-after_name.ensures

pub returns : goal.returns
returns c = parse_freed_fast c.args.text.now c.in_ok-rest.rest.now c.in_ok-rest.ensures
