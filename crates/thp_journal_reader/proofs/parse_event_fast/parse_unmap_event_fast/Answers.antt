use Rattle.thp_journal_reader.proofs.FastParsingLaws.{parse_unmap_fast}
use Rattle.thp_journal_reader.proofs.parse_event_fast.parse_unmap_event_fast.Goals as goal

pub returns : goal.returns
returns c = λ v.
    parse_unmap_fast v c.args.caller c.in_ok-page.page c.in_ok-first.first c.in_ok-count.count c.in_ok-outcome.outcome c.parse_set_fast.new.set
    c.args.text.now c.in_ok-page.rest.now c.in_ok-first.rest.now c.in_ok-count.rest.now c.in_ok-outcome.rest.now c.in_ok-rest.rest.now
    c.in_ok-page.ensures.number (rw c.from.ensures at c.in_ok-first.ensures.number) (rw c.from-2.ensures at c.in_ok-count.ensures.number) c.in_ok-outcome.ensures c.in_ok-rest.ensures
