use Rattle.thp_journal_reader.proofs.FastParsingLaws.{parse_loss_fast}
use Rattle.thp_journal_reader.proofs.parse_event_fast.parse_loss_event_fast.Goals as goal

pub returns : goal.returns
returns c = λ v.
    rw c.what-what.ensures
    (parse_loss_fast v c.args.name c.args.caller c.in_ok-page.page c.in_ok-outcome.outcome c.parse_set_fast.new.set c.args.text.now c.in_ok-page.rest.now c.in_ok-outcome.rest.now c.in_ok-rest.rest.now
    c.in_ok-page.ensures.number c.in_ok-outcome.ensures c.in_ok-rest.ensures)
