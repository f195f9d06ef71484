use Rattle.thp_journal_reader.proofs.FastParsingLaws.{parse_page_fast, parse_range_fast, parse_split_fast}
use Rattle.thp_journal_reader.proofs.parse_event_fast.parse_operands_fast.Goals as goal

pub returns-in_ok-page-in-OfPage : goal.returns-in_ok-page-in-OfPage
returns-in_ok-page-in-OfPage c = λ v.
    let page = c.in_ok-page-in-OfPage in
    rw (c.in-OfPage.is, c.what-what.ensures) (parse_page_fast v c.in-OfPage.name c.args.caller page.page c.args.text.now page.rest.now page.ensures.number)

pub returns-in_ok-count-in-OfRange : goal.returns-in_ok-count-in-OfRange
returns-in_ok-count-in-OfRange c = λ v.
    let page = c.in_ok-page-in-OfRange in
    let first = c.in_ok-first-in-OfRange in
    let count = c.in_ok-count-in-OfRange in
    rw (c.in-OfRange.is, c.what-what-in-OfRange.ensures)
    (parse_range_fast v c.in-OfRange.name c.args.caller page.page first.first count.count c.args.text.now page.rest.now first.rest.now count.rest.now
    page.ensures.number (rw c.from.ensures at first.ensures.number) (rw c.from-in-OfRange.ensures at count.ensures.number))

pub returns-in_ok-rest-in-Split : goal.returns-in_ok-rest-in-Split
returns-in_ok-rest-in-Split c = λ v.
    let page = c.in_ok-number-in-Split in
    rw c.in-Split.is (parse_split_fast v c.args.caller page.number c.parse_set_fast.new.set c.args.text.now page.rest.now c.in_ok-rest-in-Split.rest.now page.ensures.number c.in_ok-rest-in-Split.ensures)

pub returns-in-OfLoss : goal.returns-in-OfLoss
returns-in-OfLoss c = λ v. rw c.in-OfLoss.is (c.parse_loss_event_fast.ensures v)

pub returns-in-UnmapSub : goal.returns-in-UnmapSub
returns-in-UnmapSub c = λ v. rw c.in-UnmapSub.is (c.parse_unmap_event_fast.ensures v)
