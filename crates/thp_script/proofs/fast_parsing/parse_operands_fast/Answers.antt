use Rattle.thp_script.specs.Prelude.{batch_op, page_op, range_op}
use Rattle.thp_script.proofs.FastParsingLaws.{parse_batch_fast, parse_node_fast, parse_page_fast, parse_range_fast}
use Rattle.thp_script.proofs.fast_parsing.parse_operands_fast.Goals as goal

pub returns-in_ok-node-in-OfNode : goal.returns-in_ok-node-in-OfNode
returns-in_ok-node-in-OfNode c =
    let node = c.in_ok-node-in-OfNode in
    rw c.in-OfNode.is
    (parse_node_fast c.args.settings.now c.in-OfNode.op c.args.text.now node.rest.now node.node (rw c.from-most.ensures at node.ensures.number))

pub returns-in_ok-page-in-OfPage : goal.returns-in_ok-page-in-OfPage
returns-in_ok-page-in-OfPage c =
    let node = c.in_ok-node-in-OfPage in
    let page = c.in_ok-page-in-OfPage in
    rw (c.in-OfPage.is, c.of_page-op.ensures)
    (parse_page_fast c.args.settings.now (page_op c.in-OfPage.call) c.args.text.now node.rest.now page.rest.now node.node page.page
    (rw c.from-most.ensures at node.ensures.number) page.ensures.number)

pub returns-in_ok-count-in-OfRange : goal.returns-in_ok-count-in-OfRange
returns-in_ok-count-in-OfRange c =
    let node = c.in_ok-node-in-OfRange in
    let page = c.in_ok-page-in-OfRange in
    let first = c.in_ok-first-in-OfRange in
    let count = c.in_ok-count-in-OfRange in
    rw (c.in-OfRange.is, c.op-op.ensures)
    (parse_range_fast c.args.settings.now (range_op c.in-OfRange.call) c.args.text.now node.rest.now page.rest.now first.rest.now count.rest.now
    node.node page.page first.first count.count
    (rw c.from-most.ensures at node.ensures.number) page.ensures.number first.ensures.number count.ensures.number)

pub returns-in_ok-count-in-OfBatch : goal.returns-in_ok-count-in-OfBatch
returns-in_ok-count-in-OfBatch c =
    let node = c.in_ok-node-in-OfBatch in
    let count = c.in_ok-count-in-OfBatch in
    rw (c.in-OfBatch.is, c.op-op-in-OfBatch.ensures)
    (parse_batch_fast c.args.settings.now (batch_op c.in-OfBatch.call) c.args.text.now node.rest.now count.rest.now node.node count.count
    (rw c.from-most.ensures at node.ensures.number) count.ensures.number)
