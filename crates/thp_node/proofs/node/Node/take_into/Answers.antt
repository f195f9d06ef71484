use Rattle.std.proofs.Common.{◌≡◌, ap, sym, ◌∙◌}
use Rattle.thp_history.specs.Prelude.{flight}
use Rattle.thp_history.proofs.TakeRuns.{none_length}
use Rattle.thp_node.specs.Prelude.{NodeState}
use Rattle.thp_node.proofs.Fronts.{fronts_did, front_whole, older_in_front}
use Rattle.thp_node.proofs.ScanLemmas.{took_admitted, batch_admitted, scan_flies}
use Rattle.thp_node.proofs.node.Node.take_into.Given.{Over}
use Rattle.thp_node.proofs.node.Node.take_into.Goals as goal

pub returns-clause-recorded : goal.returns-clause-recorded
returns-clause-recorded g c =
    let e = c.in_ok-count.ensures in
    took_admitted c.args.self.now c.admit_take.new.self c.take_oldest.new.self c.args.caller c.args.n c.in_ok-count.count e.same e.count e.more c.take_oldest.ensures.did

pub returns-clause-batch : goal.returns-clause-batch
returns-clause-batch g c =
    let e = c.in_ok-count.ensures in
    batch_admitted c.args.self.now c.admit_take.new.self c.take_oldest.new.self c.args.caller c.args.n c.in_ok-count.count e.same e.count c.take_oldest.new.batch c.take_oldest.ensures.batch

-- the batch is its caller's whole flight
whole : (g : Over) (c : goal.After-take_oldest g) → flight c.take_oldest.new.self.journal c.take_oldest.new.batch.caller ≡ c.take_oldest.new.batch.pages
whole g c =
    let e = c.in_ok-count.ensures in
    let a : NodeState = c.args.self.now in
    let m : NodeState = c.admit_take.new.self in
    let b : NodeState = c.take_oldest.new.self in
    scan_flies a b c.take_oldest.new.batch c.args.caller c.args.n e.legal (none_length (flight a.journal c.args.caller) e.free)
    (took_admitted a m b c.args.caller c.args.n c.in_ok-count.count e.same e.count e.more c.take_oldest.ensures.did)
    (batch_admitted a m b c.args.caller c.args.n c.in_ok-count.count e.same e.count c.take_oldest.new.batch c.take_oldest.ensures.batch)

pub returns-clause-front : goal.returns-clause-front
returns-clause-front g c = front_whole c.take_oldest.new.self.journal c.take_oldest.new.batch (whole g c)

pub returns-clause-fronts : goal.returns-clause-fronts
returns-clause-fronts g c = fronts_did c.args.self.now c.take_oldest.new.self c.args.caller _ (returns-clause-recorded g c)

pub returns-clause-older : goal.returns-clause-older
returns-clause-older g c =
    let who = ap (λ (b : Rattle.thp_node.specs.Batches.BatchState). b.caller) (returns-clause-batch g c) in
    older_in_front c.take_oldest.new.self.journal c.args.caller c.take_oldest.new.batch.pages (ap (flight c.take_oldest.new.self.journal) (sym who) ∙ whole g c)
