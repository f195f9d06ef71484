use Rattle.std.proofs.Common.{◌*◌, Option, length, sym, ap, ◌∙◌, subst, rules, IfErr}
use Rattle.thp_history.specs.declared.refusal.Refusal.{Refusal}
use Rattle.thp_history.specs.Prelude.{flight, take_events}
use Rattle.thp_history.proofs.ScanRuns.{scan_run}
use Rattle.thp_history.proofs.TakeRuns.{none_length}
use Rattle.thp_node.specs.Prelude.{Refused, NodeState}
use Rattle.thp_node.proofs.Fronts.{fronts_emptied}
use Rattle.thp_node.proofs.ScanLemmas.{scan_as_take, took_admitted, batch_admitted, scan_flies, scan_recorded, scan_replied}
use Rattle.thp_node.proofs.node.Node.scan.Goals as goal

pub returns-in_err-count-clause-refused : goal.returns-in_err-count-clause-refused
returns-in_err-count-clause-refused g c =
    let a : NodeState = c.args.self.now in
    let P : Option Refusal → Type 0 = λ why. IfErr c.from_residual.result (Refused a c.admit_take.new.self why (3 * length (take_events a.shape a.journal c.args.caller c.args.n))) in
    subst P (sym (scan_as_take a.shape a.journal c.args.caller)) (search rules)

pub returns-clause-allowed : goal.returns-clause-allowed
returns-clause-allowed g c = scan_as_take c.args.self.now.shape c.args.self.now.journal c.args.caller ∙ c.in_ok-count.ensures.allowed

pub scan_batch-requires-clause-flies : goal.scan_batch-requires-clause-flies
scan_batch-requires-clause-flies g c =
    let e = c.in_ok-count.ensures in
    let a : NodeState = c.args.self.now in
    let m : NodeState = c.admit_take.new.self in
    let b : NodeState = c.take_oldest.new.self in
    scan_flies a b c.take_oldest.new.batch c.args.caller c.args.n e.legal (none_length (flight a.journal c.args.caller) e.free)
    (took_admitted a m b c.args.caller c.args.n c.in_ok-count.count e.same e.count e.more c.take_oldest.ensures.did)
    (batch_admitted a m b c.args.caller c.args.n c.in_ok-count.count e.same e.count c.take_oldest.new.batch c.take_oldest.ensures.batch)

pub returns-clause-recorded : goal.returns-clause-recorded
returns-clause-recorded g c =
    let e = c.in_ok-count.ensures in
    let a : NodeState = c.args.self.now in
    let m : NodeState = c.admit_take.new.self in
    let b : NodeState = c.take_oldest.new.self in
    scan_recorded a b c.take_oldest.new.batch c.args.caller c.args.n e.legal (none_length (flight a.journal c.args.caller) e.free)
    (took_admitted a m b c.args.caller c.args.n c.in_ok-count.count e.same e.count e.more c.take_oldest.ensures.did)
    (batch_admitted a m b c.args.caller c.args.n c.in_ok-count.count e.same e.count c.take_oldest.new.batch c.take_oldest.ensures.batch)
    c.scan_batch.new.self c.scan_batch.ensures.did

pub returns-clause-reply : goal.returns-clause-reply
returns-clause-reply g c =
    let e = c.in_ok-count.ensures in
    let a : NodeState = c.args.self.now in
    let m : NodeState = c.admit_take.new.self in
    let b : NodeState = c.take_oldest.new.self in
    scan_replied a b c.take_oldest.new.batch c.args.caller c.args.n e.legal (none_length (flight a.journal c.args.caller) e.free)
    (took_admitted a m b c.args.caller c.args.n c.in_ok-count.count e.same e.count e.more c.take_oldest.ensures.did)
    (batch_admitted a m b c.args.caller c.args.n c.in_ok-count.count e.same e.count c.take_oldest.new.batch c.take_oldest.ensures.batch)
    c.scan_batch.result c.scan_batch.ensures.reply

pub returns-clause-fronts : goal.returns-clause-fronts
returns-clause-fronts g c =
    let e = c.in_ok-count.ensures in
    let a : NodeState = c.args.self.now in
    let did = returns-clause-recorded g c in
    fronts_emptied a c.scan_batch.new.self c.args.caller _ did
    (ap (λ h. flight h c.args.caller) did.journal ∙ (scan_run a.shape a.journal c.args.caller c.args.n e.legal e.free).left)
