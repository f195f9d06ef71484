use Rattle.std.proofs.Common.{◌∙◌, refl, sym}
use Rattle.thp_journal_scripts.specs.Prelude.{Idle}
use Rattle.thp_journal_scripts.proofs.FoldingLaws.{adds_completion, adds_nothing, no_command, one_command}
use Rattle.thp_journal_scripts.proofs.WholeScanLaws.{scan_ends, scan_incomplete, scan_is_plain, scan_stays}
use Rattle.thp_journal_scripts.proofs.folding.Folding.end.Goals as goal

pub returns-in_default : goal.returns-in_default
returns-in_default c = record {
  goes_on = scan_incomplete c.args.self.now c.in_default.ensures;
  plain = λ s at ne. no_command c.args.ops.now.items c.args.ops.now.items refl;
  adds = adds_nothing c.args.ops.now.items c.args.self.now c.args.self.now refl refl;
}

pub returns-then-has_flight : goal.returns-then-has_flight
returns-then-has_flight c = record {
  goes_on = scan_stays c.args.self.now (sym c.has_flight.ensures ∙ c.if-has_flight.true);
  plain = λ s at ne. no_command c.args.ops.now.items c.args.ops.now.items refl;
  adds = adds_nothing c.args.ops.now.items c.args.self.now c.args.self.now refl refl;
}

pub returns : goal.returns
returns c = record {
  goes_on = scan_ends c.args.self.now c.in-Some.op c.in-Some.ensures (sym c.has_flight.ensures ∙ c.if-has_flight.false);
  plain = λ s at ne. one_command c.args.ops.now.items c.push.new.self.items c.in-Some.op c.in_ok-push.ensures.items (scan_is_plain c.args.self.now c.in-Some.op c.in-Some.ensures s at ne);
  adds = adds_completion c.args.ops.now.items c.args.self.now (record c.args.self.now { batch = Idle }) c.push.new.self.items c.in-Some.op c.in-Some.ensures c.in_ok-push.ensures.items refl refl;
}
