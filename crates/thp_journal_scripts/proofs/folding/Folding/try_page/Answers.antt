use Rattle.std.proofs.Common.{refl}
use Rattle.thp_journal_scripts.specs.Prelude.{Try}
use Rattle.thp_journal_scripts.proofs.FoldingLaws.{adds_open_try, adds_try, adds_waiting, no_command}
use Rattle.thp_journal_scripts.proofs.WholeScanLaws.{tries_end, tries_more, tries_shut}
use Rattle.thp_journal_scripts.proofs.folding.Folding.try_page.Goals as goal

pub returns-in-Some : goal.returns-in-Some
returns-in-Some c =
    let b = c.in-Some.batch in
    record {
      adds = λ e is. adds_try c.args.ops.now.items c.args.self.now (record c.args.self.now { batch = b }) e c.args.caller b c.in-Some.ensures is refl refl;
      goes_on = λ w. tries_more c.args.self.now c.args.caller b w c.in-Some.ensures;
      plain = λ w s at ne. no_command c.args.ops.now.items c.args.ops.now.items refl;
    }

pub returns-then-has_open : goal.returns-then-has_open
returns-then-has_open c =
    let m = c.settle.new.self in
    record {
      adds = λ e is.
          adds_open_try c.args.ops.now.items c.args.self.now m e c.settle.new.ops.items m c.in_ok-settle.ensures.adds c.push.new.self.items c.args.caller is (c.has_open.ensures c.if-has_open.true) c.in_ok-push.ensures.items refl refl;
      goes_on = λ w. tries_end c.args.self.now c.args.caller m w c.in_default.ensures;
      plain = λ w s at ne. absurd (ne (tries_shut c.args.self.now c.args.caller w c.in_default.ensures s at));
    }

pub returns : goal.returns
returns c = record {
  adds = λ e is.
      adds_waiting c.args.ops.now.items c.args.self.now c.count_event.new.self e c.settle.new.ops.items c.settle.new.self c.in_ok-settle.ensures.adds c.args.caller Try refl is
      c.count_event.ensures.batch c.count_event.ensures.moved;
  goes_on = λ w. tries_end c.args.self.now c.args.caller c.count_event.new.self w c.in_default.ensures;
  plain = λ w s at ne. absurd (ne (tries_shut c.args.self.now c.args.caller w c.in_default.ensures s at));
}
