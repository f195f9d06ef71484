use Rattle.std.proofs.Common.{refl, subst}
use Rattle.thp_journal_scripts.specs.Prelude.{IsAtPlace, Take, Taking}
use Rattle.thp_journal_scripts.proofs.FoldingLaws.{adds_first_take, adds_take, adds_waiting, no_command}
use Rattle.thp_journal_scripts.proofs.WholeScanLaws.{takes_first, takes_more, takes_not, takes_shut}
use Rattle.thp_journal_scripts.proofs.folding.Folding.take.Goals as goal

pub returns-in-Some : goal.returns-in-Some
returns-in-Some c =
    let b = c.in-Some.batch in
    record {
      adds = λ e is. adds_take c.args.ops.now.items c.args.self.now (record c.args.self.now { batch = b }) e c.args.caller b c.in-Some.ensures is refl refl;
      goes_on = λ p. takes_more c.args.self.now c.args.caller b p c.in-Some.ensures;
      plain = λ p s at ne. no_command c.args.ops.now.items c.args.ops.now.items refl;
    }

pub returns-then-is_free : goal.returns-then-is_free
returns-then-is_free c =
    let m = c.put_back_nothing.new.self in
    let x = c.saturating_add-self.result in
    record {
      adds = λ e is.
          adds_first_take c.args.ops.now.items c.args.self.now (record m { flight = x; flights = x; batch = Taking c.args.caller 1 }) e c.put_back_nothing.new.ops.items m
          c.in_ok-put_back_nothing.ensures.adds c.args.caller is (c.is_free.ensures.sound c.if-is_free.true) refl refl;
      goes_on = λ p. takes_first c.args.self.now c.args.caller m x p c.in_default.ensures c.in_ok-put_back_nothing.ensures.idle;
      plain = λ p s at ne.
          no_command c.args.ops.now.items c.put_back_nothing.new.ops.items (c.in_ok-put_back_nothing.ensures.idle_ops (subst (λ t. IsAtPlace t c.args.self.now) (takes_shut c.args.self.now c.args.caller p c.in_default.ensures s at ne) at).batch_is);
    }

pub returns : goal.returns
returns c =
    let m = c.put_back_nothing.new.self in
    record {
      adds = λ e is.
          adds_waiting c.args.ops.now.items c.args.self.now c.wait.new.self e c.put_back_nothing.new.ops.items m c.in_ok-put_back_nothing.ensures.adds c.args.caller Take refl is
          c.wait.ensures.batch c.in_ok-wait.ensures.moves;
      goes_on = λ p. takes_not c.args.self.now c.args.caller m c.wait.new.self p c.in_default.ensures c.in_ok-put_back_nothing.ensures.idle (λ idle none. let free = c.is_free.ensures.complete idle none in cc);
      plain = λ p s at ne.
          no_command c.args.ops.now.items c.put_back_nothing.new.ops.items (c.in_ok-put_back_nothing.ensures.idle_ops (subst (λ t. IsAtPlace t c.args.self.now) (takes_shut c.args.self.now c.args.caller p c.in_default.ensures s at ne) at).batch_is);
    }
