use Rattle.std.proofs.Common.{◌≡◌, ◌∙◌, ◌++◌, arith}
use Rattle.thp_drawing.specs.Tables.{callers_joined}
use Rattle.thp_drawing.proofs.Counted.{joined_at}
use Rattle.thp_drawing.proofs.table.put_callers.Goals as goal

pub returns : goal.returns
returns c =
    let last : c.loop-caller.caller ≡ 64 = omega (arith, c.loop-caller-test.false, c.loop-caller.auto.caller-end) in
    let all : c.loop-caller.text.items ≡ c.args.text.now.items ++ callers_joined c.args.callers = c.loop-caller.invariant ∙ joined_at _ _ _ last in
    grind (arith, all, c.if-callers-eq0.false)
