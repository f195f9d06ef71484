use Rattle.thp_script.proofs.NumberLaws.{no_value}
use Rattle.thp_script.proofs.words.value_of.Goals as goal

pub returns-in_err-value : goal.returns-in_err-value
returns-in_err-value c =
    rw c.from_residual.ensures (no_value c.args.word.now c.loop-byte.byte-index c.loop-byte.value _ c.loop-byte-test.true c.loop-byte.invariant.whole c.in_err-value.ensures)
