use Rattle.std.proofs.Common.{◌≡◌, ◌++◌, replicate}
use Rattle.thp_script.specs.declared.script.Op.TheVariants.{SplitNext}
use Rattle.thp_journal_scripts.proofs.script_batch.put_tries.Given as goal

abbrev pub invariant-loop-try : goal.invariant-loop-try
invariant-loop-try l = l.ops.items ≡ l.fn.ops.items ++ replicate l._try SplitNext
