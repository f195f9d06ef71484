use Rattle.std.proofs.Common.{◌≡◌, ◌++◌, take}
use Rattle.thp_journal_scripts.specs.Prelude.{commands_text}
use Rattle.thp_journal_scripts.proofs.script_text.put_commands.Given as goal

abbrev pub invariant-loop-op : goal.invariant-loop-op
invariant-loop-op l = l.text.items ≡ l.fn.text.items ++ commands_text l.node (take l.op-index l.ops)
