use Rattle.std.proofs.Common.{◌≡◌, ◌++◌, Vec, map}
use Rattle.std.specs.Vec.Iter.{into_iter_items}
use Rattle.std.specs.declared.alloc.Global.{Global}
use Rattle.thp_script.specs.declared.script.Command.{Command}
use Rattle.thp_run.proofs.values.sections_of_script.Given as goal

abbrev pub invariant-loop-commands : goal.invariant-loop-commands
invariant-loop-commands l = l.sections ++ map (λ (v : Vec Command Global). v.items) (into_iter_items l.commands-iterator) ≡ l.fn.script.workers
