use Rattle.std.proofs.Common.{◌≡◌, ◌++◌, ◌∷◌, ◌≤◌, ◌+◌, length}
use Rattle.std.specs.Vec.Iter.{into_iter_items}
use Rattle.thp_history.specs.Prelude.{max_callers}
use Rattle.thp_run.specs.Sections.{numbered}
use Rattle.thp_run.proofs.script_run.sections.Given as goal

abbrev pub invariant-loop-worked : goal.invariant-loop-worked
invariant-loop-worked l = record {
  reported : l.all.items ++ numbered (length l.all.items) (into_iter_items l.worked-iterator) ≡ numbered 0 (l.fn.setup ∷ l.fn.workers.items);
  few : length l.all.items + length (into_iter_items l.worked-iterator) ≤ max_callers;
}
